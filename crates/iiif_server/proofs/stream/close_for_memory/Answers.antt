use Rattle.iiif_answers.specs.Responses.{want_of_memory}
use Rattle.iiif_server.proofs.StreamLemmas.{closing_sent}
use Rattle.iiif_server.proofs.stream.close_for_memory.Goals as goal

pub returns : goal.returns
returns g c =
    let sent = c.send_message.ensures.memory in (
      sent.0,
      sent.1,
      closing_sent ((b : g.row.W.Denot) × g.W.Outlet.fails b c.send_message.new.out) want_of_memory sent.0 c.send_message.result sent.2,
    )
