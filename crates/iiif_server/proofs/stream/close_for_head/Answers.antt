use Rattle.iiif_request.specs.declared.request.Refusal.TheVariants as refusal
use Rattle.iiif_answers.specs.Responses.{refusal_response}
use Rattle.iiif_server.proofs.StreamLemmas.{head_closing}
use Rattle.iiif_server.proofs.stream.close_for_head.Goals as goal

pub returns : goal.returns
returns g c =
    head_closing (refusal_response refusal.Head) g.W.Write.contents g.W.Outlet.fails c.args.out.now c.send_message.new.out
    c.refusal_message-message.result
    c.send_message.result c.refusal_message-message.ensures c.send_message.ensures.made c.send_message.ensures.memory
