use Rattle.iiif_metrics.specs.declared.metrics.Telling.{Telling}
use Rattle.iiif_metrics.proofs.serve.send_answer.Goals as goal

pub returns : goal.returns
returns g c =
    let telling : Telling = record { metrics = c.measure.result; peers = c.in_ok-peers.field-0; services = c.services.result } in
    let sent = c.send_text.ensures in
    (sent.0, sent.1, (telling, rw (c.as_slice.ensures.value, c.in_ok-text.ensures) at sent.2))
