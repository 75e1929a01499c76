use Rattle.iiif_metrics.proofs.serve.metrics_message.Goals as goal

pub returns : goal.returns
returns c = rw (c.in_ok-head.ensures, c.as_slice-text.ensures.value, c.in_ok-body.ensures) at c.concat.ensures
