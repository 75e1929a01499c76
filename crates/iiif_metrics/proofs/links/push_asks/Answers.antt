use Rattle.iiif_metrics.proofs.links.push_asks.Goals as goal

pub returns : goal.returns
returns c = rw (c.in_ok-push_link_samples.ensures, c.as_str.ensures.value, c.ask_samples_of-samples.ensures)
