use Rattle.iiif_log.proofs.QueueLemmas.{counts}
use Rattle.iiif_log.proofs.laws.counts_add_up.Goals as goal

pub returns : goal.returns
returns c = counts
