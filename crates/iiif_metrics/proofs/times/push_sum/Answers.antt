use Rattle.std.proofs.Common.{append_assoc}
use Rattle.iiif_metrics.specs.Times.{sum_line}
use Rattle.iiif_metrics.proofs.times.push_sum.Goals as goal

pub returns : goal.returns
unfolding sum_line
returns c = simp append_assoc c.write.ensures.bytes
