use Rattle.std.proofs.Common.{append_assoc}
use Rattle.iiif_metrics.specs.Times.{count_line}
use Rattle.iiif_metrics.proofs.times.push_count.Goals as goal

pub returns : goal.returns
unfolding count_line
returns c = simp append_assoc c.write.ensures.bytes
