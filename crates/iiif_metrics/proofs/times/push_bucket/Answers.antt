use Rattle.std.proofs.Common.{append_assoc}
use Rattle.iiif_metrics.specs.Times.{bucket_line}
use Rattle.iiif_metrics.proofs.times.push_bucket.Goals as goal

pub returns : goal.returns
unfolding bucket_line
returns c = simp append_assoc c.write.ensures.bytes
