use Rattle.std.proofs.Common.{rules}
use Rattle.iiif_pixel.specs.Scaling.{overlap, weight_of}
use Rattle.iiif_area.proofs.weights.weight.Goals as goal

pub returns : goal.returns
unfolding weight_of overlap
returns c = search rules
