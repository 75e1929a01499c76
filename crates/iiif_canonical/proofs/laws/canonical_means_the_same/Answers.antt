use Rattle.iiif_canonical.proofs.SameImages.{image_canonical}
use Rattle.iiif_canonical.proofs.laws.canonical_means_the_same.Goals as goal

pub returns : goal.returns
returns c = image_canonical
