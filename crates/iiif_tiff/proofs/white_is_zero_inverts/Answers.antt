use Rattle.iiif_tiff.proofs.Samples.{inverted}
use Rattle.iiif_tiff.proofs.white_is_zero_inverts.Goals as goal

pub returns : goal.returns
returns c = inverted
