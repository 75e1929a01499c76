use Rattle.iiif_tiff.proofs.OnePicture.{one_picture}
use Rattle.iiif_tiff.proofs.shows_one_picture.Goals as goal

pub returns : goal.returns
returns c = one_picture
