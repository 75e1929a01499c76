use Rattle.iiif_pixel.proofs.CropLaws.{crop-crop}
use Rattle.iiif_pixel.proofs.laws.crop_of_crop.Goals as goal

pub returns : goal.returns
returns c = crop-crop
