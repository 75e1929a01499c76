use Rattle.iiif_pixel.proofs.CropLaws.{quality-crop}
use Rattle.iiif_pixel.proofs.laws.quality_of_crop.Goals as goal

pub returns : goal.returns
returns c = quality-crop
