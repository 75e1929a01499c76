use Rattle.iiif_pixel.proofs.CropLaws.{crop-scale, sample_at-crop-scale}
use Rattle.iiif_pixel.proofs.laws.crop_of_scale.Goals as goal

pub returns : goal.returns
returns c = record { picture = crop-scale; samples = sample_at-crop-scale }
