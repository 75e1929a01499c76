use Rattle.iiif_pixel.proofs.CropLaws.{rows_after_rows, crop-all}
use Rattle.iiif_pixel.proofs.laws.bands_follow.Goals as goal

pub returns : goal.returns
returns c = record { bands = rows_after_rows; all = crop-all }
