use Rattle.iiif_pixel.proofs.Whole.{whole_crop, whole_turn, whole_quality}
use Rattle.iiif_pixel.proofs.ScaleLemmas.{whole_scale}
use Rattle.iiif_pixel.proofs.laws.whole_stays_whole.Goals as goal

pub returns : goal.returns
returns c = record { crop = whole_crop; turn = whole_turn; quality = whole_quality; scale = whole_scale }
