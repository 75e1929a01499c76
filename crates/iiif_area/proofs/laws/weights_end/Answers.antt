use Rattle.iiif_area.proofs.WeightLaws.{weight_below_places, weight_above_places}
use Rattle.iiif_area.proofs.laws.weights_end.Goals as goal

pub returns : goal.returns
returns c = record { before = weight_below_places; from = weight_above_places }
