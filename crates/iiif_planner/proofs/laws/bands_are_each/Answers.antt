use Rattle.iiif_planner.proofs.CutLaws.{band_is_each}
use Rattle.iiif_planner.proofs.laws.bands_are_each.Goals as goal

pub returns : goal.returns
returns c = band_is_each
