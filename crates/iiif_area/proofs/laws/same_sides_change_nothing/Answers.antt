use Rattle.iiif_area.proofs.SameSides.{same_sides}
use Rattle.iiif_area.proofs.laws.same_sides_change_nothing.Goals as goal

pub returns : goal.returns
returns c = same_sides
