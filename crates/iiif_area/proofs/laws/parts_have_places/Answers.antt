use Rattle.iiif_area.proofs.GridLaws.{has_place-tested}
use Rattle.iiif_area.proofs.PlaceLaws.{part_is_common}
use Rattle.iiif_area.proofs.laws.parts_have_places.Goals as goal

pub returns : goal.returns
returns c = record { common = part_is_common; tested = has_place-tested }
