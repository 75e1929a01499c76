use Rattle.iiif_area.proofs.AreaLaws.{area_same, area_elsewhere}
use Rattle.iiif_area.proofs.PlaceLaws.{places_grow}
use Rattle.iiif_area.proofs.laws.parts_are_apart.Goals as goal

pub returns : goal.returns
returns c = record { elsewhere = area_elsewhere; own_samples = area_same; places = places_grow }
