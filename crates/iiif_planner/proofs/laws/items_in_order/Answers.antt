use Rattle.iiif_planner.proofs.ItemLaws.{places_rise, places_are}
use Rattle.iiif_planner.proofs.laws.items_in_order.Goals as goal

pub returns-clause-rise : goal.returns-clause-rise
returns-clause-rise g c = places_rise _

pub returns-clause-those : goal.returns-clause-those
returns-clause-those g c = places_are _
