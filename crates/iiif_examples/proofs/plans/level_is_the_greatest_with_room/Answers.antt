use Rattle.std.proofs.Common.{refl}
use Rattle.iiif_planner.proofs.Greatest.{level_greatest}
use Rattle.iiif_examples.specs.Pictures.{sides}
use Rattle.iiif_examples.proofs.Computing.{plans}
use Rattle.iiif_examples.proofs.plans.level_is_the_greatest_with_room.Goals as goal

pub returns-clause-one : goal.returns-clause-one
unfolding plans
returns-clause-one c = (level_greatest 2 (sides 4 4) (sides 4 4) (sides 2 2) 1 65536 1).1 refl
