use Rattle.std.proofs.Common.{arith}
use Rattle.std.specs.Prelude.{codes}
use Rattle.iiif_planner.proofs.Covers.{tiles_cover}
use Rattle.iiif_examples.specs.Pictures.{at, sides}
use Rattle.iiif_examples.proofs.Computing.{plans}
use Rattle.iiif_examples.proofs.plans.tiles_of_a_region_stand_row_by_row.Goals as goal

pub returns-clause-cover : goal.returns-clause-cover
unfolding plans
returns-clause-cover c =
    tiles_cover (codes "a") 2 (sides 4 4) 1 (at 1 3 3 1) (record { some = omega arith; within = omega arith })
    (record { columns = omega arith; rows = omega arith }) (omega arith) (omega arith)
