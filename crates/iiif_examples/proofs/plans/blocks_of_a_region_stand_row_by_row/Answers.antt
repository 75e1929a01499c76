use Rattle.std.proofs.Common.{arith}
use Rattle.std.specs.Prelude.{codes}
use Rattle.iiif_planner.proofs.Covers.{blocks_cover}
use Rattle.iiif_examples.specs.Pictures.{at, sides}
use Rattle.iiif_examples.proofs.Computing.{plans}
use Rattle.iiif_examples.proofs.plans.blocks_of_a_region_stand_row_by_row.Goals as goal

pub returns-clause-cover : goal.returns-clause-cover
unfolding plans
returns-clause-cover c =
    blocks_cover (codes "a") 2 (sides 4 4) 1 (at 0 0 4 4) (sides 2 2) 1 (record { some = omega arith; within = omega arith }) (omega arith)
    (record { columns = omega arith; rows = omega arith }) (omega arith, omega arith) (omega arith, omega arith) (omega arith)
