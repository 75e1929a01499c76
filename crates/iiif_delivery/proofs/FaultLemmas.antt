-- Faults of a band's blocks.
use Rattle.std.proofs.Common.{ℕ, List}
use Rattle.iiif_keys.specs.declared.fault.Fault.{Fault}
use Rattle.iiif_keys.specs.declared.keys.SumKey.{SumKey}
use Rattle.iiif_keys.specs.declared.keys.TileKey.{TileKey}
use Rattle.iiif_keys.specs.declared.values.SumVal.{SumVal}
use Rattle.iiif_keys.specs.declared.values.TileVal.{TileVal}
use Rattle.iiif_planner.specs.declared.plans.Plan.{Plan}
use Rattle.iiif_planner.specs.declared.plans.Plan.TheVariants.{Copy, Grow, Sum}
use Rattle.iiif_assemble.specs.Faults.{IsBandFault, IsSumsFault}

-- that of a plan of blocks is one of the band
pub blocks_fault : (tile : TileKey → TileVal → Type 0) (tile_failed : TileKey → Fault → Type 0) (sum : SumKey → SumVal → Type 0)
    (sum_failed : SumKey → Fault → Type 0) (plan : Plan) (items : List ℕ) (fault : Fault)
    → IsSumsFault sum sum_failed plan items fault → IsBandFault tile tile_failed sum sum_failed plan items fault
blocks_fault tile tile_failed sum sum_failed (Copy keys) items fault h = absurd h
blocks_fault tile tile_failed sum sum_failed (Grow keys) items fault h = absurd h
blocks_fault tile tile_failed sum sum_failed (Sum keys) items fault h = h
