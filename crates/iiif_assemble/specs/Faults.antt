-- Why a band could not be made.
use Rattle.std.specs.Prelude.{ℕ, List, length}
use Rattle.std.specs.List.{range_with_len}
use Rattle.iiif_keys.specs.declared.fault.Fault.{Fault}
use Rattle.iiif_keys.specs.declared.keys.TileKey.{TileKey}
use Rattle.iiif_keys.specs.declared.keys.SumKey.{SumKey}
use Rattle.iiif_keys.specs.declared.values.SumVal.{SumVal}
use Rattle.iiif_keys.specs.declared.values.TileVal.{TileVal}
use Rattle.iiif_planner.specs.declared.plans.Plan.{Plan}
use Rattle.iiif_planner.specs.declared.plans.Plan.TheVariants.{Copy, Grow, Sum}
use Rattle.iiif_assemble.specs.Gathering.{IsItemFault}

-- lack of memory, or the fault of the first of these items of the plan that failed
abbrev pub IsBandFault : (TileKey → TileVal → Type 0) → (TileKey → Fault → Type 0) → (SumKey → SumVal → Type 0) →
    (SumKey → Fault → Type 0) → Plan → List ℕ → Fault → Type 0
IsBandFault tile tile_failed sum sum_failed (Copy keys) items fault = IsItemFault tile tile_failed keys.items items fault
IsBandFault tile tile_failed sum sum_failed (Grow keys) items fault = IsItemFault tile tile_failed keys.items items fault
IsBandFault tile tile_failed sum sum_failed (Sum keys) items fault = IsItemFault sum sum_failed keys.items items fault

-- the same of a plan of blocks alone
abbrev pub IsSumsFault : (SumKey → SumVal → Type 0) → (SumKey → Fault → Type 0) → Plan → List ℕ → Fault → Type 0
IsSumsFault sum sum_failed (Copy keys) items fault = ⊥
IsSumsFault sum sum_failed (Grow keys) items fault = ⊥
IsSumsFault sum sum_failed (Sum keys) items fault = IsItemFault sum sum_failed keys.items items fault

-- the same of all items of a plan
abbrev pub IsPlanFault : (TileKey → TileVal → Type 0) → (TileKey → Fault → Type 0) → (SumKey → SumVal → Type 0) →
    (SumKey → Fault → Type 0) → Plan → Fault → Type 0
IsPlanFault tile tile_failed sum sum_failed (Copy keys) fault =
    IsItemFault tile tile_failed keys.items (range_with_len 0 (length keys.items)) fault
IsPlanFault tile tile_failed sum sum_failed (Grow keys) fault =
    IsItemFault tile tile_failed keys.items (range_with_len 0 (length keys.items)) fault
IsPlanFault tile tile_failed sum sum_failed (Sum keys) fault =
    IsItemFault sum sum_failed keys.items (range_with_len 0 (length keys.items)) fault
