-- Plans as lists of keys: of which tiles, or of which blocks, the image of a request is made.
use Rattle.std.specs.Prelude.{ℕ, List, Result, map, if◌then◌else◌}
use Rattle.iiif_pixel.specs.Picture.{Picture, dim_of}
use Rattle.iiif_pixel.specs.declared.geometry.Kind.{Kind}
use Rattle.iiif_canonical.specs.Resolution.{resolved_of}
use Rattle.iiif_keys.specs.Shapes.{shape_of}
use Rattle.iiif_planner.specs.Items.{keeps_size, is_scaled_up, level_for, tiles_for, blocks_for}
use Rattle.iiif_planner.specs.declared.plans.Plan.{Plan}
use Rattle.iiif_planner.specs.declared.plans.Plan.TheVariants.{Copy, Grow, Sum}
use Rattle.iiif_machine.specs.Scenes.{Scene}
use Rattle.iiif_machine.specs.Keys.{Key}
use Rattle.iiif_machine.specs.declared.keys.Key.TheVariants as key
pub use Rattle.iiif_request.specs.declared.request.Request.{Request}
pub use Rattle.iiif_request.specs.declared.request.Refusal.{Refusal}
pub use Rattle.iiif_canonical.specs.declared.resolved.Resolved.{Resolved}

-- gray or RGB
abbrev pub kind_of : Picture → Kind
kind_of p = (shape_of p).kind

-- what a request comes to for a picture, or its first refusal
unfoldable pub resolved : Scene → Picture → Request → Result Resolved Refusal
resolved s p q = resolved_of q (dim_of p) (kind_of p) s.limits

-- the level of the blocks of its plan
abbrev pub level_of : Scene → Picture → Resolved → ℕ
level_of s p r = level_for s.edge (dim_of p) p.channels s.room r

-- how an image is made: tiles are copied, or scaled up, or the sums of blocks of a level are finished
pub data Way : Type 0 where
  copied : Way
  grown : Way
  summed : (level : ℕ) → Way

-- tiles are copied where the region keeps its size, and scaled up where a side of the result is above its side
abbrev pub way_of : Scene → Picture → Resolved → Way
way_of s p r = if keeps_size r then copied else (if is_scaled_up r then grown else summed (level_of s p r))

-- the keys of the tiles, or of the blocks, that the region meets, row by row
abbrev pub keys_met : Scene → List ℕ → Resolved → Way → List Key
keys_met s name r copied = map key.Tile (tiles_for name s.edge r)
keys_met s name r grown = map key.Tile (tiles_for name s.edge r)
keys_met s name r (summed level) = map key.Sum (blocks_for name s.edge level r)

-- the items of a request's plan
unfoldable pub items : Scene → List ℕ → Picture → Resolved → List Key
items s name p r = keys_met s name r (way_of s p r)

-- the keys of a plan that was made
abbrev pub keys_in : Plan → List Key
keys_in (Copy keys) = map key.Tile keys.items
keys_in (Grow keys) = map key.Tile keys.items
keys_in (Sum keys) = map key.Sum keys.items
