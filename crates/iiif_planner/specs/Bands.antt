-- Bands: rows of a turned result, and the items of a plan that have a place of them.
--
-- `ListsThose P keys items`: the places in the list of those of which P holds.
-- `tile_places`, `block_places`, `grown_places`: the places of the scaled result that an item of each kind of plan has.
-- `ReachesInto`: one of these places is turned into the band. `ListsItems`: a list has just the items of which this holds.
-- `band_rect d rows n`, `IsBand`: band n. `AreBands`: all bands of a result.
-- `IsPlanned`: a plan of a request, as `plan` ensures it.
use Rattle.std.specs.Prelude.{◌≡◌, ℕ, ◌+◌, ◌-◌, ◌*◌, ◌^◌, ◌<◌, ◌↔◌, List, [], ◌∷◌, Bool, true, All, map, min, if◌then◌else◌}
use Rattle.std.specs.Int.{div_ceil}
use Rattle.std.specs.List.{range_with_len}
use Rattle.iiif_pixel.specs.Geometry.{HasPlace, LiesIn, sides_of}
use Rattle.iiif_pixel.specs.TurnPlaces.{turned_dim, turned_place}
use Rattle.iiif_pixel.specs.declared.geometry.Dim.{Dim}
use Rattle.iiif_pixel.specs.declared.geometry.Rect.{Rect}
use Rattle.iiif_pixel.specs.declared.geometry.Turn.{Turn}
use Rattle.iiif_area.specs.Places.{part_of, places_of}
use Rattle.iiif_canonical.specs.declared.resolved.Resolved.{Resolved}
use Rattle.iiif_keys.specs.Blocks.{square}
use Rattle.iiif_keys.specs.declared.keys.TileKey.{TileKey}
use Rattle.iiif_keys.specs.declared.keys.SumKey.{SumKey}
use Rattle.iiif_planner.specs.Plans.{IsPlan}
use Rattle.iiif_planner.specs.declared.plans.Plan.{Plan}
use Rattle.iiif_planner.specs.declared.plans.Plan.TheVariants.{Copy, Grow, Sum}
use Rattle.iiif_planner.specs.declared.banding.Band.{Band}

-- where the elements of a list that pass a test stand, counted from n on, in the list's order
unfoldable pub places_from : {K : Type 0} → ℕ → (K → Bool) → List K → List ℕ
places_from n test [] = []
places_from n test (k ∷ ks) = if test k then n ∷ places_from (n + 1) test ks else places_from (n + 1) test ks

-- the places in a list of those of its elements of which P holds: in the list's order, each and no other
abbrev pub ListsThose : {K : Type 0} → (K → Type 0) → List K → List ℕ → Type 0
ListsThose {K} P keys items = (test : K → Bool) × ((k : K) → (test k ≡ true) ↔ P k) × (items ≡ places_from 0 test keys)

-- the places of the scaled result, before it is turned, that a tile of a plan has: its part of the region, which keeps its sides
abbrev pub tile_places : Rect → TileKey → Rect
tile_places region k = part_of (square k.edge k.tx k.ty) region

-- the places that the block of a plan has sums for
abbrev pub block_places : SumKey → Rect
block_places k = places_of (sides_of k.rect) k.size (part_of (square (2 ^ k.level * k.edge) k.bx k.by) k.rect)

-- the places that a tile of a plan has samples for where a side of the result is above the region's: by the rule of a block's
abbrev pub grown_places : Rect → Dim → TileKey → Rect
grown_places region size k = places_of (sides_of region) size (part_of (square k.edge k.tx k.ty) region)

-- one of these places of a result with the sides d is turned into a place of the rectangle
abbrev pub ReachesInto : Turn → Dim → Rect → Rect → Type 0
ReachesInto t d places rect =
    (x : ℕ) × (y : ℕ) × (x < d.w) × (y < d.h) × HasPlace places x y × HasPlace rect (turned_place t d x y).0 (turned_place t d x y).1

-- the items of a plan that have a place of a rectangle of the turned result
abbrev pub ListsItems : Resolved → Plan → Rect → List ℕ → Type 0
ListsItems r (Copy keys) rect items = ListsThose (λ k. ReachesInto r.turn r.size (tile_places r.rect k) rect) keys.items items
ListsItems r (Grow keys) rect items = ListsThose (λ k. ReachesInto r.turn r.size (grown_places r.rect r.size k) rect) keys.items items
ListsItems r (Sum keys) rect items = ListsThose (λ k. ReachesInto r.turn r.size (block_places k) rect) keys.items items

-- Band n of a turned result that is cut from the top into bands of so many rows, the last perhaps of fewer.
abbrev pub band_rect : Dim → ℕ → ℕ → Rect
band_rect d rows n = record { x = 0; y = n * rows; w = d.w; h = min rows (d.h - n * rows) }

-- Band i of a result that is cut into bands of so many rows.
pub record IsBand (r : Resolved) (plan : Plan) (rows i : ℕ) (b : Band) : Type 0 where
  pub rect : b.rect ≡ band_rect (turned_dim r.turn r.size) rows i
  pub items : ListsItems r plan b.rect b.items.items

-- The bands of a result: one below the other, all its rows; each lists the items of the plan that have a place of it.
pub record AreBands (r : Resolved) (plan : Plan) (rows : ℕ) (bs : List Band) : Type 0 where
  pub rects : map (λ b. b.rect) bs ≡ map (band_rect (turned_dim r.turn r.size) rows)
      (range_with_len 0 (div_ceil (turned_dim r.turn r.size).h rows))
  pub items : All (λ b. ListsItems r plan b.rect b.items.items) bs

-- A plan of what a request comes to, for an image that has the region.
pub record IsPlanned (r : Resolved) (plan : Plan) : Type 0 where
  pub name : List ℕ
  pub edge : ℕ
  pub image : Dim
  pub channels : ℕ
  pub room : ℕ
  pub inside : LiesIn r.rect image
  pub small : (image.w < 2 ^ 32) × (image.h < 2 ^ 32)
  pub is_plan : IsPlan name edge image channels room r plan
