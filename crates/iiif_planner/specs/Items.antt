-- The plan of a request as a list: its tiles or its blocks, row by row.
--
-- `each_square f s`: what f makes of each of the squares s, row by row.
-- `squares_met side region`: the squares of a grid that have a place of the region.
-- `tiles_for`, `blocks_for`: the tiles of a request, and its blocks of a level; `level_for`: that level.
-- `HasItems`: a plan is just that list.
use Rattle.std.specs.Prelude.{◌≡◌, ℕ, ◌+◌, ◌-◌, ◌*◌, ◌/◌, ◌^◌, List, [], ◌∷◌, ◌++◌, Bool, true, false, ◌&&◌, ◌||◌, ◌==◌, not, nat_le, max}
use Rattle.std.specs.Prelude.{if◌then◌else◌}
use Prim.Native.Nat.{zero, suc}
use Rattle.std.specs.Int.{div_ceil}
use Rattle.iiif_pixel.specs.declared.geometry.Dim.{Dim}
use Rattle.iiif_pixel.specs.declared.geometry.Rect.{Rect}
use Rattle.iiif_pixel.specs.Geometry.{sides_of}
use Rattle.iiif_canonical.specs.Sizes.{is_larger}
use Rattle.iiif_canonical.specs.declared.resolved.Resolved.{Resolved}
use Rattle.iiif_keys.specs.declared.keys.TileKey.{TileKey}
use Rattle.iiif_keys.specs.declared.keys.SumKey.{SumKey}
use Rattle.iiif_planner.specs.Levels.{sums_at_most}
use Rattle.iiif_planner.specs.declared.squares.Squares.{Squares}
use Rattle.iiif_planner.specs.declared.plans.Plan.{Plan}
use Rattle.iiif_planner.specs.declared.plans.Plan.TheVariants.{Copy, Grow, Sum}

-- what f makes of n squares of row j, from column `left` on
unfoldable pub row_from : {K : Type 0} → (ℕ → ℕ → K) → ℕ → ℕ → ℕ → List K
row_from f left j zero = []
row_from f left j (suc n) = row_from f left j n ++ f (left + n) j ∷ []

-- what f makes of the squares of n rows from row `top` on, so many columns from column `left` on in each
unfoldable pub rows_from : {K : Type 0} → (ℕ → ℕ → K) → ℕ → ℕ → ℕ → ℕ → List K
rows_from f left columns top zero = []
rows_from f left columns top (suc n) = rows_from f left columns top n ++ row_from f left (top + n) columns

-- what f makes of each of some squares, row by row
abbrev pub each_square : {K : Type 0} → (ℕ → ℕ → K) → Squares → List K
each_square f s = rows_from f s.left (s.right - s.left) s.top (s.bottom - s.top)

-- The squares with this side, of the grid over an image, that have a place of the region: IIIF Image API 3.0, section 5.4 (tiles), whose
-- column and row are the quotients of a place by the side.
abbrev pub squares_met : ℕ → Rect → Squares
squares_met side region = record {
  left = region.x / side;
  right = div_ceil (region.x + region.w) side;
  top = region.y / side;
  bottom = div_ceil (region.y + region.h) side;
}

-- the key of the tile in column i and row j
abbrev pub tile_at : List ℕ → ℕ → ℕ → ℕ → TileKey
tile_at name edge i j = record { name = name; edge = edge; tx = i; ty = j }

-- the key of the block in column i and row j
abbrev pub block_at : List ℕ → ℕ → Rect → Dim → ℕ → ℕ → ℕ → SumKey
block_at name edge region size level i j = record {
  name = name;
  edge = edge;
  rect = region;
  size = size;
  level = level;
  bx = i;
  by = j;
}

-- the region keeps its size
abbrev pub keeps_size : Resolved → Bool
keeps_size r = r.size.w == r.rect.w && r.size.h == r.rect.h

-- a side of the result is above the region's
abbrev pub is_scaled_up : Resolved → Bool
is_scaled_up r = is_larger r.rect.w r.rect.h (r.size.w, r.size.h)

-- The test of a level that may be planned with: the level below it has no block that holds the whole image, and there is room
-- for a block's sums.
abbrev pub is_usable : ℕ → Dim → Dim → Dim → ℕ → ℕ → ℕ → Bool
is_usable edge image region size channels room level =
    (level == 0 || not (nat_le (max image.w image.h) (2 ^ (level - 1) * edge)))
    && nat_le (sums_at_most edge level region size channels) room

-- the greatest number up to n that passes a test, or 0
unfoldable pub greatest : (ℕ → Bool) → ℕ → ℕ
greatest test zero = 0
greatest test (suc n) = if test (suc n) then suc n else greatest test n

-- the level of the blocks of a request's plan
abbrev pub level_for : ℕ → Dim → ℕ → ℕ → Resolved → ℕ
level_for edge image channels room r = greatest (is_usable edge image (sides_of r.rect) r.size channels room) 20

-- the tiles of a request: those that its region meets
abbrev pub tiles_for : List ℕ → ℕ → Resolved → List TileKey
tiles_for name edge r = each_square (tile_at name edge) (squares_met edge r.rect)

-- the blocks of a level of a request: those that its region meets
abbrev pub blocks_for : List ℕ → ℕ → ℕ → Resolved → List SumKey
blocks_for name edge level r = each_square (block_at name edge r.rect r.size level) (squares_met (2 ^ level * edge) r.rect)

-- A plan has just these items in just this order: the tiles where the region keeps its size or a side of the result is above its
-- side, else the blocks.
abbrev pub HasItems : List ℕ → ℕ → Dim → ℕ → ℕ → Resolved → Plan → Type 0
HasItems name edge image channels room r (Copy keys) = (keeps_size r ≡ true) × (keys.items ≡ tiles_for name edge r)
HasItems name edge image channels room r (Grow keys) = (is_scaled_up r ≡ true) × (keys.items ≡ tiles_for name edge r)
HasItems name edge image channels room r (Sum keys) =
    (keeps_size r ≡ false) × (is_scaled_up r ≡ false) × (keys.items ≡ blocks_for name edge (level_for edge image channels room r) r)
