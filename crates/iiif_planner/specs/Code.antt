-- Words of private functions.
--
-- `have_common a b`: the rectangles have a place in common.
-- `source_of region size part`: the part of the region that a rectangle of its scaled result is made of.
-- `place_among s i j`: where the square in column i and row j stands among the squares s.
-- `tile_met`, `grown_met`, `block_met`: the tests that say which items a rectangle of the scaled result is made of.
use Rattle.std.specs.Prelude.{ℕ, ◌+◌, ◌-◌, ◌*◌, ◌^◌, ◌<◌, List, Bool, ◌&&◌, nat_lt}
use Rattle.iiif_pixel.specs.Geometry.{nested, sides_of, LiesIn}
use Rattle.iiif_pixel.specs.declared.geometry.Dim.{Dim}
use Rattle.iiif_pixel.specs.declared.geometry.Rect.{Rect}
use Rattle.iiif_area.specs.Places.{part_of, places_of}
use Rattle.iiif_keys.specs.declared.keys.TileKey.{TileKey}
use Rattle.iiif_keys.specs.declared.keys.SumKey.{SumKey}
use Rattle.iiif_planner.specs.Plans.{BlocksCover, TilesCover}
use Rattle.iiif_planner.specs.Bands.{block_places, grown_places, tile_places}
use Rattle.iiif_planner.specs.declared.squares.Squares.{Squares}

-- whether two rectangles have a place in common
unfoldable pub have_common : Rect → Rect → Bool
have_common a b = let p = part_of a b in nat_lt 0 p.w && nat_lt 0 p.h

-- the part of a region that a rectangle of its scaled result is made of, in the columns and rows of the image
abbrev pub source_of : Rect → Dim → Rect → Rect
source_of region size part = nested region (places_of size (sides_of region) part)

-- the place of the square in column i and row j among some squares, listed row by row
abbrev pub place_among : Squares → ℕ → ℕ → ℕ
place_among s i j = (j - s.top) * (s.right - s.left) + (i - s.left)

-- whether a tile has a place of a rectangle of the result
abbrev pub tile_met : Rect → Rect → TileKey → Bool
tile_met region part k = have_common (tile_places region k) part

-- whether a tile has samples for one, where the region is scaled to `size`
abbrev pub grown_met : Rect → Dim → Rect → TileKey → Bool
grown_met region size part k = have_common (grown_places region size k) part

-- whether a block has sums for one
abbrev pub block_met : Rect → SumKey → Bool
block_met part k = have_common (block_places k) part

-- The tiles of a plan, for a region of an image.
pub record AreTiles (region : Rect) (keys : List TileKey) : Type 0 where
  pub name : List ℕ
  pub edge : ℕ
  pub image : Dim
  pub channels : ℕ
  pub inside : LiesIn region image
  pub small : (image.w < 2 ^ 32) × (image.h < 2 ^ 32)
  pub cover : TilesCover name edge image channels region keys

-- The blocks of a plan, for a region of an image that is scaled to `size`.
pub record AreBlocks (region : Rect) (size : Dim) (keys : List SumKey) : Type 0 where
  pub name : List ℕ
  pub edge : ℕ
  pub image : Dim
  pub channels : ℕ
  pub level : ℕ
  pub inside : LiesIn region image
  pub small : (image.w < 2 ^ 32) × (image.h < 2 ^ 32)
  pub cover : BlocksCover name edge image channels region size level keys
