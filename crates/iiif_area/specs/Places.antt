-- Parts of a region, and the result places that they cover. IIIF Image API 3.0, section 4.2, leaves the way of scaling to the server:
-- `iiif_pixel` defines it as area averaging.
--
-- tile   a rectangle of an image, whose samples are read at once
-- region the rectangle of the image that is asked for; it is a by b, and scaled to a result of c by d
-- part   the places of the region that lie in a tile, counted from the region's first column and row
-- corner the place of the tile at which the part begins
-- places the result places that a part covers, at least partly
use Rattle.std.specs.Prelude.{ℕ, ◌+◌, ◌-◌, ◌*◌, ◌/◌, ◌<◌, ◌≤◌, ◌^◌, min, max}
use Rattle.std.specs.Int.{div_ceil}
use Rattle.iiif_pixel.specs.declared.geometry.Dim.{Dim}
use Rattle.iiif_pixel.specs.declared.geometry.Rect.{Rect}

-- The part of a region that lies in a tile, in the region's own columns and rows; tile and region are given in the image's.
abbrev pub part_of : Rect → Rect → Rect
part_of tile region = record {
  x = max tile.x region.x - region.x;
  y = max tile.y region.y - region.y;
  w = min (tile.x + tile.w) (region.x + region.w) - max tile.x region.x;
  h = min (tile.y + tile.h) (region.y + region.h) - max tile.y region.y;
}

-- The column and the row of the tile at which that part begins.
abbrev pub corner_of : Rect → Rect → ℕ × ℕ
corner_of tile region = (max tile.x region.x - tile.x, max tile.y region.y - tile.y)

-- The tile and the region have a place in common.
pub record Meets (tile region : Rect) : Type 0 where
  pub columns : 0 < (part_of tile region).w
  pub rows : 0 < (part_of tile region).h

-- The rectangle r lies in s.
pub record IsInside (r s : Rect) : Type 0 where
  pub left : s.x ≤ r.x
  pub right : r.x + r.w ≤ s.x + s.w
  pub upper : s.y ≤ r.y
  pub lower : r.y + r.h ≤ s.y + s.h

-- The result places that a part of a region covers, where the region, a by b, is scaled to `size`, c by d: columns u to v (v excluded)
-- cover the result columns floor(u * c / a) to ceil(v * c / a) - 1. Rows likewise.
abbrev pub places_of : Dim → Dim → Rect → Rect
places_of region size part =
    let left = part.x * size.w / region.w in
    let top = part.y * size.h / region.h in
    record {
      x = left;
      y = top;
      w = div_ceil ((part.x + part.w) * size.w) region.w - left;
      h = div_ceil ((part.y + part.h) * size.h) region.h - top;
    }

-- A region can be scaled to these sides: neither has an empty side, and the region has at most 2^32 places, so that sums of samples of 16
-- bits fit 64 bits.
pub record IsScalable (region size : Dim) : Type 0 where
  pub columns : 0 < region.w
  pub rows : 0 < region.h
  pub area : region.w * region.h ≤ 2 ^ 32
  pub result_columns : 0 < size.w
  pub result_rows : 0 < size.h
