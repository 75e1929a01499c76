-- Sides, rectangles, kinds and depths.
--
--   channels_of   samples of a place: 1 (gray) or 3 (RGB)
--   top_of        the greatest sample of a depth, white
--   bytes_of      bytes of a sample
--   LiesIn        a rectangle inside a picture's sides
--   HasPlace      a place inside a rectangle
--   sides_of      a rectangle's width and height
--   nested        a rectangle of a part, as a rectangle of the whole
use Rattle.std.specs.Prelude.{ℕ, ◌+◌, ◌≤◌, ◌<◌}
use Rattle.iiif_pixel.specs.declared.geometry.Dim.{Dim}
use Rattle.iiif_pixel.specs.declared.geometry.Rect.{Rect}
use Rattle.iiif_pixel.specs.declared.geometry.Kind.{Kind}
use Rattle.iiif_pixel.specs.declared.geometry.Kind.TheVariants.{Gray, Rgb}
use Rattle.iiif_pixel.specs.declared.geometry.Depth.{Depth}
use Rattle.iiif_pixel.specs.declared.geometry.Depth.TheVariants.{Eight, Sixteen}

-- The number of samples of a place: TIFF 6.0, sections 4 (grayscale) and 6 (RGB).
abbrev pub channels_of : Kind → ℕ
channels_of Gray = 1
channels_of Rgb = 3

-- The greatest sample, white: TIFF 6.0, section 8 (BitsPerSample), an unsigned number of that many bits.
abbrev pub top_of : Depth → ℕ
top_of Eight = 255
top_of Sixteen = 65535

-- the bytes that a sample takes
abbrev pub bytes_of : Depth → ℕ
bytes_of Eight = 1
bytes_of Sixteen = 2

-- The rectangle lies inside the sides: IIIF Image API 3.0, section 4.1, a region that is cut off at the image's edges.
pub record LiesIn (r : Rect) (d : Dim) : Type 0 where
  pub columns : r.x + r.w ≤ d.w
  pub rows : r.y + r.h ≤ d.h

-- The rectangle has the place in column x and row y: IIIF Image API 3.0, section 4.1, from (x, y) on, w columns and h rows.
abbrev pub HasPlace : Rect → ℕ → ℕ → Type 0
HasPlace r x y = (r.x ≤ x) × (x < r.x + r.w) × (r.y ≤ y) × (y < r.y + r.h)

-- the sides of a rectangle
abbrev pub sides_of : Rect → Dim
sides_of r = record { w = r.w; h = r.h }

-- rectangle b of the part in rectangle a, as a rectangle of the whole
abbrev pub nested : Rect → Rect → Rect
nested a b = record { x = a.x + b.x; y = a.y + b.y; w = b.w; h = b.h }
