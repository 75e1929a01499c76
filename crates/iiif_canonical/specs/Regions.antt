-- Regions of an image: IIIF Image API 3.0, section 4.1.
--
-- `clipped d x y w h`: the part of a rectangle that is inside an image with sides d, or `Empty`.
-- `region_of region d`: the rectangle of a region, clipped, or `Empty`.
use Rattle.std.specs.Prelude.{ℕ, ◌-◌, ◌/◌, ◌&&◌, min, nat_lt, if◌then◌else◌, Result, Ok, Err}
use Rattle.iiif_pixel.specs.declared.geometry.Dim.{Dim}
use Rattle.iiif_pixel.specs.declared.geometry.Rect.{Rect}
use Rattle.iiif_request.specs.declared.request.Region.{Region}
use Rattle.iiif_request.specs.declared.request.Region.TheVariants.{Full, Square, Pixels, Percents}
use Rattle.iiif_request.specs.declared.request.Refusal.{Refusal}
use Rattle.iiif_request.specs.declared.request.Refusal.TheVariants.{Empty}
use Rattle.iiif_canonical.specs.Rounding.{percent_of}

-- section 4.1: the rectangle at (x, y) with sides w and h, clipped at the right and the lower edge of the image. It is refused where
-- its upper left corner is outside the image or a side is 0.
unfoldable pub clipped : Dim → ℕ → ℕ → ℕ → ℕ → Result Rect Refusal
clipped d x y w h =
    if nat_lt x d.w && nat_lt y d.h && nat_lt 0 w && nat_lt 0 h
    then Ok (record { x = x; y = y; w = min w (d.w - x); h = min h (d.h - y) }) else Err Empty

-- section 4.1: the side of the largest square of an image
abbrev pub square_side : Dim → ℕ
square_side d = min d.w d.h

-- section 4.1: the region of an image with these sides; a square is in the middle, or half a place left or above it
unfoldable pub region_of : Region → Dim → Result Rect Refusal
region_of Full d = clipped d 0 0 d.w d.h
region_of Square d = clipped d ((d.w - square_side d) / 2) ((d.h - square_side d) / 2) (square_side d) (square_side d)
region_of (Pixels x y w h) d = clipped d x y w h
region_of (Percents x y w h) d = clipped d (percent_of d.w x) (percent_of d.h y) (percent_of d.w w) (percent_of d.h h)
