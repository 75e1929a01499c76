-- Area averaging: a picture scaled to other sides. IIIF Image API 3.0, section 4.2, leaves the way of scaling to the server.
--
--   sum_from              a sum over consecutive numbers
--   overlap               the length of what two intervals share
--   weight_of             the weight of a source column (or row) in a result column (or row)
--   area_sum              the weighted sum at a result place
--   average               such a sum over a whole picture, divided and rounded
--   whole_of              all of a region
--   scaled_at, scale      the sample of a scaled picture, and the picture
use Rattle.std.specs.Prelude.{ℕ, ◌+◌, ◌-◌, ◌*◌, ◌/◌, min, max}
use Prim.Native.Nat.{zero, suc}
use Rattle.iiif_pixel.specs.Picture.{Picture, dim_of, picture_of, sample_at}
use Rattle.iiif_pixel.specs.declared.geometry.Dim.{Dim}
use Rattle.iiif_pixel.specs.declared.geometry.Rect.{Rect}

-- the sum of f over the n numbers from u on
unfoldable pub sum_from : ℕ → ℕ → (ℕ → ℕ) → ℕ
sum_from u zero f = 0
sum_from u (suc n) f = sum_from u n f + f (u + n)

-- the length of the part of [p, q) that lies in [r, s)
unfoldable pub overlap : ℕ → ℕ → ℕ → ℕ → ℕ
overlap p q r s = min q s - max p r

-- The weight of source column x in result column i, where a columns are scaled to c: both stretched to a * c, result
-- column i covers [i * a, (i + 1) * a) and source column x covers [x * c, (x + 1) * c). Rows likewise.
unfoldable pub weight_of : ℕ → ℕ → ℕ → ℕ → ℕ
weight_of i x a c = overlap (i * a) ((i + 1) * a) (x * c) ((x + 1) * c)

-- The sum at result place (i, j) over a part of a region: column weight by row weight by sample, where the region is
-- scaled to `size` and f x y is the sample of its place (x, y).
unfoldable pub area_sum : Dim → Dim → Rect → (ℕ → ℕ → ℕ) → ℕ → ℕ → ℕ
area_sum region size part f i j =
    sum_from part.y part.h (λ y. sum_from part.x part.w (λ x. weight_of i x region.w size.w * weight_of j y region.h size.h * f x y))

-- the average that a sum over a whole region stands for, to the nearest whole number, a half up
abbrev pub average : Dim → ℕ → ℕ
average region s = (2 * s + region.w * region.h) / (2 * (region.w * region.h))

-- the whole of a region, as a part of it
abbrev pub whole_of : Dim → Rect
whole_of region = record { x = 0; y = 0; w = region.w; h = region.h }

-- the sample of p scaled to `size`, in column i, row j and channel k
unfoldable pub scaled_at : Picture → Dim → ℕ → ℕ → ℕ → ℕ
scaled_at p size i j k = average (dim_of p) (area_sum (dim_of p) size (whole_of (dim_of p)) (λ x y. sample_at p x y k) i j)

-- p scaled to these sides
abbrev pub scale : Picture → Dim → Picture
scale p size = picture_of size.w size.h p.channels p.top (scaled_at p size)
