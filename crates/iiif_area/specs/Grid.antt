-- Sums at a rectangle of result places.
--
-- place    a column i and a row j of the scaled result; each place has a sum in each channel k
-- grid     a rectangle of places with their sums; the model of `Sums`
-- merged   two grids added at the places that both have
-- part sum the weighted sum of a part's samples at a place, by the averaging of `iiif_pixel` (`area_sum`)
-- finished the averages of a whole region's sums, which are the scaled picture
use Rattle.std.specs.Prelude.{◌≡◌, ℕ, ◌+◌, ◌-◌, ◌*◌, ◌/◌, ◌^◌, ◌<◌, List, Bool, All, length, slice_index, min, nat_lt, nat_le, ◌&&◌}
use Rattle.std.specs.Prelude.{if◌then◌else◌}
use Rattle.iiif_pixel.specs.Picture.{Picture, dim_of, picture_of, samples_of, sample_at}
use Rattle.iiif_pixel.specs.Scaling.{area_sum}
use Rattle.iiif_pixel.specs.declared.geometry.Dim.{Dim}
use Rattle.iiif_pixel.specs.declared.geometry.Rect.{Rect}
use Rattle.iiif_area.specs.Places.{places_of}

-- Sums at the places of `rect`. They lie as a picture's samples do: row by row, in a row place by place, at a place channel by
-- channel.
pub record Grid : Type 0 where
  pub rect : Rect
  pub channels : ℕ
  pub sums : List ℕ

-- The grid whose sum at place (i, j) in channel k is f i j k.
abbrev pub grid_of : Rect → ℕ → (ℕ → ℕ → ℕ → ℕ) → Grid
grid_of rect n f = record {
  rect = rect;
  channels = n;
  sums = samples_of rect.w rect.h n (λ i j k. f (rect.x + i) (rect.y + j) k);
}

-- The sum at place (i, j) in channel k.
unfoldable pub sum_at : Grid → ℕ → ℕ → ℕ → ℕ
sum_at g i j k = slice_index g.sums (((j - g.rect.y) * g.rect.w + (i - g.rect.x)) * g.channels + k)

-- The rectangle has place (i, j), as a test.
unfoldable pub has_place : Rect → ℕ → ℕ → Bool
has_place r i j = nat_le r.x i && nat_lt i (r.x + r.w) && (nat_le r.y j && nat_lt j (r.y + r.h))

-- The grid g, with the sums of h added at the places that both have. A sum that would pass 2^64 - 1 stays at 2^64 - 1.
abbrev pub merged : Grid → Grid → Grid
merged g h = grid_of g.rect g.channels (λ i j k.
    if has_place h.rect i j then min (2 ^ 64 - 1) (sum_at g i j k + sum_at h i j k) else sum_at g i j k)

-- The weighted sum at place (i, j) in channel k over a part of the region that p shows, where p is scaled to `size`.
unfoldable pub part_sum : Picture → Dim → Rect → ℕ → ℕ → ℕ → ℕ
part_sum p size part i j k = area_sum (dim_of p) size part (λ x y. sample_at p x y k) i j

-- Part sums at the places of a rectangle.
abbrev pub sums_at : Rect → Picture → Dim → Rect → Grid
sums_at rect p size part = grid_of rect p.channels (part_sum p size part)

-- Part sums at all places that the part covers.
abbrev pub sums_of : Picture → Dim → Rect → Grid
sums_of p size part = sums_at (places_of (dim_of p) size part) p size part

-- The average of a sum over an area, rounded to the nearest whole number, a half up, and `top` for any above it.
abbrev pub average_within : ℕ → ℕ → ℕ → ℕ
average_within area top s = min top ((2 * s + area) / (2 * area))

-- The picture of a whole region's sums in a rectangle: each sample is the average of its sum over the region's area, at most `top`.
abbrev pub finished : Grid → Dim → ℕ → Rect → Picture
finished g region top rect =
    picture_of rect.w rect.h g.channels top (λ x y k. average_within (region.w * region.h) top (sum_at g (rect.x + x) (rect.y + y) k))

-- There is a sum for each place and channel, and each fits 64 bits.
pub record IsGrid (g : Grid) : Type 0 where
  pub count : length g.sums ≡ g.rect.w * g.rect.h * g.channels
  pub bound : All (λ s. s < 2 ^ 64) g.sums
