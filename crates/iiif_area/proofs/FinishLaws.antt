-- Averages of a grid's sums, and the scaled picture that they make.
use Rattle.std.proofs.Common.{◌≡◌, ℕ, ◌+◌, ◌-◌, ◌*◌, ◌<◌, min, map, take, drop, length, get_or, sym, ap, ◌∙◌, arith}
use Rattle.iiif_pixel.specs.Geometry.{LiesIn}
use Rattle.iiif_pixel.specs.Picture.{Picture, dim_of, row_of, IsWhole}
use Rattle.iiif_pixel.specs.Operations.{crop}
use Rattle.iiif_pixel.specs.Scaling.{average, scale, scaled_at, whole_of}
use Rattle.iiif_pixel.specs.declared.geometry.Dim.{Dim}
use Rattle.iiif_pixel.specs.declared.geometry.Rect.{Rect}
use Rattle.iiif_pixel.proofs.SampleLists.{map-row_of, row_of-reads, row_of-same}
use Rattle.iiif_pixel.proofs.ScaleLemmas.{scaled_at-le}
use Rattle.iiif_pixel.proofs.CropLaws.{same_built, crop-scale}
use Rattle.iiif_area.specs.Places.{IsInside}
use Rattle.iiif_area.specs.Grid.{Grid, average_within, finished, part_sum, sum_at, sums_at}
use Rattle.iiif_area.proofs.GridLaws.{run-le, sum_at-grid_of}

-- The sample in column x, row y and channel k of a rectangle: the average of the sum there, at most `top`.
abbrev pub made_at : Grid → Dim → ℕ → Rect → ℕ → ℕ → ℕ → ℕ
made_at g region top rect x y k = min top (average region (sum_at g (rect.x + x) (rect.y + y) k))

-- The averages of a run of sums are a row of these samples.
pub made_row : (g : Grid) (region : Dim) (top : ℕ) (rect : Rect) (y : ℕ) → IsInside rect g.rect → y < rect.h →
    length g.sums ≡ g.rect.w * g.rect.h * g.channels →
    map (average_within (region.w * region.h) top)
    (take (rect.w * g.channels) (drop (((rect.y - g.rect.y + y) * g.rect.w + (rect.x - g.rect.x)) * g.channels) g.sums))
    ≡ row_of rect.w g.channels (λ x k. made_at g region top rect x y k)
unfolding sum_at
made_row g region top rect y inside ly count =
    let n = g.channels in
    let f = average_within (region.w * region.h) top in
    let at = ((rect.y - g.rect.y + y) * g.rect.w + (rect.x - g.rect.x)) * n in
    let fits = run-le g.rect.w g.rect.h n (rect.x - g.rect.x) rect.w (rect.y - g.rect.y + y) (omega (arith, inside.left, inside.right))
    (omega (arith, inside.upper, inside.lower)) in
    ap (map f) (sym (row_of-reads rect.w n at g.sums (omega (arith, fits, count))))
    ∙ map-row_of f rect.w n (λ x k. get_or g.sums (at + (x * n + k)) 0)
    ∙ row_of-same rect.w n _ _ (λ x k lx lk.
    let down : rect.y - g.rect.y + y ≡ rect.y + y - g.rect.y = omega (arith, inside.upper) in
    let right : rect.x + x - g.rect.x ≡ rect.x - g.rect.x + x = omega (arith, inside.left) in
    let index : at + (x * n + k) ≡ ((rect.y + y - g.rect.y) * g.rect.w + (rect.x + x - g.rect.x)) * n + k =
    rw (← down, right) (omega arith) in
    ap (λ i. f (get_or g.sums i 0)) index)

-- The averages of a whole picture's sums are the scaled picture.
pub finished-scaled : (r rect : Rect) (p : Picture) (size : Dim) → IsWhole p → IsInside rect r → LiesIn rect size →
    finished (sums_at r p size (whole_of (dim_of p))) (dim_of p) p.top rect ≡ crop (scale p size) rect
unfolding scaled_at part_sum
finished-scaled r rect p size whole inside lies =
    same_built rect.w rect.h p.channels p.top _ (λ i j k. scaled_at p size (rect.x + i) (rect.y + j) k) (λ x y k lx ly lk.
    let i = rect.x + x in
    let j = rect.y + y in
    let sum = sum_at-grid_of r p.channels (part_sum p size (whole_of (dim_of p))) i j k
    (omega (arith, inside.left), omega (arith, inside.right), omega (arith, inside.upper), omega (arith, inside.lower)) lk in
    let below = scaled_at-le p size whole i j k in
    ap (λ u. min p.top (average (dim_of p) u)) sum ∙ omega arith)
    ∙ sym (crop-scale p size rect lies)
