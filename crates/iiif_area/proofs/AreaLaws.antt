-- Laws of area sums: splitting them, bounding them, and where they are 0.
use Rattle.std.proofs.Common.{⊎_elim, ◌≡◌, ℕ, ◌+◌, ◌*◌, ◌^◌, ◌<◌, ◌≤◌, ap, ◌∙◌, arith}
use Rattle.std.proofs.Math.Nat.{mul-le-mul_right}
use Rattle.std.proofs.lemmas.Bool.{cases_lt}
use Rattle.iiif_pixel.specs.Scaling.{sum_from, weight_of, area_sum}
use Rattle.iiif_pixel.specs.declared.geometry.Dim.{Dim}
use Rattle.iiif_pixel.specs.declared.geometry.Rect.{Rect}
use Rattle.iiif_pixel.proofs.ScaleLemmas.{sum_from-mul}
use Rattle.iiif_area.specs.Laws.{SplitsAtColumn, SplitsAtRow, IsZeroElsewhere, IsOfPart, IsBounded, SumsFit}
use Rattle.iiif_area.specs.Places.{places_of}
use Rattle.iiif_area.proofs.SumLaws.{sum_from-zero, sum_from-same, sum_from-split, sum_from-add, sum_from_swap, sum_from-shift}
use Rattle.iiif_area.proofs.WeightLaws.{weighted-le, weighted_before, weight_below_places, weight_above_places}

-- An area sum is the sum of both sides of a cut between columns.
pub area_split_columns : SplitsAtColumn
unfolding area_sum
area_split_columns region size x y m n h f i j =
    let t : ℕ → ℕ → ℕ = λ r k. weight_of i k region.w size.w * weight_of j r region.h size.h * f k r in
    sum_from-same y h (λ r. sum_from x (m + n) (t r)) (λ r. sum_from x m (t r) + sum_from (x + m) n (t r))
    (λ r _ _. sum_from-split x m n (t r))
    ∙ sum_from-add y h (λ r. sum_from x m (t r)) (λ r. sum_from (x + m) n (t r))

-- An area sum is the sum of both sides of a cut between rows.
pub area_split_rows : SplitsAtRow
unfolding area_sum
area_split_rows region size x y w m n f i j = sum_from-split y m n
    (λ r. sum_from x w (λ k. weight_of i k region.w size.w * weight_of j r region.h size.h * f k r))

-- An area sum row by row: each row's weight times the weighted sum of the row.
pub area_by_rows : (region size : Dim) (part : Rect) (f : ℕ → ℕ → ℕ) (i j : ℕ) →
    area_sum region size part f i j ≡ sum_from part.y part.h
    (λ y. weight_of j y region.h size.h * sum_from part.x part.w (λ x. weight_of i x region.w size.w * f x y))
unfolding area_sum
area_by_rows region size part f i j =
    sum_from-same part.y part.h _ _ (λ y _ _.
    sum_from-same part.x part.w _ (λ x. weight_of j y region.h size.h * (weight_of i x region.w size.w * f x y)) (λ x _ _. omega arith)
    ∙ sum_from-mul part.x part.w (weight_of j y region.h size.h) (λ x. weight_of i x region.w size.w * f x y))

-- An area sum column by column: each column's weight times the weighted sum of the column.
pub area_by_columns : (region size : Dim) (part : Rect) (f : ℕ → ℕ → ℕ) (i j : ℕ) →
    area_sum region size part f i j ≡ sum_from part.x part.w
    (λ x. weight_of i x region.w size.w * sum_from part.y part.h (λ y. weight_of j y region.h size.h * f x y))
unfolding area_sum
area_by_columns region size part f i j =
    sum_from_swap part.x part.w part.y part.h (λ x y. weight_of i x region.w size.w * weight_of j y region.h size.h * f x y)
    ∙ sum_from-same part.x part.w _ _ (λ x _ _.
    sum_from-same part.y part.h _ (λ y. weight_of i x region.w size.w * (weight_of j y region.h size.h * f x y)) (λ y _ _. omega arith)
    ∙ sum_from-mul part.y part.h (weight_of i x region.w size.w) (λ y. weight_of j y region.h size.h * f x y))

-- the same, counted from the part's own first column and row
pub area_from_corner : (region size : Dim) (part : Rect) (f : ℕ → ℕ → ℕ) (i j : ℕ) →
    area_sum region size part f i j
    ≡ sum_from 0 part.w (λ t. weight_of i (part.x + t) region.w size.w * sum_from 0 part.h
    (λ s. weight_of j (part.y + s) region.h size.h * f (part.x + t) (part.y + s)))
area_from_corner region size part f i j =
    area_by_columns region size part f i j
    ∙ sum_from-shift part.x part.w (λ x. weight_of i x region.w size.w * sum_from part.y part.h
    (λ y. weight_of j y region.h size.h * f x y))
    ∙ sum_from-same 0 part.w _ _ (λ t _ _.
    ap (λ u. weight_of i (part.x + t) region.w size.w * u)
    (sum_from-shift part.y part.h (λ y. weight_of j y region.h size.h * f (part.x + t) y)))

-- and row by row
pub area_from_rows : (region size : Dim) (part : Rect) (f : ℕ → ℕ → ℕ) (i j : ℕ) →
    area_sum region size part f i j
    ≡ sum_from 0 part.h (λ s. weight_of j (part.y + s) region.h size.h * sum_from 0 part.w
    (λ t. weight_of i (part.x + t) region.w size.w * f (part.x + t) (part.y + s)))
area_from_rows region size part f i j =
    area_by_rows region size part f i j
    ∙ sum_from-shift part.y part.h (λ y. weight_of j y region.h size.h * sum_from part.x part.w
    (λ x. weight_of i x region.w size.w * f x y))
    ∙ sum_from-same 0 part.h _ _ (λ s _ _.
    ap (λ u. weight_of j (part.y + s) region.h size.h * u)
    (sum_from-shift part.x part.w (λ x. weight_of i x region.w size.w * f x (part.y + s))))

-- An area sum depends on the samples of its part alone.
pub area_same : IsOfPart
unfolding area_sum
area_same region size part f g i j h =
    sum_from-same part.y part.h _ _ (λ y l m. sum_from-same part.x part.w _ _
    (λ x n o. ap (λ s. weight_of i x region.w size.w * weight_of j y region.h size.h * s) (h x y (n, o, l, m))))

-- what fits: where no sample is above m, a sum over any part is at most a by b by m
pub area-le : IsBounded
area-le region size part f i j m h =
    let e = area_by_rows region size part f i j in
    let d = weighted-le j region.h size.h part.y part.h (region.w * m)
    (λ y. sum_from part.x part.w (λ x. weight_of i x region.w size.w * f x y))
    (λ y l o. weighted-le i region.w size.w part.x part.w m (λ x. f x y) (λ x n q. h x y (n, q, l, o))) in
    omega arith

-- An area sum of samples of up to 16 bits fits 64 bits.
pub area-fits : SumsFit
area-fits region size part f i j area h =
    let e = area-le region size part f i j 65535 h in
    let d : region.w * region.h * 65535 ≤ 2 ^ 32 * 65535 = mul-le-mul_right 65535 area in
    omega arith

-- A part's sum is 0 in result columns that its columns don't cover.
pub zero_columns : (region size : Dim) (part : Rect) (f : ℕ → ℕ → ℕ) (i j : ℕ) →
    ((x : ℕ) → part.x ≤ x → x < part.x + part.w → weight_of i x region.w size.w ≡ 0) → area_sum region size part f i j ≡ 0
zero_columns region size part f i j h =
    area_by_columns region size part f i j
    ∙ sum_from-zero part.x part.w _ (λ x l m. weighted_before i x region.w size.w
    (sum_from part.y part.h (λ y. weight_of j y region.h size.h * f x y)) (h x l m))

-- A part's sum is 0 in result rows that its rows don't cover.
pub zero_rows : (region size : Dim) (part : Rect) (f : ℕ → ℕ → ℕ) (i j : ℕ) →
    ((y : ℕ) → part.y ≤ y → y < part.y + part.h → weight_of j y region.h size.h ≡ 0) → area_sum region size part f i j ≡ 0
zero_rows region size part f i j h =
    area_by_rows region size part f i j
    ∙ sum_from-zero part.y part.h _ (λ y l m. weighted_before j y region.h size.h
    (sum_from part.x part.w (λ x. weight_of i x region.w size.w * f x y)) (h y l m))

-- A part's sum is 0 at the result places that it doesn't cover.
pub area_elsewhere : IsZeroElsewhere
area_elsewhere region size part f i j width height off =
    let r = places_of region size part in
    ⊎_elim
    (λ (a : i < r.x). zero_columns region size part f i j (λ x l m. weight_below_places i x part.x region.w size.w l a))
    (λ (a : r.x ≤ i). ⊎_elim
    (λ (b : i < r.x + r.w). ⊎_elim
    (λ (c : j < r.y). zero_rows region size part f i j (λ y l m. weight_below_places j y part.y region.h size.h l c))
    (λ (c : r.y ≤ j). ⊎_elim
    (λ (d : j < r.y + r.h). absurd (off (a, b, c, d)))
    (λ (d : r.y + r.h ≤ j). zero_rows region size part f i j
    (λ y l m. weight_above_places j y (part.y + part.h) region.h size.h height m (omega arith)))
    (cases_lt j (r.y + r.h)))
    (cases_lt j r.y))
    (λ (b : r.x + r.w ≤ i). zero_columns region size part f i j
    (λ x l m. weight_above_places i x (part.x + part.w) region.w size.w width m (omega arith)))
    (cases_lt i (r.x + r.w)))
    (cases_lt i r.x)
