-- A picture scaled to its own sides.
use Rattle.std.proofs.Common.{◌≡◌, ℕ, ◌+◌, ◌-◌, ◌*◌, ◌/◌, ◌<◌, ◌≤◌, ap, ◌∙◌, arith}
use Rattle.std.proofs.Math.Nat.{mul-le-mul_right}
use Rattle.std.proofs.lemmas.Nat.{div-mul-add}
use Rattle.iiif_pixel.specs.Picture.{dim_of, sample_at}
use Rattle.iiif_pixel.specs.Scaling.{sum_from, overlap, weight_of, area_sum, average, whole_of, scaled_at}
use Rattle.iiif_pixel.specs.declared.geometry.Dim.{Dim}
use Rattle.iiif_pixel.proofs.CropLaws.{same_built}
use Rattle.iiif_pixel.proofs.SampleLists.{picture_of-samples}
use Rattle.iiif_area.specs.Laws.{SameSidesChangeNothing}
use Rattle.iiif_area.proofs.AreaLaws.{area_by_rows}
use Rattle.iiif_area.proofs.SumLaws.{sum_from-narrow, sum_from-one}
use Rattle.iiif_area.proofs.WeightLaws.{weight_before, weight_after, weighted_before}

-- where as many columns result as there were, each takes all of its own
own_weight : (i a : ℕ) → weight_of i i a a ≡ a
unfolding weight_of overlap
own_weight i a = omega arith

-- and nothing of another
other_weight_before : (i x a : ℕ) → x < i → weight_of i x a a ≡ 0
other_weight_before i x a h = let e : (x + 1) * a ≤ i * a = mul-le-mul_right a (omega arith) in weight_before i x a a e

other_weight_after : (i x a : ℕ) → i < x → weight_of i x a a ≡ 0
other_weight_after i x a h = let e : (i + 1) * a ≤ x * a = mul-le-mul_right a (omega arith) in weight_after i x a a e

own_column : (i a : ℕ) (f : ℕ → ℕ) → i < a → sum_from 0 a (λ x. weight_of i x a a * f x) ≡ a * f i
own_column i a f h =
    let t : ℕ → ℕ = λ x. weight_of i x a a * f x in
    let one : i + 1 - i ≡ 1 = omega arith in
    sum_from-narrow 0 a i (i + 1) t (omega arith) (omega arith) (omega arith)
    (λ x _ l. weighted_before i x a a (f x) (other_weight_before i x a l))
    (λ x l _. weighted_before i x a a (f x) (other_weight_after i x a (omega arith)))
    ∙ ap (λ n. sum_from i n t) one ∙ sum_from-one i t ∙ ap (λ w. w * f i) (own_weight i a)

own_area : (region : Dim) (f : ℕ → ℕ → ℕ) (i j : ℕ) → i < region.w → j < region.h →
    area_sum region region (whole_of region) f i j ≡ region.h * (region.w * f i j)
own_area region f i j column row =
    area_by_rows region region (whole_of region) f i j
    ∙ own_column j region.h (λ y. sum_from 0 region.w (λ x. weight_of i x region.w region.w * f x y)) row
    ∙ ap (λ s. region.h * s) (own_column i region.w (λ x. f x j) column)

average_of_same : (region : Dim) (v : ℕ) → 0 < region.w * region.h → average region (region.h * (region.w * v)) ≡ v
average_of_same region v some =
    let a = region.w * region.h in
    let e : 2 * (region.h * (region.w * v)) + a ≡ v * (2 * a) + a = omega arith in
    ap (λ n. n / (2 * a)) e ∙ div-mul-add v (2 * a) a (omega arith)

-- A whole picture that isn't empty, scaled to its own sides, stays as it is.
pub same_sides : SameSidesChangeNothing
unfolding scaled_at
same_sides p whole columns rows =
    same_built p.width p.height p.channels p.top (scaled_at p (dim_of p)) (λ x y k. sample_at p x y k) (λ i j k li lj lk.
    ap (average (dim_of p)) (own_area (dim_of p) (λ x y. sample_at p x y k) i j li lj)
    ∙ average_of_same (dim_of p) (sample_at p i j k) (area_some p.width p.height columns rows))
    ∙ picture_of-samples p whole
  where
    area_some : (m n : ℕ) → 0 < m → 0 < n → 0 < m * n
    area_some m n a b = let e : 1 * n ≤ m * n = mul-le-mul_right n (omega arith) in omega arith
