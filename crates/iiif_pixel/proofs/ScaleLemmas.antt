-- A scaled picture has no sample above top: the weights of each result place add up to the area of the picture.
use Rattle.std.proofs.Common.{◌≡◌, ℕ, zero, suc, ◌+◌, ◌*◌, ◌/◌, ◌<◌, ◌≤◌, arith}
use Rattle.std.proofs.Math.Nat.{mul-le-mul_left, div-zero, div-lt_iff_lt-mul}
use Rattle.iiif_pixel.specs.Picture.{Picture, IsWhole, dim_of, sample_at}
use Rattle.iiif_pixel.specs.Scaling.{sum_from, overlap, weight_of, area_sum, whole_of, scaled_at, scale}
use Rattle.iiif_pixel.specs.declared.geometry.Dim.{Dim}
use Rattle.iiif_pixel.specs.declared.geometry.Rect.{Rect}
use Rattle.iiif_pixel.proofs.Whole.{sample_at-le, whole_picture_of}

sum_from-le : (u n : ℕ) (f g : ℕ → ℕ) → ((x : ℕ) → f x ≤ g x) → sum_from u n f ≤ sum_from u n g
unfolding sum_from
sum_from-le u zero f g h = omega arith
sum_from-le u (suc n) f g h = omega (arith, sum_from-le u n f g h, h (u + n))

-- a factor of each term is one of the sum
pub sum_from-mul : (u n c : ℕ) (f : ℕ → ℕ) → sum_from u n (λ x. c * f x) ≡ c * sum_from u n f
unfolding sum_from
sum_from-mul u zero c f = omega arith
sum_from-mul u (suc n) c f = omega (arith, sum_from-mul u n c f)

-- what [p, q) shares with columns u to u + n of width c is what it shares with all of them together
pub overlaps_add : (p q c u n : ℕ) → p ≤ q → sum_from u n (λ x. overlap p q (x * c) ((x + 1) * c)) ≡ overlap p q (u * c) ((u + n) * c)
unfolding sum_from overlap
overlaps_add p q c u zero h = omega arith
overlaps_add p q c u (suc n) h = omega (arith, overlaps_add p q c u n h)

-- result column i takes at most a of any source columns
pub weights-le : (i a c u n : ℕ) → sum_from u n (λ x. weight_of i x a c) ≤ a
unfolding weight_of overlap
weights-le i a c u n = omega (arith, overlaps_add (i * a) ((i + 1) * a) c u n (omega arith))

-- a sum of weighted terms, none above m
weighted-le : (i a c u n m : ℕ) (f : ℕ → ℕ) → ((x : ℕ) → f x ≤ weight_of i x a c * m) → sum_from u n f ≤ a * m
weighted-le i a c u n m f h =
    let e = sum_from-le u n f (λ x. m * weight_of i x a c) (λ x. omega (arith, h x)) in
    let d = sum_from-mul u n m (λ x. weight_of i x a c) in
    omega (arith, mul-le-mul_left m (weights-le i a c u n))

area_sum-le : (region size : Dim) (part : Rect) (f : ℕ → ℕ → ℕ) (i j t : ℕ) → ((x y : ℕ) → f x y ≤ t) →
    area_sum region size part f i j ≤ region.w * region.h * t
unfolding area_sum
area_sum-le region size part f i j t h =
    let wx : ℕ → ℕ = λ x. weight_of i x region.w size.w in
    let wy : ℕ → ℕ = λ y. weight_of j y region.h size.h in
    let row : (y : ℕ) → sum_from part.x part.w (λ x. wx x * wy y * f x y) ≤ wy y * (region.w * t) = λ y.
    omega (
      arith,
      weighted-le i region.w size.w part.x part.w (wy y * t) (λ x. wx x * wy y * f x y) (λ x.
          omega (arith, mul-le-mul_left (wx x * wy y) (h x y))),
    ) in
    omega (arith, weighted-le j region.h size.h part.y part.h (region.w * t) (λ y. sum_from part.x part.w (λ x. wx x * wy y * f x y)) row)

-- the average of m terms whose sum is at most m by t
average_is-le : (s m t : ℕ) → s ≤ m * t → (2 * s + m) / (2 * m) ≤ t
average_is-le s zero t h = rw (div-zero (2 * s + 0)) (omega arith)
average_is-le s (suc m) t h =
    let below : 2 * s + suc m < (t + 1) * (2 * suc m) = omega (arith, h) in
    let e : (2 * s + suc m) / (2 * suc m) < t + 1 = (div-lt_iff_lt-mul {k = 2 * suc m} (omega arith)).1 below in
    omega (arith, e)

-- a scaled picture has no sample above top
pub scaled_at-le : (p : Picture) (size : Dim) → IsWhole p → (i j k : ℕ) → scaled_at p size i j k ≤ p.top
unfolding scaled_at
scaled_at-le p size whole i j k =
    average_is-le _ (p.width * p.height) p.top
    (area_sum-le (dim_of p) size (whole_of (dim_of p)) (λ x y. sample_at p x y k) i j p.top (λ x y. sample_at-le p whole x y k))

-- a whole picture, scaled, is whole
pub whole_scale : (p : Picture) (size : Dim) → IsWhole p → IsWhole (scale p size)
whole_scale p size whole =
    whole_picture_of size.w size.h p.channels p.top (scaled_at p size) whole.channels whole.top
    (λ i j k li lj lk. scaled_at-le p size whole i j k)
