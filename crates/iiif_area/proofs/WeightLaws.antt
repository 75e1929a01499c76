-- Laws of overlaps and weights.
use Rattle.std.proofs.Common.{ap, ◌≡◌, ℕ, ◌+◌, ◌*◌, ◌/◌, ◌<◌, ◌≤◌, ◌∙◌, arith}
use Rattle.std.proofs.Math.Nat.{mul-le-mul_right, le_trans}
use Rattle.std.proofs.lemmas.Nat.{div-add-mod', mod_below}
use Rattle.std.proofs.lemmas.Grind.{div_ceil_times}
use Rattle.std.specs.Int.{div_ceil}
use Rattle.iiif_pixel.specs.Scaling.{sum_from, overlap, weight_of}
use Rattle.iiif_pixel.proofs.ScaleLemmas.{overlaps_add, weights-le}
use Rattle.iiif_area.specs.Laws.{WeightsAddUp, NoWeightBefore, NoWeightFrom}
use Rattle.iiif_area.proofs.SumLaws.{sum_from-same, sum_from-shift, weighted_sum-le}

-- Two intervals overlap each other by one length.
pub overlap_turned : (p q r s : ℕ) → overlap p q r s ≡ overlap r s p q
unfolding overlap
overlap_turned p q r s = omega arith

-- Source and result may change places in a weight.
pub weight_turned : (i x a c : ℕ) → weight_of i x a c ≡ weight_of x i c a
unfolding weight_of
weight_turned i x a c = overlap_turned (i * a) ((i + 1) * a) (x * c) ((x + 1) * c)

-- A source column that ends before a result column begins has no weight in it.
pub weight_before : (i x a c : ℕ) → (x + 1) * c ≤ i * a → weight_of i x a c ≡ 0
unfolding weight_of overlap
weight_before i x a c h = omega arith

-- A source column that begins behind a result column has no weight in it.
pub weight_after : (i x a c : ℕ) → (i + 1) * a ≤ x * c → weight_of i x a c ≡ 0
unfolding weight_of overlap
weight_after i x a c h = omega arith

-- The weights of columns u to u + n in a result column add up to the length that they share with it.
pub weights_are : (i a c u n : ℕ) → sum_from u n (λ x. weight_of i x a c) ≡ overlap (i * a) ((i + 1) * a) (u * c) ((u + n) * c)
unfolding weight_of
weights_are i a c u n = overlaps_add (i * a) ((i + 1) * a) c u n (omega arith)

-- The weights of each result column add up to a.
pub weights_whole : WeightsAddUp
unfolding overlap
weights_whole i a c h =
    let e = weights_are i a c 0 a in
    let m : (i + 1) * a ≤ c * a = mul-le-mul_right a (omega arith) in
    omega arith

-- A weight is at most a.
pub weight-le : (i x a c : ℕ) → weight_of i x a c ≤ a
unfolding weight_of overlap
weight-le i x a c = omega arith

-- A weight is at most c.
pub weight-le_result : (i x a c : ℕ) → weight_of i x a c ≤ c
unfolding weight_of overlap
weight-le_result i x a c = omega arith

-- A quotient times the divisor is at most the dividend.
pub div_times-le : (n m : ℕ) → n / m * m ≤ n
div_times-le n m = omega (arith, div-add-mod' n m)

-- A quotient rounded up, times the divisor, is at least the dividend.
pub div_ceil-times : (n m : ℕ) → 0 < m → n ≤ div_ceil n m * m
div_ceil-times n m h = (div_ceil_times n m h).0

-- Source columns from u on have no weight in result columns below floor(u*c/a).
pub weight_below_places : NoWeightBefore
weight_below_places i x u a c l h =
    let e : (i + 1) * a ≤ u * c / a * a = mul-le-mul_right a (omega arith) in
    let f : u * c ≤ x * c = mul-le-mul_right c l in
    weight_after i x a c (omega (arith, div_times-le (u * c) a))

-- Source columns below v have no weight in result columns from ceil(v*c/a) on.
pub weight_above_places : NoWeightFrom
weight_above_places i x v a c p l h =
    let e : div_ceil (v * c) a * a ≤ i * a = mul-le-mul_right a h in
    let f : (x + 1) * c ≤ v * c = mul-le-mul_right c (omega arith) in
    let g = div_ceil-times (v * c) a p in
    weight_before i x a c (le_trans f (le_trans g e))

-- A source column below floor(i*a/c) has no weight in result column i.
pub weight_below_sources : (i x a c : ℕ) → x < i * a / c → weight_of i x a c ≡ 0
weight_below_sources i x a c h = weight_turned i x a c ∙ weight_below_places x i i c a (omega arith) h

-- A source column from ceil((i+1)*a/c) on has no weight in result column i.
pub weight_above_sources : (i x a c : ℕ) → 0 < c → div_ceil ((i + 1) * a) c ≤ x → weight_of i x a c ≡ 0
weight_above_sources i x a c p h = weight_turned i x a c ∙ weight_above_places x i (i + 1) c a p (omega arith) h

-- A source column between the first and the last of a result column is whole in it.
pub weight_between : (i x a c : ℕ) → 0 < c → i * a / c < x → x + 1 < div_ceil ((i + 1) * a) c → weight_of i x a c ≡ c
unfolding weight_of overlap
weight_between i x a c p l h =
    let e = div-add-mod' (i * a) c in
    let r = mod_below (i * a) c p in
    let d : (i * a / c + 1) * c ≤ x * c = mul-le-mul_right c (omega arith) in
    let g : (x + 1) * c ≤ (i + 1) * a / c * c = mul-le-mul_right c (omega arith) in
    let f = div_times-le ((i + 1) * a) c in
    omega arith

-- A weighted sum is at most a times m, if no number is above m.
pub weighted-le : (i a c u n m : ℕ) (f : ℕ → ℕ) → ((x : ℕ) → u ≤ x → x < u + n → f x ≤ m) →
    sum_from u n (λ x. weight_of i x a c * f x) ≤ a * m
weighted-le i a c u n m f h = weighted_sum-le u n a m (λ x. weight_of i x a c) f (weights-le i a c u n) h

-- A weighted sum of columns that are counted from `from` has the same bound.
pub weighted-le_from : (i a c from u n m : ℕ) (f : ℕ → ℕ) → ((x : ℕ) → u ≤ x → x < u + n → f x ≤ m) →
    sum_from u n (λ x. weight_of i (from + x) a c * f x) ≤ a * m
weighted-le_from i a c from u n m f h =
    let w : ℕ → ℕ = λ x. weight_of i (from + x) a c in
    let e = sum_from-shift (from + u) n (λ x. weight_of i x a c) in
    let d = sum_from-shift u n w in
    let same = sum_from-same 0 n (λ t. weight_of i (from + u + t) a c) (λ t. weight_of i (from + (u + t)) a c)
    (λ t _ _. ap (λ z. weight_of i z a c) (omega arith)) in
    weighted_sum-le u n a m w f (omega (arith, weights-le i a c (from + u) n)) h

-- A number of weight 0 adds nothing.
pub weighted_before : (i x a c v : ℕ) → weight_of i x a c ≡ 0 → weight_of i x a c * v ≡ 0
weighted_before i x a c v e = rw e (omega arith)
