-- Averages by the reciprocal of the area, counted in parts of `one`.
use Rattle.std.proofs.Common.{◌≡◌, ℕ, ◌+◌, ◌-◌, ◌*◌, ◌/◌, ◌%◌, ◌^◌, ◌<◌, ◌≤◌, min, sym, ap, ◌∙◌, arith, ⊎_elim}
use Rattle.std.proofs.Math.Nat.{add-mul-div_right, div-div-eq-div-mul, div-mul-le_self, lt-div-mul-add, lt_of_mul-lt-mul_left}
use Rattle.std.proofs.Math.Nat.{le_of_mul-le-mul_left, mul-le-mul_left}
use Rattle.std.proofs.lemmas.Nat.{div_below, le-div, one_shl, pow-add}
use Rattle.std.proofs.lemmas.Bool.{cases_lt}
use Rattle.iiif_area.specs.Grid.{average_within}

-- A quotient is the number whose multiple is the last one not above.
pub quotient_is : (n k q : ℕ) → 0 < k → q * k ≤ n → n < (q + 1) * k → n / k ≡ q
quotient_is n k q some low high =
    let least : q ≤ n / k = le-div q n k some low in
    let most : n / k < q + 1 = div_below n k (q + 1) some high in
    omega arith

-- A reciprocal that was rounded down gives at most the quotient ..
pub low_below : (n area reciprocal one : ℕ) → 0 < one → reciprocal ≡ one / area → n * reciprocal / one * area ≤ n
low_below n area m one some is =
    let q = n * m / one in
    let part : m * area ≤ one = rw is (div-mul-le_self one area) in
    let e : n * (m * area) ≤ n * one = mul-le-mul_left n part in
    let d : area * (q * one) ≤ area * (n * m) = mul-le-mul_left area (div-mul-le_self (n * m) one) in
    le_of_mul-le-mul_left {k = one} (omega arith) some

-- .. and at least one less.
pub low_near : (n area reciprocal one : ℕ) → 0 < area → n < one → reciprocal ≡ one / area → n < (n * reciprocal / one + 2) * area
low_near n area m one some below is =
    let q = n * m / one in
    let part : one < m * area + area = rw is (lt-div-mul-add some) in
    let near : n * m < q * one + one = lt-div-mul-add (omega arith) in
    let e : n * one ≤ n * (m * area + area) = mul-le-mul_left n (omega arith) in
    let d : area * (n * m + 1) ≤ area * (q * one + one) = mul-le-mul_left area (omega arith) in
    let f : area * (n + 1) ≤ area * one = mul-le-mul_left area (omega arith) in
    lt_of_mul-lt-mul_left one (omega arith)

-- The reciprocal of an area of at most `one` isn't 0.
pub reciprocal_some : (area reciprocal one : ℕ) → 0 < area → area ≤ one → reciprocal ≡ one / area → 0 < reciprocal
reciprocal_some area m one some fits is = let least : 1 ≤ one / area = le-div 1 one area some (omega arith) in omega arith

-- A number below k areas, times the reciprocal, is below k times `one`.
pub product_below : (n area reciprocal one k : ℕ) → 0 < reciprocal → reciprocal ≡ one / area → n < k * area → n * reciprocal < k * one
product_below n area m one k some is below =
    let part : m * area ≤ one = rw is (div-mul-le_self one area) in
    let e : m * (n + 1) ≤ m * (k * area) = mul-le-mul_left m (omega arith) in
    let d : k * (m * area) ≤ k * one = mul-le-mul_left k part in
    omega arith

-- Rounding a half up is adding half of the area before dividing.
pub half_up : (s area : ℕ) → (2 * s + area) / (2 * area) ≡ (s + area / 2) / area
half_up s area = sym (div-div-eq-div-mul (2 * s + area) 2 area) ∙ ap (λ u. u / area) (omega arith)

-- A quotient may be capped before the division.
pub capped : (n area top : ℕ) → 0 < area → min n ((top + 1) * area - 1) / area ≡ min top (n / area)
capped n area top some =
    let more : area ≤ (top + 1) * area = omega arith in
    ⊎_elim
    (λ (h : n < (top + 1) * area).
    let same : min n ((top + 1) * area - 1) ≡ n = omega arith in
    let low : n / area < top + 1 = div_below n area (top + 1) some h in
    ap (λ u. u / area) same ∙ omega arith)
    (λ (h : (top + 1) * area ≤ n).
    let least : top + 1 ≤ n / area = le-div (top + 1) n area some h in
    let same : min n ((top + 1) * area - 1) ≡ (top + 1) * area - 1 = omega arith in
    let is : ((top + 1) * area - 1) / area ≡ top = quotient_is ((top + 1) * area - 1) area top some (omega arith) (omega arith) in
    ap (λ u. u / area) same ∙ is ∙ omega arith)
    (cases_lt n ((top + 1) * area))

-- The average of a sum that was capped at a machine word is the average of the sum.
pub average_is : (s area top word sum most parts q : ℕ) → 0 < area → (top + 1) * area ≤ word → sum ≡ min (s + area / 2) (word - 1) →
    most ≡ top →
    parts ≡ min sum ((most + 1) * area - 1) → q ≡ parts / area → q ≡ average_within area top s
average_is s area top word sum most parts q some fits sum_is most_is parts_are is =
    let above : (most + 1) * area ≡ (top + 1) * area = ap (λ u. (u + 1) * area) most_is in
    let same : parts ≡ min (s + area / 2) ((top + 1) * area - 1) = omega arith in
    is ∙ ap (λ u. u / area) same ∙ capped (s + area / 2) area top some ∙ ap (λ u. min top u) (sym (half_up s area))

-- Twice a power of two that fits a machine word isn't cut off by the shift.
pub doubled_shift : (area bits : ℕ) → bits < 64 → 0 < area → area ≡ 2 * 2 ^ bits % 2 ^ 64 → area ≡ 2 * 2 ^ bits
doubled_shift area bits below some is =
    ⊎_elim
    (λ (h : bits < 63). let e = one_shl (bits + 1) 64 (omega arith) in let d = pow-add 2 bits 1 in omega arith)
    (λ (h : 63 ≤ bits). let same : bits ≡ 63 = omega arith in absurd (omega (arith, ap (λ u. 2 * 2 ^ u % 2 ^ 64) same)))
    (cases_lt bits 63)

-- The average over twice a number, by halves, the odd half rounded up.
pub average_by_halves : (s half top : ℕ) → 0 < half → min (s / half / 2 + s / half % 2) top ≡ average_within (2 * half) top s
average_by_halves s half top some =
    let next : (s + half) / half ≡ s / half + 1 = ap (λ u. (s + u) / half) (omega arith) ∙ add-mul-div_right s 1 some in
    let whole : s + 2 * half / 2 ≡ s + half = omega arith in
    let twice : 2 * half ≡ half * 2 = omega arith in
    let parts = ap (λ u. (s + half) / u) twice ∙ sym (div-div-eq-div-mul (s + half) half 2) ∙ ap (λ u. u / 2) next in
    let same : (2 * s + 2 * half) / (2 * (2 * half)) ≡ (s / half + 1) / 2 = half_up s (2 * half) ∙ ap (λ u. u / (2 * half)) whole ∙ parts in
    let up : s / half / 2 + s / half % 2 ≡ (s / half + 1) / 2 = omega arith in
    let least : min (s / half / 2 + s / half % 2) top ≡ min top ((s / half + 1) / 2) = omega arith in
    least ∙ ap (λ u. min top u) (sym same)

-- A reciprocal that was rounded up gives the quotient of numbers that times the area are below `one` ..
pub quotient_by_more : (n area reciprocal one : ℕ) → 0 < area → n * area < one → reciprocal ≡ one / area + 1 →
    n * reciprocal / one ≡ n / area
quotient_by_more n area m one some small is =
    let q = n / area in
    let under : one < one / area * area + area = lt-div-mul-add some in
    let over : one / area * area ≤ one = div-mul-le_self one area in
    let product : m * area ≡ one / area * area + area = ap (λ u. u * area) is ∙ omega arith in
    let whole : q * area ≤ n = div-mul-le_self n area in
    let next : n < q * area + area = lt-div-mul-add some in
    let a : q * one ≤ q * (m * area) = mul-le-mul_left q (omega arith) in
    let b : m * (q * area) ≤ m * n = mul-le-mul_left m whole in
    let low : q * one ≤ n * m = omega arith in
    let d : n * (m * area) ≤ n * (one + area) = mul-le-mul_left n (omega arith) in
    let e : one * (n + 1) ≤ one * (q * area + area) = mul-le-mul_left one (omega arith) in
    let f : area * (n * m) < area * ((q + 1) * one) = omega arith in
    quotient_is (n * m) one q (omega arith) low (lt_of_mul-lt-mul_left area f)

-- .. and a number below k areas, times it, is at most k times `one` and the area.
pub product_fits : (area n reciprocal one k : ℕ) → 0 < area → n < k * area → reciprocal ≡ one / area + 1 → n * reciprocal ≤ k * (one + area)
product_fits area n m one k some below is =
    let over : one / area * area ≤ one = div-mul-le_self one area in
    let product : m * area ≡ one / area * area + area = ap (λ u. u * area) is ∙ omega arith in
    let a : m * n ≤ m * (k * area) = mul-le-mul_left m (omega arith) in
    let b : k * (m * area) ≤ k * (one + area) = mul-le-mul_left k (omega arith) in
    omega arith
