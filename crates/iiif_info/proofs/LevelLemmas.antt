-- Levels, and the powers of two up to the last one.
use Rattle.std.proofs.Common.{◌≡◌, ℕ, zero, suc, ◌+◌, ◌*◌, ◌^◌, ◌<◌, ◌≤◌, true, false, List, [], ◌∷◌, ◌++◌, map, length, nat_le, get_or}
use Rattle.std.proofs.Common.{zero-add, add-one, sym, ap, ◌∙◌, subst, arith, ⊎_elim}
use Rattle.std.proofs.Math.Nat.{mul-le-mul, pow-succ', pow-suc, mul_assoc}
use borrow.Author.Count.{below_more}
use Rattle.std.proofs.lemmas.Bool.{le-leb, leb-true, lt-leb, leb-false, cases_lt}
use Rattle.std.proofs.lemmas.List.FromFn.{length-range_with_len, get_or-range_with_len, map-range_with_len_more}
use Rattle.std.proofs.lemmas.List.Sums.{position_or_len_is, fails_before_first, passes_at_first, prefix_len-le-length}
use Rattle.std.specs.List.{range_with_len, position_or_len}
use Rattle.iiif_info.specs.Information.{last_level, scale_factors}
use Rattle.iiif_info.specs.Laws.{LastLevelIsLeast}

-- A power of two is above its exponent.
lt_pow : (n : ℕ) → n < 2 ^ n
lt_pow zero = omega arith
lt_pow (suc n) = omega (arith, lt_pow n, pow-succ' 2 n)

-- A power is at most its product with the edge.
pow_le_edge : (edge n : ℕ) → 0 < edge → 2 ^ n ≤ edge * 2 ^ n
pow_le_edge edge n some =
    let one : 1 ≤ edge = omega arith in
    let same : 2 ^ n ≤ 2 ^ n = omega arith in
    omega (arith, mul-le-mul one same)

-- A level below which no tile covers the side is at most the side.
level_in_side : (edge side n : ℕ) → 0 < edge → ((k : ℕ) → k < n → edge * 2 ^ k < side) → n ≤ side
level_in_side edge side zero some below = omega arith
level_in_side edge side (suc n) some below =
    let last : edge * 2 ^ n < side = below n (omega arith) in
    omega (arith, last, pow_le_edge edge n some, lt_pow n)

-- Level k is k, as levels are searched from 0.
level_at : (side k : ℕ) → k < side → get_or (range_with_len 0 side) k 0 ≡ k
level_at side k within = get_or-range_with_len 0 side k 0 within ∙ zero-add k

-- The last level is n where one tile covers the side at level n and at none below.
pub last_level_is : (edge side n : ℕ) → 0 < edge → side ≤ edge * 2 ^ n → ((k : ℕ) → k < n → edge * 2 ^ k < side) → last_level edge side ≡ n
unfolding last_level
last_level_is edge side n some covered below =
    let small = level_in_side edge side n some below in
    position_or_len_is (λ k. nat_le side (edge * 2 ^ k)) (range_with_len 0 side) n 0 (omega (arith, small, length-range_with_len 0 side))
    (λ k before.
    let here : edge * 2 ^ k < side = below k before in
    let fails : nat_le side (edge * 2 ^ k) ≡ false = lt-leb _ _ here in
    rw (level_at side k (omega (arith, before, small))) fails)
    (λ within.
    let passes : nat_le side (edge * 2 ^ n) ≡ true = le-leb _ _ covered in
    rw (level_at side n (omega (arith, within, length-range_with_len 0 side))) passes)

-- One tile covers the side at the last level, and at none below.
pub last_level_least : LastLevelIsLeast
unfolding last_level
last_level_least edge side some =
    let covers = λ (k : ℕ). nat_le side (edge * 2 ^ k) in
    let levels : List ℕ = range_with_len 0 side in
    let level : ℕ = position_or_len covers levels in
    let many : length levels ≡ side = length-range_with_len 0 side in
    let bounded : level ≤ length levels = prefix_len-le-length _ levels in (
      ⊎_elim
          (λ (h : level < side).
          leb-true side (edge * 2 ^ level) (rw (level_at side level h) at (passes_at_first covers levels 0 (omega (arith, h, many)))))
          (λ (h : side ≤ level).
          let all : level ≡ side = omega arith in
          let over : side ≤ edge * 2 ^ side = omega (arith, lt_pow side, pow_le_edge edge side some) in
          subst (λ (k : ℕ). side ≤ edge * 2 ^ k) (sym all) over)
          (cases_lt level side),
      λ k before. leb-false side (edge * 2 ^ k) (rw (level_at side k (omega arith)) at (fails_before_first covers levels k 0 before)),
    )

-- The scale factors are the powers up to 2 ^ n where one tile covers the side at level n and at none below.
pub scale_factors_are : (edge side n : ℕ) → 0 < edge → side ≤ edge * 2 ^ n → ((k : ℕ) → k < n → edge * 2 ^ k < side)
    → scale_factors edge side ≡ map (λ k. 2 ^ k) (range_with_len 0 (n + 1))
unfolding scale_factors
scale_factors_are edge side n some covered below =
    ap (λ m. map (λ k. 2 ^ k) (range_with_len 0 (m + 1))) (last_level_is edge side n some covered below)

-- The powers up to 2 ^ (n + 1) are those up to 2 ^ n, and one more.
pub pows_more : (n : ℕ) →
    map (λ k. 2 ^ k) (range_with_len 0 (n + 1 + 1)) ≡ map (λ k. 2 ^ k) (range_with_len 0 (n + 1)) ++ 2 ^ (n + 1) ∷ []
pows_more n = map-range_with_len_more (λ k. 2 ^ k) 0 (n + 1) (n + 1) (omega arith)

-- Each power is twice the one before.
pub pow_more : (n : ℕ) → 2 ^ (n + 1) ≡ 2 ^ n * 2
pow_more n = rw add-one (pow-suc 2 n)

-- Where no tile covers the side at level n or below, none does below n + 1.
pub below_level_more : (edge side n factor : ℕ) → factor ≡ 2 ^ n → edge * factor < side → ((k : ℕ) → k < n → edge * 2 ^ k < side)
    → (k : ℕ) → k < n + 1 → edge * 2 ^ k < side
below_level_more edge side n factor is here below = below_more (λ k. edge * 2 ^ k < side) n below (subst (λ f. edge * f < side) is here)

-- Twice the factor is twice the product with the edge.
pub edge_doubled : (edge factor : ℕ) → edge * (factor * 2) ≡ edge * factor * 2
edge_doubled edge factor = sym (mul_assoc edge factor 2)
