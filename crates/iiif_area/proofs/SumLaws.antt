-- Laws of sums over ranges: `sum_from u n f` adds f u, f (u + 1) .. f (u + n - 1).
use Rattle.std.proofs.Common.{sum, map, ◌≡◌, ℕ, zero, suc, ◌+◌, ◌-◌, ◌*◌, ◌<◌, ◌≤◌, refl, sym, ap, ◌∙◌, arith, add-one, add-zero}
use Rattle.std.specs.List.{range_with_len}
use Rattle.std.proofs.lemmas.List.FromFn.{sum_by-map-range_with_len_more}
use Rattle.std.proofs.Math.Nat.{mul-le-mul_left}
use Rattle.iiif_pixel.specs.Scaling.{sum_from}
use Rattle.iiif_pixel.proofs.ScaleLemmas.{sum_from-mul}

-- A sum of no terms is 0.
pub sum_from-none : (u : ℕ) (f : ℕ → ℕ) → sum_from u 0 f ≡ 0
unfolding sum_from
sum_from-none u f = refl

-- A sum grows at its end, by definition.
pub sum_from-suc : (u n : ℕ) (f : ℕ → ℕ) → sum_from u (suc n) f ≡ sum_from u n f + f (u + n)
unfolding sum_from
sum_from-suc u n f = refl

-- A sum grows by one term; j is written as the goal has it.
pub sum_from-more : (u n j : ℕ) (f : ℕ → ℕ) → u + n ≡ j → sum_from u (n + 1) f ≡ sum_from u n f + f j
sum_from-more u n j f e = rw (add-one, sum_from-suc u n f, e) refl

-- A sum of one term is that term.
pub sum_from-one : (u : ℕ) (f : ℕ → ℕ) → sum_from u 1 f ≡ f u
sum_from-one u f = rw (sum_from-more u 0 u f (omega arith), sum_from-none u f) (omega arith)

-- Sums of equal terms are equal.
pub sum_from-same : (u n : ℕ) (f g : ℕ → ℕ) → ((k : ℕ) → u ≤ k → k < u + n → f k ≡ g k) → sum_from u n f ≡ sum_from u n g
unfolding sum_from
sum_from-same u zero f g h = refl
sum_from-same u (suc n) f g h =
    let e = sum_from-same u n f g (λ k l m. h k l (omega arith)) in
    let d = h (u + n) (omega arith) (omega arith) in
    cc

-- A sum of terms that are 0 is 0.
pub sum_from-zero : (u n : ℕ) (f : ℕ → ℕ) → ((k : ℕ) → u ≤ k → k < u + n → f k ≡ 0) → sum_from u n f ≡ 0
unfolding sum_from
sum_from-zero u zero f h = refl
sum_from-zero u (suc n) f h =
    let e = sum_from-zero u n f (λ k l m. h k l (omega arith)) in
    let d = h (u + n) (omega arith) (omega arith) in
    omega arith

-- A sum over a range is the sum over its two parts.
pub sum_from-split : (u m n : ℕ) (f : ℕ → ℕ) → sum_from u (m + n) f ≡ sum_from u m f + sum_from (u + m) n f
unfolding sum_from
sum_from-split u m zero f = rw add-zero (omega arith)
sum_from-split u m (suc n) f =
    let e = sum_from-split u m n f in
    let d : u + (m + n) ≡ u + m + n = omega arith in
    let c : m + suc n ≡ suc (m + n) = omega arith in
    rw (c, sum_from-suc u (m + n) f, e, d) (omega arith)

-- The sum of sums, term by term.
pub sum_from-add : (u n : ℕ) (f g : ℕ → ℕ) → sum_from u n (λ k. f k + g k) ≡ sum_from u n f + sum_from u n g
unfolding sum_from
sum_from-add u zero f g = refl
sum_from-add u (suc n) f g = omega (arith, sum_from-add u n f g)

-- A sum of terms that are no greater is no greater.
pub sum_from-le : (u n : ℕ) (f g : ℕ → ℕ) → ((k : ℕ) → u ≤ k → k < u + n → f k ≤ g k) → sum_from u n f ≤ sum_from u n g
unfolding sum_from
sum_from-le u zero f g h = omega arith
sum_from-le u (suc n) f g h =
    let e = sum_from-le u n f g (λ k l m. h k l (omega arith)) in
    let d = h (u + n) (omega arith) (omega arith) in
    omega arith

-- A sum over a shorter range is no greater.
pub sum_from-le-longer : (u m n : ℕ) (f : ℕ → ℕ) → m ≤ n → sum_from u m f ≤ sum_from u n f
sum_from-le-longer u m n f h =
    let e = sum_from-split u m (n - m) f in
    let d : m + (n - m) ≡ n = omega arith in
    omega (arith, rw d at e)

-- Two sums may be exchanged.
pub sum_from_swap : (u m v n : ℕ) (f : ℕ → ℕ → ℕ) →
    sum_from v n (λ y. sum_from u m (λ x. f x y)) ≡ sum_from u m (λ x. sum_from v n (λ y. f x y))
unfolding sum_from
sum_from_swap u m v zero f = sym (sum_from-zero u m (λ x. sum_from v 0 (λ y. f x y)) (λ k _ _. refl))
sum_from_swap u m v (suc n) f =
    let e = sum_from_swap u m v n f in
    let d = sum_from-add u m (λ x. sum_from v n (λ y. f x y)) (λ x. f x (v + n)) in
    omega arith

-- A sum whose terms are 0 outside of lo to hi is the sum from lo to hi.
pub sum_from-narrow : (u n lo hi : ℕ) (f : ℕ → ℕ) → u ≤ lo → lo ≤ hi → hi ≤ u + n → ((k : ℕ) → u ≤ k → k < lo → f k ≡ 0) →
    ((k : ℕ) → hi ≤ k → k < u + n → f k ≡ 0) → sum_from u n f ≡ sum_from lo (hi - lo) f
sum_from-narrow u n lo hi f a b c below above =
    let e1 = sum_from-split u (lo - u) (n - (lo - u)) f in
    let e2 = sum_from-split lo (hi - lo) (u + n - hi) f in
    let z1 = sum_from-zero u (lo - u) f (λ k m l. below k m (omega arith)) in
    let z2 = sum_from-zero hi (u + n - hi) f (λ k l m. above k l (omega arith)) in
    let d1 : lo - u + (n - (lo - u)) ≡ n = omega arith in
    let d2 : u + (lo - u) ≡ lo = omega arith in
    let d3 : hi - lo + (u + n - hi) ≡ n - (lo - u) = omega arith in
    let d4 : lo + (hi - lo) ≡ hi = omega arith in
    omega (arith, rw (d1, d2) at e1, rw (d3, d4) at e2)

-- A loop's sum before its first turn.
pub sum_from-start : (u n : ℕ) (f : ℕ → ℕ) → n ≡ 0 → 0 ≡ sum_from u n f
sum_from-start u n f e = rw (e, sum_from-none u f) refl

-- A loop's sum after the turn at x.
pub sum_from-step : (u x : ℕ) (f : ℕ → ℕ) (s t : ℕ) → u ≤ x → s ≡ sum_from u (x - u) f → t ≡ f x → s + t ≡ sum_from u (x + 1 - u) f
sum_from-step u x f s t l a b =
    let e : x + 1 - u ≡ x - u + 1 = omega arith in
    let d : u + (x - u) ≡ x = omega arith in
    rw (e, sum_from-more u (x - u) x f d) (omega arith)

-- A loop's sum at its end.
pub sum_from-end : (u x v : ℕ) (f : ℕ → ℕ) (s : ℕ) → s ≡ sum_from u (x - u) f → x ≡ v → s ≡ sum_from u (v - u) f
sum_from-end u x v f s h e = h ∙ ap (λ w. sum_from u (w - u) f) e

-- 0 times a number is 0.
pub none_times : {m : ℕ} (n : ℕ) → m ≡ 0 → m * n ≡ 0
none_times n e = ap (λ u. u * n) e ∙ omega arith

-- Products of equal factors are equal.
pub same_product : {m n p q : ℕ} → m ≡ n → p ≡ q → m * p ≡ n * q
same_product a b = cc

-- A sum over a range, in std's words.
pub sum_from-std : (u n : ℕ) (f : ℕ → ℕ) → sum_from u n f ≡ sum (map f (range_with_len u n))
unfolding sum_from
sum_from-std u zero f = refl
sum_from-std u (suc n) f =
    let e : suc n ≡ n + 1 = omega arith in
    omega (
      arith,
      sum_from-std u n f,
      ap (λ k. sum (map f (range_with_len u k))) e,
      sum_by-map-range_with_len_more (λ x. x) f u n (u + n) refl,
    )

-- A sum over a range, counted from 0.
pub sum_from-shift : (u n : ℕ) (f : ℕ → ℕ) → sum_from u n f ≡ sum_from 0 n (λ t. f (u + t))
unfolding sum_from
sum_from-shift u zero f = refl
sum_from-shift u (suc n) f =
    let e : u + (0 + n) ≡ u + n = omega arith in
    omega (arith, sum_from-shift u n f, ap f e)

-- A weighted sum is at most a times m, if the weights add up to at most a and no number is above m.
pub weighted_sum-le : (u n a m : ℕ) (w f : ℕ → ℕ) → sum_from u n w ≤ a → ((x : ℕ) → u ≤ x → x < u + n → f x ≤ m) →
    sum_from u n (λ x. w x * f x) ≤ a * m
weighted_sum-le u n a m w f total h =
    let e = sum_from-le u n (λ x. w x * f x) (λ x. m * w x) (λ x l k. omega (arith, mul-le-mul_left (w x) (h x l k))) in
    let d = sum_from-mul u n m w in
    let g = mul-le-mul_left m total in
    omega arith

-- A weighted sum whose weights are c but for the first and the last.
pub three_parts : (c l r : ℕ) (w f : ℕ → ℕ) → l + 1 < r → ((x : ℕ) → l < x → x + 1 < r → w x ≡ c) →
    sum_from l (r - l) (λ x. w x * f x) ≡ w l * f l + c * sum_from (l + 1) (r - 1 - (l + 1)) f + w (r - 1) * f (r - 1)
three_parts c l r w f h inside =
    let t : ℕ → ℕ = λ x. w x * f x in
    let m = r - 1 - (l + 1) in
    let n : r - l ≡ 1 + (m + 1) = omega arith in
    let e = ap (λ u. sum_from l u t) n in
    let s = sum_from-split l 1 (m + 1) t in
    let o = sum_from-one l t in
    let q = sum_from-more (l + 1) m (r - 1) t (omega arith) in
    let g = sum_from-same (l + 1) m t (λ x. c * f x) (λ x u v. ap (λ z. z * f x) (inside x (omega arith) (omega arith))) in
    let z = sum_from-mul (l + 1) m c f in
    omega arith
