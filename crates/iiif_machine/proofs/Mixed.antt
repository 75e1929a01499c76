-- Lists of which the first so many elements are changed.
use Rattle.std.proofs.Common.{◌≡◌, ℕ, zero, suc, ◌+◌, ◌≤◌, ◌<◌, List, [], ◌∷◌, map, length, Some, refl, sym, ap, ◌∙◌, arith, get_or, Bool}
use Rattle.std.proofs.Common.{true, false, cond, None}
use Rattle.std.specs.Prelude.{slice_get, slice_set}
use Rattle.std.proofs.lemmas.Option.{none-some, get_or_from_slice_get, same_Some}

-- the first so many changed
abbrev pub mixed : {A : Type 0} → (A → A) → ℕ → List A → List A
mixed g zero xs = xs
mixed g (suc i) [] = []
mixed g (suc i) (x ∷ xs) = g x ∷ mixed g i xs

pub mixed_more : {A : Type 0} (g : A → A) (i : ℕ) (xs : List A) (x : A) → slice_get xs i ≡ Some x →
    slice_set (mixed g i xs) i (g x) ≡ mixed g (suc i) xs
mixed_more g zero [] x h = absurd (none-some x h)
mixed_more g zero (y ∷ xs) x h = ap (λ z. g z ∷ xs) (sym (same_Some y x h))
mixed_more g (suc i) [] x h = absurd (none-some x h)
mixed_more g (suc i) (y ∷ xs) x h = ap (λ l. g y ∷ l) (mixed_more g i xs x h)

pub mixed_next : {A : Type 0} (g : A → A) (i : ℕ) (xs : List A) → slice_get (mixed g i xs) i ≡ slice_get xs i
mixed_next g zero xs = refl
mixed_next g (suc i) [] = refl
mixed_next g (suc i) (x ∷ xs) = mixed_next g i xs

pub mixed_all : {A : Type 0} (g : A → A) (i : ℕ) (xs : List A) → length xs ≤ i → mixed g i xs ≡ map g xs
mixed_all g zero [] h = refl
mixed_all g zero (x ∷ xs) h = absurd (omega (arith, h))
mixed_all g (suc i) [] h = refl
mixed_all g (suc i) (x ∷ xs) h = ap (λ l. g x ∷ l) (mixed_all g i xs (omega (arith, h)))

pub mixed_length : {A : Type 0} (g : A → A) (i : ℕ) (xs : List A) → length (mixed g i xs) ≡ length xs
mixed_length g zero xs = refl
mixed_length g (suc i) [] = refl
mixed_length g (suc i) (x ∷ xs) = ap suc (mixed_length g i xs)

pub get_there : {A : Type 0} (xs : List A) (i : ℕ) → i < length xs → (x : A) × (slice_get xs i ≡ Some x)
get_there [] i h = absurd (omega (arith, h))
get_there (x ∷ xs) zero h = (x, refl)
get_there (x ∷ xs) (suc i) h = get_there xs i (omega (arith, h))

-- a test that keeps nothing is false
pub past : (b : Bool) (n : ℕ) → cond b (Some n) None ≡ None → b ≡ false
past true n h = absurd (none-some n (sym h))
past false n h = refl

-- one element more
pub mixed_step : {A : Type 0} (g : A → A) (old now : List A) (i : ℕ) (y z : A) → now ≡ mixed g i old → i < length now → y ≡ get_or now i y →
    z ≡ g y →
    slice_set now i z ≡ mixed g (i + 1) old
mixed_step g old now i y z is less item made =
    let shorter : i < length old = omega (arith, ap length is, mixed_length g i old) in
    let x = get_there old i shorter in
    let at : slice_get now i ≡ Some x.0 = ap (λ l. slice_get l i) is ∙ mixed_next g i old ∙ x.1 in
    let same : y ≡ x.0 = item ∙ get_or_from_slice_get now i x.0 y at in
    let next : suc i ≡ i + 1 = omega arith in
    ap (λ v. slice_set now i v) (made ∙ ap g same) ∙ ap (λ l. slice_set l i (g x.0)) is ∙ mixed_more g i old x.0 x.1 ∙
    ap (λ n. mixed g n old) next

pub mixed_done : {A : Type 0} (g : A → A) (old now : List A) (i : ℕ) → now ≡ mixed g i old → length now ≤ i → now ≡ map g old
mixed_done g old now i is out =
    let all : length old ≤ i = omega (arith, ap length is, mixed_length g i old) in
    is ∙ mixed_all g i old all
