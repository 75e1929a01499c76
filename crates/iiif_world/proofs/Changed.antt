-- Lists of which elements are changed.
use Rattle.std.proofs.Common.{Vec, true, false, ◌≡◌, ℕ, zero, suc, ◌+◌, ◌≤◌, ◌<◌, List, [], ◌∷◌, ◌++◌, map, length, Some, None, refl, sym}
use Rattle.std.proofs.Common.{ap, ◌∙◌, arith, get_or, take, subst, length-append}
use Rattle.std.specs.Prelude.{slice_get, slice_set}
use Rattle.std.proofs.lemmas.Option.{none-some, get_or_from_slice_get, same_Some}
use Rattle.std.proofs.lemmas.List.{take_all, with_items_is, length-map}
use Rattle.std.specs.Vec.{with_items}
use Rattle.iiif_machine.specs.Sound.{Each}
use Rattle.iiif_machine.proofs.Lists.{each_one, each_cons}
use Rattle.iiif_machine.proofs.Mixed.{get_there}
use Rattle.iiif_world.specs.Settling.{joined}

pub set_same : {A : Type 0} (xs : List A) (i : ℕ) (x : A) → slice_get xs i ≡ Some x → slice_set xs i x ≡ xs
set_same [] i x h = refl
set_same (y ∷ xs) zero x h = ap (λ z. z ∷ xs) (sym (same_Some y x h))
set_same (y ∷ xs) (suc i) x h = ap (λ l. y ∷ l) (set_same xs i x h)

pub set_twice : {A : Type 0} (xs : List A) (i : ℕ) (x y : A) → slice_set (slice_set xs i x) i y ≡ slice_set xs i y
set_twice [] i x y = refl
set_twice (z ∷ xs) zero x y = refl
set_twice (z ∷ xs) (suc i) x y = ap (λ l. z ∷ l) (set_twice xs i x y)

pub map-set : {A B : Type 0} (g : A → B) (xs : List A) (i : ℕ) (x : A) → map g (slice_set xs i x) ≡ slice_set (map g xs) i (g x)
map-set g [] i x = refl
map-set g (y ∷ xs) zero x = refl
map-set g (y ∷ xs) (suc i) x = ap (λ l. g y ∷ l) (map-set g xs i x)

pub missing_map : {A B : Type 0} (g : A → B) (xs : List A) (i : ℕ) → slice_get xs i ≡ None → slice_get (map g xs) i ≡ None
missing_map g [] i h = refl
missing_map g (x ∷ xs) zero h = absurd (none-some x (sym h))
missing_map g (x ∷ xs) (suc i) h = missing_map g xs i h

-- the last one is joined first
pub joined_last : {A B : Type 0} (g : A → B → A) (xs : List A) (ys : List B) (x : A) (y : B) → slice_get xs (length ys) ≡ Some x →
    joined g (slice_set xs (length ys) (g x y)) ys ≡ joined g xs (ys ++ y ∷ [])
joined_last g [] ys x y h = absurd (none-some x h)
joined_last g (z ∷ []) [] x y h = ap (λ v. g v y ∷ []) (sym (same_Some z x h))
joined_last g (z ∷ v ∷ xs) [] x y h = ap (λ u. g u y ∷ v ∷ xs) (sym (same_Some z x h))
joined_last g (z ∷ xs) (v ∷ ys) x y h = ap (λ l. g z v ∷ l) (joined_last g xs ys x y h)

pub joined_nil : {A B : Type 0} (g : A → B → A) (xs : List A) → joined g xs [] ≡ xs
joined_nil g [] = refl
joined_nil g (x ∷ xs) = refl

-- each with what is made of it
pub joined_map : {A B : Type 0} (g : A → B → A) (f : A → B) (h : A → A) (xs : List A) → ((x : A) → g x (f x) ≡ h x) →
    joined g xs (map f xs) ≡ map h xs
joined_map g f h [] e = refl
joined_map g f h (x ∷ xs) e = ap (λ v. v ∷ joined g xs (map f xs)) (e x) ∙ ap (λ l. h x ∷ l) (joined_map g f h xs e)

pub length_set : {A : Type 0} (xs : List A) (i : ℕ) (x : A) → length (slice_set xs i x) ≡ length xs
length_set [] i x = refl
length_set (y ∷ xs) zero x = refl
length_set (y ∷ xs) (suc i) x = ap suc (length_set xs i x)

-- one less is left to be joined
pub joined_step : {A B : Type 0} (g : A → B → A) (xs all : List A) (ys ls : List B) (y : B) (x z : A) (p : ℕ) → p ≡ length ls →
    ys ≡ ls ++ y ∷ [] → length ys ≤ length xs →
    joined g xs ys ≡ all → x ≡ get_or xs p x → z ≡ g x y → (length ls ≤ length (slice_set xs p z)) × (joined g (slice_set xs p z) ls ≡ all)
joined_step g xs all ys ls y x z p place list less is item made =
    let more : length ys ≡ length ls + 1 = ap length list ∙ length-append ls (y ∷ []) in
    let at = get_there xs (length ls) (omega (arith, more, less)) in
    let same : x ≡ at.0 = item ∙ ap (λ n. get_or xs n x) place ∙ get_or_from_slice_get xs (length ls) at.0 x at.1 in
    let put : z ≡ g at.0 y = made ∙ ap (λ v. g v y) same in (
      omega (arith, more, less, length_set xs p z),
      ap (λ n. joined g (slice_set xs n z) ls) place
          ∙ ap (λ v. joined g (slice_set xs (length ls) v) ls) put ∙ joined_last g xs ls at.0 y at.1 ∙ ap (joined g xs) (sym list) ∙ is,
    )

pub joined_done : {A B : Type 0} (g : A → B → A) (xs all : List A) (ys : List B) → joined g xs ys ≡ all → length ys ≡ 0 → xs ≡ all
joined_done g xs all [] is none = sym (joined_nil g xs) ∙ is
joined_done g xs all (y ∷ ys) is none = absurd (omega (arith, none))

-- each of one more
each_suc : {A : Type 0} (P : A → Type 0) (xs : List A) (i : ℕ) (x : A) → Each P (take i xs) → i < length xs → x ≡ get_or xs i x → P x →
    Each P (take (suc i) xs)
each_suc P [] i x e less is p = absurd (omega (arith, less))
each_suc P (z ∷ xs) zero x e less is p = each_one P z (subst P is p)
each_suc P (z ∷ xs) (suc i) x e less is p = each_cons P z (take (suc i) xs) (e zero z refl)
    (each_suc P xs i x (λ j y at. e (suc j) y at) (omega (arith, less)) is p)

pub each_more : {A : Type 0} (P : A → Type 0) (xs : List A) (i : ℕ) (x : A) → Each P (take i xs) → i < length xs → x ≡ get_or xs i x → P x →
    Each P (take (i + 1) xs)
each_more P xs i x e less is p = let next : suc i ≡ i + 1 = omega arith in
    subst (λ n. Each P (take n xs)) next (each_suc P xs i x e less is p)

pub each_all : {A : Type 0} (P : A → Type 0) (xs : List A) (i : ℕ) → Each P (take i xs) → length xs ≤ i → Each P xs
each_all P xs i e out = subst (Each P) (take_all i xs out) e

each_suc_made : {A B : Type 0} (P : B → Type 0) (f : A → B) (xs : List A) (i : ℕ) (x : A) → Each P (take i (map f xs)) → i < length xs →
    x ≡ get_or xs i x → P (f x) →
    Each P (take (suc i) (map f xs))
each_suc_made P f [] i x e less is p = absurd (omega (arith, less))
each_suc_made P f (z ∷ xs) zero x e less is p = each_one P (f z) (subst (λ y. P (f y)) is p)
each_suc_made P f (z ∷ xs) (suc i) x e less is p =
    each_cons P (f z) (take (suc i) (map f xs)) (e zero (f z) refl)
    (each_suc_made P f xs i x (λ j y at. e (suc j) y at) (omega (arith, less)) is p)

pub each_more_made : {A B : Type 0} (P : B → Type 0) (f : A → B) (xs : List A) (i : ℕ) (x : A) → Each P (take i (map f xs)) →
    i < length xs → x ≡ get_or xs i x → P (f x) →
    Each P (take (i + 1) (map f xs))
each_more_made P f xs i x e less is p = let next : suc i ≡ i + 1 = omega arith in
    subst (λ n. Each P (take n (map f xs))) next (each_suc_made P f xs i x e less is p)

-- a list whose elements are all made anew
pub made_is : {A Z : Type 0} (v : Vec A Z) (ws : List A) (f : A → A) → ws ≡ map f v.items → (with_items v ws).items ≡ map f v.items
made_is v ws f is =
    let len : length ws ≡ v.len = omega (arith, ap length is, length-map v.items f, v.ok.0) in
    with_items_is v ws len ∙ is

pub true-false : true ≡ false → ⊥
true-false h = cc
