-- Lists by look-up.
use Rattle.std.proofs.Common.{◌≡◌, ℕ, zero, suc, List, [], ◌∷◌, ◌++◌, length, map, Bool, true, Some, refl, sym, ap, subst, ◌∙◌, get_or}
use Rattle.std.specs.Prelude.{slice_get, slice_set, position, All, option_map}
use Rattle.std.proofs.lemmas.Option.{none-some, get_or_from_slice_get, slice_get_within, slice_get-get_or, slice_get-map, same_Some}
use Rattle.std.proofs.lemmas.List.Quantifiers.{position-Some}
use Rattle.std.proofs.lemmas.List.{map-append}
use Rattle.iiif_machine.specs.Sound.{Each, Kept}

pub get_left : {A : Type 0} (xs ys : List A) (i : ℕ) (x : A) → slice_get xs i ≡ Some x → slice_get (xs ++ ys) i ≡ Some x
get_left [] ys i x h = absurd (none-some x h)
get_left (y ∷ xs) ys zero x h = h
get_left (y ∷ xs) ys (suc i) x h = get_left xs ys i x h

pub get_map : {A B : Type 0} (g : A → B) (xs : List A) (i : ℕ) (x : A) → slice_get xs i ≡ Some x → slice_get (map g xs) i ≡ Some (g x)
get_map g xs i x h = slice_get-map g xs i ∙ ap (option_map g) h

pub each_tail : {A : Type 0} (P : A → Type 0) (y : A) (xs : List A) → Each P (y ∷ xs) → Each P xs
each_tail P y xs e i x h = e (suc i) x h

-- std's All by look-up
pub each_of_all : {A : Type 0} (P : A → Type 0) (xs : List A) → All P xs → Each P xs
each_of_all P xs h i x at = subst P (get_or_from_slice_get xs i x x at) (h i x (slice_get_within xs i x at))

pub get_end : {A : Type 0} (xs : List A) (y : A) (ys : List A) → slice_get (xs ++ y ∷ ys) (length xs) ≡ Some y
get_end [] y ys = refl
get_end (x ∷ xs) y ys = get_end xs y ys

pub each_nil : {A : Type 0} (P : A → Type 0) → Each P []
each_nil P i x h = absurd (none-some x h)

pub each_cons : {A : Type 0} (P : A → Type 0) (y : A) (xs : List A) → P y → Each P xs → Each P (y ∷ xs)
each_cons P y xs p e zero x h = subst P (same_Some y x h) p
each_cons P y xs p e (suc i) x h = e i x h

pub each_one : {A : Type 0} (P : A → Type 0) (y : A) → P y → Each P (y ∷ [])
each_one P y p = each_cons P y [] p (each_nil P)

pub each_append : {A : Type 0} (P : A → Type 0) (xs ys : List A) → Each P xs → Each P ys → Each P (xs ++ ys)
each_append P [] ys e f = f
each_append P (y ∷ xs) ys e f = each_cons P y (xs ++ ys) (e zero y refl) (each_append P xs ys (each_tail P y xs e) f)

pub each_set : {A : Type 0} (P : A → Type 0) (xs : List A) (i : ℕ) (y : A) → Each P xs → P y → Each P (slice_set xs i y)
each_set P [] i y e p = each_nil P
each_set P (x ∷ xs) zero y e p = each_cons P y xs p (each_tail P x xs e)
each_set P (x ∷ xs) (suc i) y e p = each_cons P x (slice_set xs i y) (e zero x refl) (each_set P xs i y (each_tail P x xs e) p)

pub each_map : {A B : Type 0} (P : A → Type 0) (Q : B → Type 0) (g : A → B) (xs : List A) → ((x : A) → P x → Q (g x)) → Each P xs →
    Each Q (map g xs)
each_map P Q g [] f e = each_nil Q
each_map P Q g (x ∷ xs) f e = each_cons Q (g x) (map g xs) (f x (e zero x refl)) (each_map P Q g xs f (each_tail P x xs e))

pub each_as : {A : Type 0} (P Q : A → Type 0) (xs : List A) → ((x : A) → P x → Q x) → Each P xs → Each Q xs
each_as P Q xs f e i x h = f x (e i x h)

pub map_set : {A B : Type 0} (g : A → B) (xs : List A) (i : ℕ) (x y : A) → slice_get xs i ≡ Some x → g y ≡ g x →
    map g (slice_set xs i y) ≡ map g xs
map_set g [] i x y h e = refl
map_set g (z ∷ xs) zero x y h e = let s : z ≡ x = same_Some z x h in ap (λ v. v ∷ map g xs) (e ∙ ap g (sym s))
map_set g (z ∷ xs) (suc i) x y h e = ap (λ vs. g z ∷ vs) (map_set g xs i x y h e)

pub map_same : {A B : Type 0} (g : A → B) (f : A → A) (xs : List A) → ((x : A) → g (f x) ≡ g x) → map g (map f xs) ≡ map g xs
map_same g f [] e = refl
map_same g f (x ∷ xs) e = ap (λ v. v ∷ map g (map f xs)) (e x) ∙ ap (λ vs. g x ∷ vs) (map_same g f xs e)

pub kept_same : {A : Type 0} (xs ys : List A) → ys ≡ xs → Kept xs ys
kept_same xs ys e = subst (λ zs. Kept xs zs) (sym e) (λ i x h. h)

pub kept_more : {A B : Type 0} (g : A → B) (xs ys : List A) → Kept (map g xs) (map g (xs ++ ys))
kept_more g xs ys = subst (λ zs. Kept (map g xs) zs) (sym (map-append g xs ys)) (get_left (map g xs) (map g ys))

-- what `position` finds is there, and passes
pub position_found : {A : Type 0} (p : A → Bool) (xs : List A) (i : ℕ) → position p xs ≡ Some i → (x : A) × (slice_get xs i ≡ Some x) ×
    (p x ≡ true)
position_found p [] i h = absurd (none-some i h)
position_found p (y ∷ xs) i h =
    let f = position-Some p (y ∷ xs) i y h in
    (get_or (y ∷ xs) i y, slice_get-get_or (y ∷ xs) i y f.0, f.1)
