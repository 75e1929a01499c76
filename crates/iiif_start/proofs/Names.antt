-- What is made of the items of a list, one after another.
use Rattle.std.proofs.Common.{◌≡◌, ℕ, ◌+◌, ◌<◌, List, [], ◌∷◌, ◌++◌, map, length, take, get_or, sym, ap, subst, ◌∙◌}
use Rattle.std.specs.List.{AllZip}
use Rattle.std.proofs.lemmas.List.{map-append, take_more}
use Rattle.iiif_tile_group.proofs.ItemLemmas.{same_more}

-- where what was made is named as the first n items are, it is with one more so too
pub names_more : {A B C : Type 0} (f : A → C) (g : B → C) (xs : List A) (x : A) (ys : List B) (n : ℕ) (y : B)
    → map f xs ≡ map g (take n ys) → n < length ys → f x ≡ g (get_or ys n y) → map f (xs ++ x ∷ []) ≡ map g (take (n + 1) ys)
names_more f g xs x ys n y so lt same =
    map-append f xs (x ∷ [])
    ∙ (same_more _ _ _ _ so same ∙ sym (ap (map g) (take_more ys n y lt) ∙ map-append g (take n ys) (get_or ys n y ∷ [])))

-- where what was made is named as some items are, it is with one more of each so too
pub both_more : {A B C : Type 0} (f : A → C) (g : B → C) (xs : List A) (ys : List B) (x : A) (y : B) → map f xs ≡ map g ys → f x ≡ g y
    → map f (xs ++ x ∷ []) ≡ map g (ys ++ y ∷ [])
both_more f g xs ys x y so same = map-append f xs (x ∷ []) ∙ (same_more _ _ _ _ so same ∙ sym (map-append g ys (y ∷ [])))

-- what holds of two lists place by place does so with one more of each
pub zip_push : {A B : Type 0} (P : A → B → Type 0) (xs : List A) (ys : List B) (x : A) (y : B) → AllZip P xs ys → P x y →
    AllZip P (xs ++ x ∷ []) (ys ++ y ∷ [])
zip_push P [] [] x y all more = (more, tt)
zip_push P [] (b ∷ ys) x y all more = absurd all
zip_push P (a ∷ xs) [] x y all more = absurd all
zip_push P (a ∷ xs) (b ∷ ys) x y all more = (all.0, zip_push P xs ys x y all.1 more)
