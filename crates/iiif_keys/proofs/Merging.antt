-- Lemmas on sums that are added one after another.
use Rattle.std.proofs.Common.{◌≡◌, ℕ, ◌+◌, ◌<◌, ◌≤◌, List, [], ◌∷◌, ◌++◌, length, get_or, take, map, fold, sym, ap, ◌∙◌}
use Rattle.std.proofs.lemmas.List.{map-append, take_all, take_more}
use Rattle.std.proofs.lemmas.List.Sums.{fold-append}
use Rattle.iiif_area.specs.Grid.{Grid, merged}

-- One more value, merged behind those before it.
pub merged_more : {A : Type 0} (f : A → Grid) (values : List A) (i : ℕ) (a : A) (start old new : Grid) → i < length values →
    get_or values i a ≡ a →
    old ≡ fold merged start (map f (take i values)) → new ≡ merged old (f a) → new ≡ fold merged start (map f (take (i + 1) values))
merged_more {A} f values i a start old new within is before made =
    let taken : take (i + 1) values ≡ take i values ++ a ∷ [] = take_more values i a within ∙ ap (λ (x : A). take i values ++ x ∷ []) is in
    made ∙ ap (λ (g : Grid). merged g (f a)) before
    ∙ sym (fold-append merged start (map f (take i values)) (f a ∷ []))
    ∙ ap (λ gs. fold merged start gs) (sym (map-append f (take i values) (a ∷ [])))
    ∙ ap (λ (xs : List A). fold merged start (map f xs)) (sym taken)

-- The values before the end are all values.
pub merged_all : {A : Type 0} (f : A → Grid) (values : List A) (i : ℕ) (start new : Grid) → length values ≤ i →
    new ≡ fold merged start (map f (take i values)) → new ≡ fold merged start (map f values)
merged_all {A} f values i start new end made = made ∙ ap (λ (xs : List A). fold merged start (map f xs)) (take_all i values end)
