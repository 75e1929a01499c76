-- Images that are opened one after another.
use Rattle.std.proofs.Common.{◌≡◌, ℕ, ◌+◌, ◌<◌, ◌⊎◌, inl, inr, Bool, true, false, List, [], ◌∷◌, ◌++◌, map, length, take, get_or, sym, ap, subst, ◌∙◌, arith}
use Rattle.std.proofs.Common.{true≢false}
use Rattle.std.proofs.lemmas.List.{length-append, map-append, take_more, take_all}
use Rattle.std.specs.List.{AllZip}
use denote.Ref.{Bor}
use Rattle.iiif_tile_group.specs.Collection.{Item}
use Rattle.iiif_start.specs.Opened.{AreOpened}
use Rattle.iiif_start.specs.Parts.{Parts}
use Rattle.iiif_start.specs.Stored.{IsItemOf, IsSourceOf}
use Rattle.iiif_start.specs.declared.holding.Holding.{Holding}
use Rattle.iiif_start.specs.declared.stored.Stored.{Stored}
use Rattle.iiif_start.proofs.Names.{both_more, zip_push}

pub opened_left : {R : Type 0} {d : _} (holds : List ℕ → List ℕ) (keeps : List ℕ → Type 0) (holding : Holding) (skip : Bool)
    (front : List (Bor (List ℕ) × Bor (List ℕ))) (catalogue : List (Item (Stored R d))) (served others : List (Bor (List ℕ) × Bor (List ℕ)))
    (x : Bor (List ℕ) × Bor (List ℕ)) (i : Item (Stored R d))
    → AreOpened holds keeps holding skip front catalogue served others → i.name ≡ x.0.now → IsSourceOf holds keeps holding x.1.now i.source
    → AreOpened holds keeps holding skip (front ++ x ∷ []) (catalogue ++ i ∷ []) (served ++ x ∷ []) others
opened_left holds keeps holding skip front catalogue served others x i so name source = record {
  names = both_more (λ i. i.name) (λ i. i.0.now) catalogue served i x so.names name;
  items = zip_push (IsItemOf holds keeps holding) served catalogue x i so.items (record { name = name; source = source });
  each = Parts.left front served others x so.each;
  all = λ e. ap (λ s. s ++ x ∷ []) (so.all e);
}

pub opened_right : {R : Type 0} {d : _} {U : Type 0} (f : U → Bor (List ℕ) × Bor (List ℕ)) (holds : List ℕ → List ℕ)
    (keeps : List ℕ → Type 0) (holding : Holding) (skip : Bool) (front : List (Bor (List ℕ) × Bor (List ℕ)))
    (catalogue : List (Item (Stored R d)))
    (served : List (Bor (List ℕ) × Bor (List ℕ))) (others : List U) (u : U)
    → AreOpened holds keeps holding skip front catalogue served (map f others) → skip ≡ true
    → AreOpened holds keeps holding skip (front ++ f u ∷ []) catalogue served (map f (others ++ u ∷ []))
opened_right f holds keeps holding skip front catalogue served others u so asked = record {
  names = so.names;
  items = so.items;
  each = subst (Parts (front ++ f u ∷ []) served) (sym (map-append f others (u ∷ [])))
      (Parts.right front served (map f others) (f u) so.each);
  all = λ e. absurd (true≢false (sym asked ∙ e));
}

-- the first images, and one more
pub opened_next : {R : Type 0} {d : _} (holds : List ℕ → List ℕ) (keeps : List ℕ → Type 0) (holding : Holding) (skip : Bool)
    (images : List (Bor (List ℕ) × Bor (List ℕ))) (n : ℕ) (x : Bor (List ℕ) × Bor (List ℕ)) (catalogue : List (Item (Stored R d)))
    (served others : List (Bor (List ℕ) × Bor (List ℕ)))
    → AreOpened holds keeps holding skip (take n images ++ x ∷ []) catalogue served others → n < length images → x ≡ get_or images n x
    → AreOpened holds keeps holding skip (take (n + 1) images) catalogue served others
opened_next holds keeps holding skip images n x catalogue served others so lt is =
    subst (λ front. AreOpened holds keeps holding skip front catalogue served others)
    (sym (take_more images n x lt ∙ ap (λ y. take n images ++ y ∷ []) (sym is))) so

-- a list with one more isn't empty
ends_some : {A : Type 0} (xs : List A) (x : A) → 0 < length (xs ++ x ∷ [])
ends_some xs x = omega (arith, length-append xs (x ∷ []))

-- where there are items, and none is among the others, some are among the ones
parts_some_of : {A : Type 0} (all ones others : List A) → Parts all ones others → 0 < length all → others ≡ [] → 0 < length ones
parts_some_of _ _ _ Parts.none some none = some
parts_some_of _ _ _ (Parts.left all ones others x parts) some none = ends_some ones x
parts_some_of _ _ _ (Parts.right all ones others x parts) some none =
    let more : 0 < length (others ++ x ∷ []) = ends_some others x in
    let least : length (others ++ x ∷ []) ≡ 0 = ap length none in
    absurd (omega (arith, more, least))

pub opened_some : {A B : Type 0} (f : B → A) (all ones : List A) (others : List B) → Parts all ones (map f others) → 0 < length all →
    (others ≡ []) ⊎ (0 < length ones) → 0 < length ones
opened_some f all ones others parts some (inl none) = parts_some_of all ones (map f others) parts some (ap (map f) none)
opened_some f all ones others parts some (inr more) = more
