-- Images found by the indices of their names.
use Rattle.std.proofs.Common.{◌≡◌, ℕ, ◌<◌, Bool, true, false, true≢false, cond, refl, sym, ap, subst, ◌∙◌, arith, Global, String}
use Rattle.std.proofs.Common.{List, [], ◌∷◌, ◌++◌, length, Option, Some, None, is_some, bytes_eq, map}
use Rattle.std.proofs.lemmas.List.{length-append, length-map, map-append}
use Rattle.std.proofs.lemmas.List.Folds.{find-append}
use Rattle.std.proofs.lemmas.Option.{slice_get-get_or, slice_get_read}
use Rattle.std.proofs.lemmas.List.{get_or_append_left}
use Rattle.std.proofs.lemmas.Slice.Eq.{bytes_eq-Decides}
use Rattle.std.proofs.Math.Seq.{get_or-append_seam}
use Rattle.std.specs.BTreeMap.{BTreeMap, get_by_text}
use Rattle.std.specs.Map.{update}
use Rattle.std.specs.Option.{option_and_then, option_or}
use Rattle.std.specs.Prelude.{IfSome, slice_get}
use Rattle.iiif_tile_group.specs.Code.{AreIndicesOf}
use Rattle.iiif_tile_group.specs.Collection.{Item, item_named}

none_there : {A : Type 0} (o : Option A) → is_some o ≡ false → o ≡ None
none_there None e = refl
none_there (Some x) e = absurd (true≢false e)

-- one more of a list is at its end, and the others are where they were
module _ {A : Type 0} (xs : List A) (x : A) where
  slice_get-last : slice_get (xs ++ x ∷ []) (length xs) ≡ Some x
  slice_get-last = slice_get_read (xs ++ x ∷ []) (length (xs ++ x ∷ [])) (length xs) x refl (omega (arith, length-append xs (x ∷ [])))
      (sym (get_or-append_seam xs x [] x))

  slice_get-before : (i : ℕ) → i < length xs → slice_get (xs ++ x ∷ []) i ≡ slice_get xs i
  slice_get-before i within =
      slice_get-get_or (xs ++ x ∷ []) i x (omega (arith, within, length-append xs (x ∷ [])))
      ∙ ap Some (get_or_append_left xs (x ∷ []) x i within)
      ∙ sym (slice_get-get_or xs i x within)

  -- so is the one at an index that was found before, or at the new one
  found_more : (b : Bool) (old : Option ℕ) (was : Option A) → option_and_then (slice_get xs) old ≡ was → IfSome old (λ i. i < length xs) →
      (b ≡ true → was ≡ None)
      → option_and_then (slice_get (xs ++ x ∷ [])) (cond b (Some (length xs)) old) ≡ option_or was (cond b (Some x) None)
  found_more true old was at within absent = slice_get-last ∙ sym (ap (λ o. option_or o (Some x)) (absent refl))
  found_more false None was at within absent = ap (λ o. option_or o None) at
  found_more false (Some i) None at within absent = slice_get-before i within ∙ at
  found_more false (Some i) (Some y) at within absent = slice_get-before i within ∙ at

  within_more : (b : Bool) (old : Option ℕ) → IfSome old (λ i. i < length xs) →
      IfSome (cond b (Some (length xs)) old) (λ i. i < length (xs ++ x ∷ []))
  within_more true old within = omega (arith, length-append xs (x ∷ []))
  within_more false None within = tt
  within_more false (Some i) within = omega (arith, within, length-append xs (x ∷ []))

-- the index of one more image stands under its name, which no other had
pub index_more : {S : Type 0} (old new : BTreeMap (String Global) ℕ) (items : List (Item S)) (item : Item S) →
    AreIndicesOf old items → is_some (item_named items item.name) ≡ false
    → ((cs : List ℕ) → get_by_text new cs ≡ update bytes_eq (get_by_text old) item.name (Some (length items)) cs)
    → AreIndicesOf new (items ++ item ∷ [])
index_more {S} old new items item are absent put = record {
  found = λ cs.
      ap (option_and_then (slice_get (items ++ item ∷ []))) (put cs)
      ∙ (found_more items item (bytes_eq item.name cs) (get_by_text old cs) (item_named items cs) (are.found cs) (are.within cs)
      (λ same. ap (item_named items) (sym ((bytes_eq-Decides item.name cs).0 same)) ∙ none_there (item_named items item.name) absent)
      ∙ sym (find-append (λ (i : Item S). bytes_eq i.name cs) items (item ∷ [])));
  within = λ cs. subst (λ o. IfSome o (λ i. i < length (items ++ item ∷ []))) (sym (put cs))
      (within_more items item (bytes_eq item.name cs) (get_by_text old cs) (are.within cs));
}

-- the same of entries that are images, one of which was pushed
pub index_pushed : {S E : Type 0} (item : E → Item S) (old new : BTreeMap (String Global) ℕ) (before after : List E) (e : E)
    (name : List ℕ) (at : ℕ) → AreIndicesOf old (map item before) → is_some (item_named (map item before) name) ≡ false
    → name ≡ (item e).name → at ≡ length before → after ≡ before ++ e ∷ []
    → ((cs : List ℕ) → get_by_text new cs ≡ update bytes_eq (get_by_text old) name (Some at) cs)
    → AreIndicesOf new (map item after)
index_pushed {S} item old new before after e name at are absent named last pushed put =
    subst (AreIndicesOf new) (sym (ap (map item) pushed ∙ map-append item before (e ∷ [])))
    (index_more old new (map item before) (item e) are (sym (ap (λ n. is_some (item_named (map item before) n)) named) ∙ absent)
    (λ cs. put cs ∙ ap (λ n. update bytes_eq (get_by_text old) n (Some at) cs) named
    ∙ ap (λ (i : ℕ). update bytes_eq (get_by_text old) (item e).name (Some i) cs) (last ∙ sym (length-map before item))))

-- lists that are alike are so with one more of what is alike
pub same_more : {B : Type 0} (xs ys : List B) (x y : B) → xs ≡ ys → x ≡ y → xs ++ x ∷ [] ≡ ys ++ y ∷ []
same_more xs ys x y p q = cc
