-- An entry that goes behind all others.
use Rattle.std.proofs.Common.{◌≡◌, ℕ, ◌-◌, ◌<◌, List, [], ◌∷◌, ◌++◌, length, take, drop, get_or, suc, sym, subst, ap, ◌∙◌, arith}
use Rattle.std.specs.Prelude.{All}
use Rattle.std.specs.List.{remove}
use Rattle.std.specs.Vec.{with_items}
use Rattle.std.specs.declared.vec.Vec.{Vec}
use Rattle.std.proofs.lemmas.List.{length-append, with_items_is}
use Rattle.std.proofs.lemmas.List.Edits.{length-remove}
use Rattle.std.proofs.lemmas.List.Elements.{All-append, All-drop, All-push, All-take}
use Rattle.std.proofs.lemmas.Slice.{put_mid-rotated}
use borrow.Rule.Slice.PartMut.{put_mid, mid_of}

-- the entries, of which the one at a place was turned behind the others
pub moved_is : {X Z : Type 0} (v : Vec X Z) (xs ys : List X) (a : ℕ) (d : X) → xs ≡ v.items → length xs ≡ v.len → a < v.len →
    ys ≡ drop 1 (mid_of a (length xs - a) xs) ++ take 1 (mid_of a (length xs - a) xs)
    → (with_items v (put_mid a (length xs - a) xs ys)).items ≡ remove v.items a ++ (get_or v.items a d ∷ [])
moved_is {X = X} v xs ys a d same size below turned =
    let ws : List X = put_mid a (length xs - a) xs ys in
    let is : ws ≡ remove xs a ++ (get_or xs a d ∷ []) = put_mid-rotated a (length xs - a) xs ys d (omega arith) (omega arith) turned in
    let long : length ws ≡ v.len =
    ap length is ∙ omega (arith, length-append (remove xs a) (get_or xs a d ∷ []), length-remove xs a (omega arith)) in
    with_items_is v ws long ∙ (is ∙ ap (λ (zs : List X). remove zs a ++ (get_or zs a d ∷ [])) same)

-- what held of all holds of them
pub all_moved : {X Z : Type 0} (P : X → Type 0) (v : Vec X Z) (xs ys : List X) (a : ℕ) (d : X) → xs ≡ v.items → length xs ≡ v.len →
    a < v.len → ys ≡ drop 1 (mid_of a (length xs - a) xs) ++ take 1 (mid_of a (length xs - a) xs) → All P v.items →
    All P (with_items v (put_mid a (length xs - a) xs ys)).items
all_moved {X = X} P v xs ys a d same size below turned all =
    let there : a < length v.items = omega (arith, ap length same) in
    let rest : All P (remove v.items a) =
    All-append P (take a v.items) (drop (suc a) v.items) (All-take P a v.items all) (All-drop P (suc a) v.items all) in
    subst (All P) (sym (moved_is v xs ys a d same size below turned))
    (All-push P (remove v.items a) (get_or v.items a d) rest (all a d there))
