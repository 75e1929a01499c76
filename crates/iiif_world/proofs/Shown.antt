-- The pictures of a catalogue, and nodes by their names.
use Rattle.std.proofs.Common.{◌≡◌, ℕ, zero, suc, ◌<◌, ◌≤◌, Bool, true, false, List, [], ◌∷◌, length, Some, None, refl, sym, ap, ◌∙◌}
use Rattle.std.proofs.Common.{get_or, arith}
use Rattle.std.specs.Prelude.{slice_get, position, if◌then◌else◌}
use Rattle.std.specs.List.{position_or_len}
use Rattle.std.proofs.lemmas.Option.{none-some, get_or_from_slice_get, slice_get-get_or, same_Some}
use Rattle.std.proofs.lemmas.List.Quantifiers.{position-Some}
use Rattle.std.proofs.lemmas.List.Sums.{fails_before_first}
use Rattle.std.proofs.lemmas.Bool.{ltb-false}
use Rattle.iiif_machine.proofs.Mixed.{past}
use Rattle.iiif_world.specs.declared.contents.Item.{Item}
use Rattle.iiif_world.specs.Code.{has_name, shown_in}

shown_at : (name : List ℕ) (is : List Item) (n : ℕ) (e : Item) → slice_get is n ≡ Some e → has_name name e ≡ true
    → ((k : ℕ) → k < n → has_name name (get_or is k e) ≡ false) → shown_in is name ≡ Some e.picture
shown_at name [] n e at named before = absurd (none-some e at)
shown_at name (g ∷ is) zero e at named before =
    let same : g ≡ e = same_Some g e at in
    ap (λ (x : Item). if has_name name x then Some x.picture else shown_in is name) same
    ∙ ap (λ (b : Bool). if b then Some e.picture else shown_in is name) named
shown_at name (g ∷ is) (suc n) e at named before =
    ap (λ (b : Bool). if b then Some g.picture else shown_in is name) (before zero (omega arith))
    ∙ shown_at name is n e at named (λ k less. before (suc k) (omega arith))

pub shown_found : (name : List ℕ) (is : List Item) (n : ℕ) (e d : Item) → position (has_name name) is ≡ Some n → e ≡ get_or is n d →
    shown_in is name ≡ Some e.picture
shown_found name [] n e d h is = absurd (none-some n h)
shown_found name (g ∷ is) n e d h same =
    let p = position-Some (has_name name) (g ∷ is) n g h in
    let f : Item = get_or (g ∷ is) n g in
    let q = position-Some (has_name name) (g ∷ is) n f h in
    let at : slice_get (g ∷ is) n ≡ Some f = slice_get-get_or (g ∷ is) n g p.0 in
    shown_at name (g ∷ is) n f at p.1 q.2 ∙ ap (λ (x : Item). Some x.picture) (sym (same ∙ get_or_from_slice_get (g ∷ is) n f d at))

all_fail : (name : List ℕ) (is : List Item) → ((j : ℕ) (d : Item) → j < length is → has_name name (get_or is j d) ≡ false) →
    shown_in is name ≡ None
all_fail name [] h = refl
all_fail name (g ∷ is) h =
    ap (λ (b : Bool). if b then Some g.picture else shown_in is name) (h zero g (omega arith)) ∙
    all_fail name is (λ j d less. h (suc j) d (omega arith))

pub shown_missing : (name : List ℕ) (is : List Item) → position (has_name name) is ≡ None → shown_in is name ≡ None
shown_missing name is h =
    let out : length is ≤ position_or_len (has_name name) is = ltb-false _ _ (past _ _ h) in
    all_fail name is (λ j d less. fails_before_first (has_name name) is j d (omega arith))
