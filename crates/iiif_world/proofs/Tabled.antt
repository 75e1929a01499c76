-- A change of one node, as the code makes it.
use Rattle.std.proofs.Common.{◌≡◌, ℕ, List, map, get_or, Option, Some, None, Result, Ok, Err, refl, sym, ap, ◌∙◌}
use Rattle.std.specs.Prelude.{slice_get, slice_set, OnErr}
use Rattle.std.proofs.lemmas.Option.{get_or_from_slice_get}
use Rattle.iiif_machine.specs.declared.keys.Value.{Value}
use Rattle.iiif_machine.specs.Tables.{Outcome, value_of}
use Rattle.iiif_machine.specs.Rows as rows
use Rattle.iiif_machine.specs.Worlds.{World, with_node}
use Rattle.iiif_machine.proofs.Learning.{get_mapped}
use Rattle.iiif_machine.proofs.Lists.{map_set}
use Rattle.iiif_machine.specs.declared.node.Node.{Node}
use Rattle.iiif_machine.specs.Nodes.{node_of}
use Rattle.iiif_world.specs.Settling.{due, answer_due}
use Rattle.iiif_world.proofs.Changed.{map-set}

-- the row that an index gives
pub row_at : {A : Type 0} (xs : List A) (i : ℕ) (x y : A) → x ≡ get_or xs i x → slice_get xs i ≡ Some y → x ≡ y
row_at xs i x y is at = is ∙ get_or_from_slice_get xs i y x at

-- the node at a place
pub found_at : (ns : List Node) (i j : ℕ) (x : Node) (n : rows.Node) → i ≡ j → x ≡ get_or ns i x → slice_get (map node_of ns) j ≡ Some n →
    (slice_get ns i ≡ Some x) × (node_of x ≡ n)
found_at ns i j x n same is there =
    let h = get_mapped node_of ns j n there in
    let at : slice_get ns i ≡ Some h.0 = ap (slice_get ns) same ∙ h.1 in
    let e : x ≡ h.0 = row_at ns i x h.0 is at in
    (at ∙ ap (λ (z : Node). Some z) (sym e), ap node_of e ∙ h.2)

-- it is put
pub node_put : (w : World) (ns : List Node) (i j : ℕ) (m : Node) (o : rows.Node) → w.nodes ≡ map node_of ns → i ≡ j → node_of m ≡ o →
    record w { nodes = map node_of (slice_set ns i m) } ≡ with_node w j o
node_put w ns i j m o all same made =
    ap (λ (xs : List rows.Node). record w { nodes = xs })
    (map-set node_of ns i m ∙ ap (λ (xs : List rows.Node). slice_set xs i (node_of m)) (sym all) ∙
    ap (λ k. slice_set w.nodes k (node_of m)) same
    ∙ ap (λ (x : rows.Node). slice_set w.nodes j x) made)

-- or stays as it was
pub node_kept : (w : World) (ns : List Node) (i : ℕ) (x m : Node) → w.nodes ≡ map node_of ns → slice_get ns i ≡ Some x →
    node_of m ≡ node_of x →
    record w { nodes = map node_of (slice_set ns i m) } ≡ w
node_kept w ns i x m all at same = ap (λ (xs : List rows.Node). record w { nodes = xs }) (map_set node_of ns i x m at same ∙ sym all)

-- no outcome and no answer is due for it
pub dues_stay : (w v : World) (i : ℕ) (n : rows.Node) → v ≡ with_node w i n → map (due w) w.flights ≡ map (due v) v.flights
dues_stay w v i n is = sym (ap (λ (z : World). map (due z) z.flights) is)

pub answers_stay : (w v : World) (i : ℕ) (n : rows.Node) → v ≡ with_node w i n →
    map (answer_due w) w.requests ≡ map (answer_due v) v.requests
answers_stay w v i n is = sym (ap (λ (z : World). map (answer_due z) z.requests) is)

-- an outcome of a value, or of none
pub outcome_with : (v : Option Value) → (o : Outcome) × (value_of o ≡ v)
outcome_with None = (Err (record { place = 0; cause = 0 }), refl)
outcome_with (Some v) = (Ok v, refl)

-- what holds, holds where a result is an error
pub on_err : {A E : Type 0} {P : Type 0} (r : Result A E) → P → OnErr r P
on_err (Ok x) p = tt
on_err (Err e) p = p
