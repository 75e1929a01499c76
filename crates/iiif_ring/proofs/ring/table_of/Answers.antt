use Rattle.std.proofs.Common.{◌≡◌, ◌+◌, ℕ, List, sym, ap, ◌∙◌, subst, arith}
use Rattle.std.specs.BTreeMap.{BTreeMap}
use Rattle.iiif_ring.specs.Code.{name_at}
use Rattle.iiif_ring.specs.Names.{names_of}
use Rattle.iiif_ring.specs.Owner.{point}
use Rattle.iiif_ring.proofs.Names.{name_at-names_of, length-names_of}
use Rattle.iiif_ring.proofs.Table.{HoldsUpTo, holds_none, holds_put, holds_taken, holds_next, holds_all}
use Rattle.iiif_ring.proofs.ring.table_of.Goals as goal
use Rattle.iiif_ring.proofs.ring.table_of.Goals.{then-not-is_taken+in_ok-insert, else-not-is_taken}

pub loop-place-init : goal.loop-place-init
loop-place-init c = holds_none (names_of c.args.names.now) c.new-points.result c.new-points.ensures.empty

pub loop-replica-preserved : goal.loop-replica-preserved
loop-replica-preserved c =
    let names = c.args.names.now in
    let texts : List (List ℕ) = names_of names in
    let place = c.loop-place.place in
    let replica = c.loop-replica.replica in
    let here = c.in_ok-here.here in
    let named = name_at-names_of names place c.index-names-place.result c.index-names-place.is (omega arith) in
    let is : here ≡ point (name_at texts place) replica = c.in_ok-here.ensures.value ∙
    ap (λ name. point name replica) (c.deref.ensures ∙ sym named) in
    let P : BTreeMap ℕ ℕ → Type 0 = λ points. HoldsUpTo texts points place (replica + 1) in
    elim c.if-not-is_taken.branch [
      | then-not-is_taken+in_ok-insert w ↦ subst P (sym w.points-is)
          (holds_put texts c.loop-replica.points w.insert.new.self here place replica c.loop-replica.invariant is
          w.in_ok-insert.ensures.updates c.in_ok-here.ensures.fits (omega (arith, length-names_of names)) (omega arith)
          (c.is_taken.ensures.free w.if-not-is_taken.true))
      | else-not-is_taken w ↦ subst P (sym w.points-is)
          (holds_taken texts c.loop-replica.points here place replica c.loop-replica.invariant is
          (c.is_taken.ensures.taken w.if-not-is_taken.false))
    ]

pub loop-place-preserved : goal.loop-place-preserved
loop-place-preserved c = holds_next (names_of c.args.names.now) c.loop-replica.points c.loop-place.place c.loop-replica.replica
    c.loop-replica.invariant (omega arith)

pub returns : goal.returns
returns c = holds_all (names_of c.args.names.now) c.loop-place.points c.loop-place.place 0 c.loop-place.invariant
    (omega (arith, length-names_of c.args.names.now))
