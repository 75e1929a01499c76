use Rattle.std.proofs.Common.{Some, sym, ap, ◌∙◌, ◌<◌, ℕ, List, length, subst, arith}
use Rattle.std.proofs.lemmas.Option.{slice_get-get_or}
use Rattle.iiif_machine.specs.Sound.{Each}
use Rattle.iiif_world.specs.Starting.{IsNamed}
use Rattle.iiif_world.specs.declared.starting.Setup.{Setup}
use Rattle.iiif_world.proofs.Changed.{each_more, each_all}
use Rattle.iiif_world.proofs.starting.rings_name_nodes.Goals as goal

pub loop-setup-preserved : goal.loop-setup-preserved
loop-setup-preserved c =
    each_more (λ (s : Setup). (0 < length s.ring) × Each (IsNamed c.args.setups.now) s.ring) c.args.setups.now c.loop-setup.setup-index
    c.setup-item.result c.loop-setup.invariant
    (omega arith) c.setup-item.is
    (subst (λ (ring : List (List ℕ)). (0 < length ring) × Each (IsNamed c.args.setups.now) ring) c.names.ensures
    (c.are_named.ensures.yes c.if-not-are_named.false))

pub returns-clause-yes : goal.returns-clause-yes
returns-clause-yes c = λ yes.
    each_all (λ (s : Setup). (0 < length s.ring) × Each (IsNamed c.args.setups.now) s.ring) c.args.setups.now c.loop-setup.setup-index
    c.loop-setup.invariant (omega arith)

pub returns-then-not-are_named-clause-no : goal.returns-then-not-are_named-clause-no
returns-then-not-are_named-clause-no c = λ same each.
    let at = slice_get-get_or c.args.setups.now c.loop-setup.setup-index c.setup-item.result c.loop-setup-test.true ∙
    ap (λ (s : Setup). Some s) (sym c.setup-item.is) in
    c.are_named.ensures.no c.if-not-are_named.true
    (subst (λ (ring : List (List ℕ)). (0 < length ring) × Each (IsNamed c.args.setups.now) ring) (sym c.names.ensures)
    (each c.loop-setup.setup-index c.setup-item.result at))
