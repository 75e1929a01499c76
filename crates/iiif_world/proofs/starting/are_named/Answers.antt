use Rattle.std.proofs.Common.{ap, sym, ◌∙◌, String, Global, Some, ◌≡◌, ◌<◌, ◌==◌, false, length, subst, arith}
use Rattle.std.specs.String.{string_bytes}
use Rattle.std.proofs.lemmas.Bool.Decides.{nat_tests}
use Rattle.std.proofs.lemmas.Option.{slice_get-get_or}
use Rattle.std.proofs.lemmas.List.{length-map}
use Rattle.iiif_machine.proofs.Lists.{get_map}
use Rattle.iiif_ring.specs.Names.{names_of}
use Rattle.iiif_world.specs.Starting.{IsNamed}
use Rattle.iiif_world.proofs.Changed.{each_more_made, each_all}
use Rattle.iiif_world.proofs.starting.are_named.Goals as goal

pub loop-name-preserved : goal.loop-name-preserved
loop-name-preserved c =
    each_more_made (IsNamed c.args.setups.now) (λ name. string_bytes name) c.args.names.now c.loop-name.name-index c.name-item.result
    c.loop-name.invariant (omega arith) c.name-item.is
    (subst (IsNamed c.args.setups.now) c.as_str.ensures.value (c.is_named.ensures.yes c.if-not-is_named.false))

pub returns-clause-yes : goal.returns-clause-yes
returns-clause-yes c = λ yes.
    let all : length (names_of c.args.names.now) ≡ length c.args.names.now = length-map c.args.names.now (λ name. string_bytes name) in
    let some : (length c.args.names.now == 0) ≡ false = sym c.is_empty.ensures ∙ c.if-is_empty.false in
    let more : 0 < length c.args.names.now = grind (arith, nat_tests) in (
      omega (arith, all, more),
      each_all (IsNamed c.args.setups.now) (names_of c.args.names.now) c.loop-name.name-index c.loop-name.invariant
          (omega arith),
    )

pub returns-then-not-is_named-clause-no : goal.returns-then-not-is_named-clause-no
returns-then-not-is_named-clause-no c = λ same all.
    let at = slice_get-get_or c.args.names.now c.loop-name.name-index c.name-item.result c.loop-name-test.true ∙
    ap (λ (s : String Global). Some s) (sym c.name-item.is) in
    c.is_named.ensures.no c.if-not-is_named.true
    (subst (IsNamed c.args.setups.now) (sym c.as_str.ensures.value)
    (all.1 c.loop-name.name-index _ (get_map (λ name. string_bytes name) c.args.names.now c.loop-name.name-index c.name-item.result
    at)))
