use Rattle.std.proofs.Common.{◌≡◌, sym, ap, ◌∙◌, Some, arith}
use Rattle.std.proofs.lemmas.Option.{slice_get-get_or}
use Rattle.std.proofs.lemmas.Slice.Eq.{bytes_eq-Decides}
use Rattle.iiif_world.specs.declared.starting.Setup.{Setup}
use Rattle.iiif_world.proofs.Changed.{each_more, each_all, true-false}
use Rattle.iiif_world.proofs.starting.is_named.Goals as goal

pub returns-then-eq-clause-yes : goal.returns-then-eq-clause-yes
returns-then-eq-clause-yes c = λ yes. (
  c.loop-setup.setup-index,
  c.setup-item.result,
  slice_get-get_or c.args.setups.now c.loop-setup.setup-index c.setup-item.result (omega arith) ∙
      ap (λ (s : Setup). Some s) (sym c.setup-item.is),
  sym c.as_str.ensures.text ∙ (bytes_eq-Decides c.as_str.result.now c.args.name.now).0 (sym c.eq.ensures ∙ c.if-eq.true),
)

pub loop-setup-preserved : goal.loop-setup-preserved
loop-setup-preserved c =
    each_more (λ (s : Setup). ¬ (s.name ≡ c.args.name.now)) c.args.setups.now c.loop-setup.setup-index c.setup-item.result
    c.loop-setup.invariant c.loop-setup-test.true c.setup-item.is
    (λ same. true-false (sym ((bytes_eq-Decides c.as_str.result.now c.args.name.now).1 (c.as_str.ensures.text ∙ same)) ∙ sym c.eq.ensures ∙
    c.if-eq.false))

pub returns-clause-no : goal.returns-clause-no
returns-clause-no c = λ same named.
    each_all (λ (s : Setup). ¬ (s.name ≡ c.args.name.now)) c.args.setups.now c.loop-setup.setup-index c.loop-setup.invariant
    c.loop-setup-test.false named.0 named.1 named.2 named.3
