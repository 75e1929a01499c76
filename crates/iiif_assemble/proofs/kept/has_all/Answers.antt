use Rattle.std.proofs.Common.{sym}
use Rattle.std.proofs.lemmas.Bool.{ltb-true}
use Rattle.iiif_assemble.proofs.KeptLemmas.{has_more, has_of_all}
use Rattle.iiif_assemble.proofs.kept.has_all.Goals as goal

pub loop-item-preserved : goal.loop-item-preserved
loop-item-preserved c =
    has_more c.args.keys.now c.args.items.now c.args.kept.now c.loop-item.item-index c.in-Some.key.now c.in-Some-kept_for._sum.now
    c.loop-item-test.true c.loop-item.invariant (ltb-true _ _ (sym c.in-Some.ensures.lookup.0)) c.in-Some.ensures.lookup.1
    c.in-Some-kept_for.ensures.0 c.in-Some-kept_for.ensures.1

pub returns : goal.returns
returns c = λ is.
    has_of_all c.args.keys.now c.args.items.now c.args.kept.now c.loop-item.item-index c.loop-item-test.false c.loop-item.invariant
