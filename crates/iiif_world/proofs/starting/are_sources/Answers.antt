use Rattle.std.proofs.Common.{Some, sym, ap, ◌∙◌, arith}
use Rattle.std.proofs.lemmas.Option.{slice_get-get_or}
use Rattle.iiif_keys.specs.Names.{IsSource}
use Rattle.iiif_world.specs.declared.contents.Item.{Item}
use Rattle.iiif_world.proofs.Changed.{each_more, each_all}
use Rattle.iiif_world.proofs.starting.are_sources.Goals as goal

pub loop-item-preserved : goal.loop-item-preserved
loop-item-preserved c =
    each_more (λ (i : Item). IsSource i.picture) c.args.items.now c.loop-item.item-index c.item-item.result c.loop-item.invariant
    (omega arith) c.item-item.is
    (c.is_source.ensures.yes c.if-not-is_source.false)

pub returns-clause-yes : goal.returns-clause-yes
returns-clause-yes c = λ yes. each_all (λ (i : Item). IsSource i.picture) c.args.items.now c.loop-item.item-index c.loop-item.invariant
    (omega arith)

pub returns-then-not-is_source-clause-no : goal.returns-then-not-is_source-clause-no
returns-then-not-is_source-clause-no c = λ same each.
    c.is_source.ensures.no c.if-not-is_source.true
    (each c.loop-item.item-index c.item-item.result
    (slice_get-get_or c.args.items.now c.loop-item.item-index c.item-item.result c.loop-item-test.true ∙
    ap (λ (i : Item). Some i) (sym c.item-item.is)))
