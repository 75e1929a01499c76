use Rattle.std.proofs.Common.{◌≡◌, ◌∙◌, ap, sym, arith, subst, Global}
use Rattle.std.specs.declared.sync.Arc.{Arc}
use Rattle.std.proofs.lemmas.List.Elements.{All-get_or}
use Rattle.iiif_area.specs.Grid.{Grid, merged}
use Rattle.iiif_keys.specs.Meaning.{sums_in}
use Rattle.iiif_keys.specs.declared.values.SumVal.{SumVal}
use Rattle.iiif_keys.proofs.Merging.{merged_all, merged_more}
use Rattle.iiif_keys.proofs.values.add_sums.Goals as goal

pub merge-requires : goal.merge-requires
merge-requires c =
    let P : Arc SumVal Global → Type 0 = λ v. (sums_in v).channels ≡ c.args.total.now.channels in
    let here : P c.value-item.result = subst P (sym c.value-item.is)
    (All-get_or P c.args.values.now c.loop-value.value-index c.value-item.result c.loop-value-test.true c.requires) in
    ap (λ (v : SumVal). v.sums.channels) c.deref.ensures ∙ here ∙ sym c.loop-value.invariant.channels

pub loop-value-preserved : goal.loop-value-preserved
loop-value-preserved c =
    record {
      sums = merged_more sums_in c.args.values.now c.loop-value.value-index c.value-item.result c.args.total.now
          c.loop-value.total c.merge.new.self
          c.loop-value-test.true (sym c.value-item.is) c.loop-value.invariant.sums
          (c.merge.ensures ∙ ap (λ (v : SumVal). merged c.loop-value.total v.sums) c.deref.ensures);
      rect = ap (λ (g : Grid). g.rect) c.merge.ensures ∙ c.loop-value.invariant.rect;
      channels = ap (λ (g : Grid). g.channels) c.merge.ensures ∙ c.loop-value.invariant.channels;
    }

pub returns-clause-sums : goal.returns-clause-sums
returns-clause-sums c =
    merged_all sums_in c.args.values.now c.loop-value.value-index c.args.total.now c.loop-value.total (omega arith)
    c.loop-value.invariant.sums
