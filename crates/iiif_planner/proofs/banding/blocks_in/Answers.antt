use Rattle.std.proofs.Common.{◌≡◌, ◌*◌, ◌^◌, ◌<◌, ◌∙◌, length, get_or, sym, ap, inl, inr, arith}
use Rattle.std.proofs.lemmas.Bool.{eqb-true}
use Rattle.std.proofs.lemmas.Result.{IfOk-weaker}
use Rattle.iiif_keys.proofs.Derived.{above_zero}
use Rattle.iiif_keys.specs.declared.keys.SumKey.{SumKey}
use Rattle.iiif_planner.specs.Bands.{places_from, block_places}
use Rattle.iiif_planner.specs.Code.{block_met}
use Rattle.iiif_planner.proofs.BandLemmas.{nothing_listed, blocks_listed, one_first}
use Rattle.iiif_planner.proofs.banding.blocks_in.Goals as goal
use Rattle.iiif_planner.proofs.banding.blocks_in.Goals.{then-is_empty-via-then-is_empty, then-is_empty-via-else-is_empty+then-part-eq0}
use Rattle.iiif_planner.proofs.banding.blocks_in.Goals.{then-is_empty-via-else-is_empty+else-part-eq0+then-part-eq0-2}

pub returns-then-is_empty : goal.returns-then-is_empty
returns-then-is_empty c =
    nothing_listed (block_places) c.args.keys.now c.args.part c.new.result.items c.new.ensures.items
    (elim c.then-is_empty.branch [
      | then-is_empty-via-then-is_empty w ↦ inl (eqb-true (length c.args.keys.now) 0 (sym c.is_empty.ensures ∙ w.if-is_empty.true))
      | then-is_empty-via-else-is_empty+then-part-eq0 w ↦ inr (inl w.if-part-eq0.true)
      | then-is_empty-via-else-is_empty+else-part-eq0+then-part-eq0-2 w ↦ inr (inr w.if-part-eq0-2.true)
    ])

pub returns : goal.returns
returns c =
    let keys = c.args.keys.now in
    let some : 0 < length keys = above_zero (length keys) (sym c.is_empty.ensures ∙ c.if-is_empty.false) in
    let k = c.index-keys-0.result in
    let same = one_first keys c.index-keys-0-2.result k some (sym c.index-keys-0-2.is) (sym c.index-keys-0.is) in
    let first = get_or keys 0 k in
    let side = c.side_of-side.ensures.side ∙ ap (λ (q : SumKey). 2 ^ q.level * first.edge) (sym c.index-keys-0-2.is ∙ same)
    ∙ ap (λ (q : SumKey). 2 ^ k.level * q.edge) (sym c.index-keys-0.is) in
    let listed = blocks_listed c.args.region c.args.size c.args.part keys k c.side_of-side.result c.requires.blocks some
    (sym c.index-keys-0.is) side (omega (arith, c.if-part-eq0.false)) (omega (arith, c.if-part-eq0-2.false)) c.requires.inside in
    IfOk-weaker c.squares_in.result _ (λ v. v.items ≡ places_from 0 (block_met c.args.part) keys)
    (λ v made. made ∙ listed) c.squares_in.ensures
