use Rattle.std.proofs.Common.{◌≡◌, ℕ, ◌+◌, ◌-◌, ◌*◌, ◌^◌, ◌<◌, ◌≤◌, get_or, length, arith, ap, ◌∙◌, sym, subst}
use Rattle.std.proofs.Math.Nat.{mul-le-mul_right}
use Rattle.iiif_pixel.specs.Picture.{sample_at}
use Rattle.iiif_pixel.proofs.SampleLists.{length-row_of}
use Rattle.iiif_area.proofs.AddingLaws.{RowsTaken, RowsTaken-none, RowsTaken-more, RowsTaken-all}
use Rattle.iiif_area.proofs.WeightLaws.{weight-le}
use Rattle.iiif_area.proofs.adding.add_rows.Goals as goal

pub loop-s-init : goal.loop-s-init
loop-s-init c =
    let small : (e : ℕ) → get_or c.args.sums.now e 0 < 2 ^ 64 = λ e. omega (arith, c.type_inv.sums e) in
    RowsTaken-none small

pub add_row-requires-clause-weights : goal.add_row-requires-clause-weights
add_row-requires-clause-weights c =
    let most = weight-le c.args.row.y (c.args.share.part.y + c.loop-s.s) c.args.share.region.h c.args.share.size.h in
    let weight = rw c.rows-rows.ensures at c.weight-weight.ensures in
    let e : c.weight-weight.result * c.args.share.region.w ≤ c.args.share.region.h * c.args.share.region.w =
    mul-le-mul_right c.args.share.region.w (omega arith) in
    rw c.columns-columns.ensures (omega (arith, e, c.requires.holds.limits.area))

pub add_row-requires-clause-samples : goal.add_row-requires-clause-samples
add_row-requires-clause-samples c =
    let p = c.args.tile.now in
    let ch : c.channels-channels.result ≡ p.channels = c.channels-channels.ensures ∙ c.kind.ensures in
    let run = c.sources_of_run-left.result in
    ap length (rw c.held-held.ensures at c.span-samples.ensures.samples) ∙
    length-row_of (run.1 - run.0) p.channels
    (λ i k. sample_at p (c.args.share.corner.0 + run.0 + i) (c.args.share.corner.1 + c.loop-s.s) k)
    ∙ ap (λ n. (run.1 - run.0) * n) (sym ch)

pub loop-s-preserved : goal.loop-s-preserved
loop-s-preserved c =
    let run = c.sources_of_run-left in
    RowsTaken-more _ c.weight-weight.result run.result.0 run.result.1 (omega arith) (c.channels-channels.ensures ∙ c.kind.ensures)
    run.ensures.in_order (rw c.columns-columns.ensures at run.ensures.within)
    (rw c.held-held.ensures at c.span-samples.ensures.samples)
    (rw c.columns-columns.ensures at run.ensures.below) (rw c.columns-columns.ensures at run.ensures.above)
    (rw c.rows-rows.ensures at c.weight-weight.ensures) (rw c.columns-columns.ensures at c.add_row.ensures) c.loop-s.invariant

pub returns : goal.returns
returns c = λ i k li lk.
    let p = c.args.tile.now in
    let ch : c.channels-channels.result ≡ p.channels = c.channels-channels.ensures ∙ c.kind.ensures in
    let done : c.loop-s.s ≡ c.sources-start.result.1 = omega (arith, c.sources-start.ensures.in_order) in
    let all = subst (λ n. RowsTaken p c.args.share.corner c.args.share.part c.args.row c.args.share.region c.args.share.size n
    c.args.sums.now c.loop-s.sums c.sources-start.result.0 c.sources-start.result.1) ch
    (subst (λ s. RowsTaken p c.args.share.corner c.args.share.part c.args.row c.args.share.region c.args.share.size
    c.channels-channels.result c.args.sums.now c.loop-s.sums c.sources-start.result.0 s) done c.loop-s.invariant) in
    RowsTaken-all c.sources-start.ensures.in_order (rw c.rows-rows.ensures at c.sources-start.ensures.within)
    (rw c.rows-rows.ensures at c.sources-start.ensures.below) (rw c.rows-rows.ensures at c.sources-start.ensures.above)
    all i k li lk
