use Rattle.std.proofs.Common.{◌≡◌, ℕ, ◌+◌, ◌*◌, ◌≤◌, get_or, length, arith, refl, ap, sym, ◌∙◌}
use Rattle.std.proofs.Math.Nat.{mul-le-mul_right}
use Rattle.iiif_pixel.specs.Picture.{samples_of}
use Rattle.iiif_pixel.specs.Scaling.{area_sum}
use Rattle.iiif_pixel.proofs.SampleLists.{index_below}
use Rattle.iiif_pixel.proofs.Whole.{sample_at-le, top-le}
use Rattle.iiif_area.specs.Code.{columns_of, tile_sample, IsSpan}
use Rattle.iiif_area.proofs.ColumnLaws.{span_total-area, tile_area-fits}
use Rattle.iiif_area.proofs.GridLaws.{FilledTo-push, filled_is}
use Rattle.iiif_area.proofs.WholeSpanLaws.{whole_area, whole_within, no_span, FilledTo-more}
use Rattle.iiif_area.proofs.columns.sums_by.Goals as goal

pub span_sum-sum-requires-clause-within : goal.span_sum-sum-requires-clause-within
span_sum-sum-requires-clause-within g c =
    let n = c.args.channels in
    let span : IsSpan (columns_of c.args.share) (c.args.rect.x + c.loop-i.i) c.index-span.result.now =
    let each = rw c.columns.ensures at c.in_ok-spans.ensures.each in
    rw c.index-span.ensures (each c.loop-i.i c.index-span.result.now (omega arith)) in
    let e : c.index-span.result.now.end * n ≤ c.args.share.part.w * n = mul-le-mul_right n span.within in
    let row : length c.cells-cells.result.now ≡ c.args.share.part.w * c.args.channels =
    ap length c.cells-cells.ensures ∙ (rw c.held-held.ensures at c.fill.ensures.count)
    ∙ ap (λ u. c.args.share.part.w * u) (sym c.requires.channels) in
    let all : c.index-span.result.now.end * n ≤ length c.cells-cells.result.now = omega arith in
    all

pub span_sum-sum-requires-clause-fits : goal.span_sum-sum-requires-clause-fits
span_sum-sum-requires-clause-fits g c =
    let held = rw c.held-held.ensures at c.fill.ensures.sums in
    let sums = rw (sym c.cells-cells.ensures) at (rw c.rows-rows.ensures at held) in
    let span : IsSpan (columns_of c.args.share) (c.args.rect.x + c.loop-i.i) c.index-span.result.now =
    let each = rw c.columns.ensures at c.in_ok-spans.ensures.each in
    rw c.index-span.ensures (each c.loop-i.i c.index-span.result.now (omega arith)) in
    let i = c.args.rect.x + c.loop-i.i in
    let j = c.args.rect.y + c.loop-j.j in
    let k = c.loop-k.k in
    let ch : c.args.channels ≡ c.args.tile.now.channels = c.requires.channels in
    let sum = span_total-area c.args.share c.args.tile.now i j k c.args.channels c.from.result
    (g.C.Cell.Cell.numbers c.cells-cells.result.now) c.index-span.result.now
    ch c.from.ensures span (λ t l. sums t k l (omega arith)) in
    let fits = tile_area-fits c.args.share c.args.tile.now i j k c.requires.holds.limits.area
    (λ x y k. omega (arith, sample_at-le c.args.tile.now c.is_whole.ensures.whole x y k, top-le c.args.tile.now c.is_whole.ensures.whole))
    in
    omega arith

pub loop-k-preserved : goal.loop-k-preserved
loop-k-preserved g c =
    let held = rw c.held-held.ensures at c.fill.ensures.sums in
    let sums = rw (sym c.cells-cells.ensures) at (rw c.rows-rows.ensures at held) in
    let span : IsSpan (columns_of c.args.share) (c.args.rect.x + c.loop-i.i) c.index-span.result.now =
    let each = rw c.columns.ensures at c.in_ok-spans.ensures.each in
    rw c.index-span.ensures (each c.loop-i.i c.index-span.result.now (omega arith)) in
    let k = c.loop-k.k in
    let ch : c.args.channels ≡ c.args.tile.now.channels = c.requires.channels in
    let sum = span_total-area c.args.share c.args.tile.now (c.args.rect.x + c.loop-i.i) (c.args.rect.y + c.loop-j.j) k c.args.channels
    c.from.result
    (g.C.Cell.Cell.numbers c.cells-cells.result.now) c.index-span.result.now ch c.from.ensures span (λ t l. sums t k l (omega arith)) in
    record {
      capacity = omega arith;
      count = omega arith;
      filled = rw c.push_reserved.ensures.items
          (FilledTo-push _ _ _ _ c.loop-i.i c.loop-j.j k _ c.loop-k.invariant.filled (omega arith) (omega arith) (omega arith)
          (c.span_sum-sum.ensures ∙ sum));
    }

pub returns : goal.returns
returns g c =
    let r = c.args.rect in
    let n = c.args.channels in
    let ch : n ≡ c.args.tile.now.channels = c.requires.channels in
    let f : ℕ → ℕ → ℕ → ℕ = λ i j k. area_sum c.args.share.region c.args.share.size c.args.share.part
    (tile_sample c.args.tile.now c.args.share.corner c.args.share.part k) (r.x + i) (r.y + j) in
    let rows : c.loop-j.j ≡ r.h = omega arith in
    let count : r.w * n * c.loop-j.j ≡ r.w * n * r.h = ap (λ y. r.w * n * y) rows in
    filled_is r.w r.h n f c.loop-j.sums.items (omega arith) c.loop-j.invariant.filled ∙ ap (λ u. samples_of r.w r.h u f) ch

pub push_reserved-requires : goal.push_reserved-requires
push_reserved-requires g c =
    let r = c.args.rect in
    omega (arith, index_below r.w r.h c.args.channels c.loop-i.i c.loop-j.j c.loop-k.k (omega arith) (omega arith) (omega arith))

pub loop-j-preserved : goal.loop-j-preserved
loop-j-preserved g c =
    let n = c.args.channels in
    let e : c.loop-i.i ≡ c.args.rect.w = omega arith in
    let d : c.loop-i.i * n ≡ c.args.rect.w * n = ap (λ x. x * n) e in
    record {
      ready = c.fill.ensures.ready;
      whole = c.loop-j.invariant.whole;
      capacity = omega arith;
      count = omega arith;
      filled = c.loop-i.invariant.filled;
    }

pub with_whole-sums-requires-clause-room : goal.with_whole-sums-requires-clause-room
with_whole-sums-requires-clause-room g c =
    let r = c.args.rect in
    let rows : (c.loop-j.j + 1) * (r.w * c.args.channels) ≤ r.h * (r.w * c.args.channels) =
    mul-le-mul_right (r.w * c.args.channels) (omega arith) in
    omega arith

pub with_whole-sums-requires-clause-within : goal.with_whole-sums-requires-clause-within
with_whole-sums-requires-clause-within g c =
    let n = c.in-Some-whole.n in
    let whole = rw c.in-Some-whole.is at c.loop-j.invariant.whole in
    let columns = whole_within (columns_of c.args.share) c.args.rect.x c.args.rect.w n
    c.in_ok-spans.spans.items (rw c.columns.ensures at c.in_ok-spans.ensures.each) whole.1 in
    let entries : c.args.rect.w * n * c.args.channels ≤ c.args.share.part.w * c.args.channels = mul-le-mul_right c.args.channels columns in
    let row : length c.cells-cells.result.now ≡ c.args.share.part.w * c.args.channels =
    ap length c.cells-cells.ensures ∙ (rw c.held-held.ensures at c.fill.ensures.count)
    ∙ ap (λ u. c.args.share.part.w * u) (sym c.requires.channels) in
    let all : c.args.rect.w * n * c.args.channels ≤ length c.cells-cells.result.now = omega arith in
    all

pub with_whole-sums-requires-clause-fits : goal.with_whole-sums-requires-clause-fits
with_whole-sums-requires-clause-fits g c = λ p k lp lk.
    let held = rw c.held-held.ensures at c.fill.ensures.sums in
    let sums = rw (sym c.cells-cells.ensures) at (rw c.rows-rows.ensures at held) in
    let each = rw c.columns.ensures at c.in_ok-spans.ensures.each in
    let n = c.in-Some-whole.n in
    let whole = rw c.in-Some-whole.is at c.loop-j.invariant.whole in
    let i = c.args.rect.x + p in
    let j = c.args.rect.y + c.loop-j.j in
    let ch : c.args.channels ≡ c.args.tile.now.channels = c.requires.channels in
    let sum = whole_area c.args.share c.args.tile.now i j k p n c.args.channels (g.C.Cell.Cell.numbers c.cells-cells.result.now)
    (get_or c.in_ok-spans.spans.items p no_span)
    whole.0 ch (each p no_span lp) (whole.1 p no_span lp) (λ t l. sums t k l (omega arith)) in
    let fits = tile_area-fits c.args.share c.args.tile.now i j k c.requires.holds.limits.area
    (λ x y k. omega (arith, sample_at-le c.args.tile.now c.is_whole.ensures.whole x y k, top-le c.args.tile.now c.is_whole.ensures.whole))
    in
    omega (arith, sum, fits)

pub loop-j-preserved-in-Some-whole : goal.loop-j-preserved-in-Some-whole
loop-j-preserved-in-Some-whole g c =
    let held = rw c.held-held.ensures at c.fill.ensures.sums in
    let sums = rw (sym c.cells-cells.ensures) at (rw c.rows-rows.ensures at held) in
    let each = rw c.columns.ensures at c.in_ok-spans.ensures.each in
    let r = c.args.rect in
    let n = c.in-Some-whole.n in
    let whole = rw c.in-Some-whole.is at c.loop-j.invariant.whole in
    let j = r.y + c.loop-j.j in
    let ch : c.args.channels ≡ c.args.tile.now.channels = c.requires.channels in
    record {
      ready = c.fill.ensures.ready;
      whole = whole;
      capacity = omega arith;
      count = omega (arith, c.with_whole-sums.ensures.row.count);
      filled = FilledTo-more r.w c.args.channels c.loop-j.j _ _ _ _ _ c.loop-j.invariant.filled (omega arith) refl
          c.with_whole-sums.ensures.row
          (λ p k lp lk. whole_area c.args.share c.args.tile.now (r.x + p) j k p n c.args.channels
          (g.C.Cell.Cell.numbers c.cells-cells.result.now) (get_or c.in_ok-spans.spans.items p no_span)
          whole.0 ch (each p no_span lp) (whole.1 p no_span lp) (λ t l. sums t k l (omega arith)));
    }
