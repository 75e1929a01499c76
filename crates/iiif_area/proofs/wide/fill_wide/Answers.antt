use Rattle.std.proofs.Common.{◌≡◌, ℕ, ◌+◌, ◌-◌, ◌*◌, ◌/◌, ◌%◌, ◌<◌, get_or, length, replicate, arith, ap, ◌∙◌}
use Rattle.std.proofs.lemmas.List.{get_or-replicate}
use Rattle.iiif_pixel.specs.Depths.{span_values}
use Rattle.iiif_area.proofs.ColumnLaws.{next_row, held-none, held-more, held-added, row-length, row-le, column_fits, column_sum-is}
use Rattle.iiif_area.proofs.GridLaws.{entry-lt, index_parts}
use Rattle.iiif_area.proofs.SumLaws.{sum_from-start}
use Rattle.iiif_area.proofs.WeightLaws.{weight-le}
use Rattle.iiif_area.proofs.wide.fill_wide.Goals as goal
use Rattle.iiif_area.proofs.wide.fill_wide.Goals.{then-many+then-weight-from+then-s-start-lt-RUN, else-many}

pub loop-s-init : goal.loop-s-init
loop-s-init c = record {
  total = λ t k lt lk.
      let n = c.args.tile.now.channels in
      let e : c.fill.new.self ≡ replicate (length c.args.columns.now) 0 = c.fill.ensures.after (λ y e. e) in
      let h : t * n + k < length c.args.columns.now = omega (arith, entry-lt t c.args.held.w n k lt lk) in
      let none = ap (λ u. get_or u (t * n + k) 0) e ∙ get_or-replicate (length c.args.columns.now) (t * n + k) 0 0 h in
      held-none c.args.rows.c none (c.requires.clear (t * n + k) (omega arith)) ∙ sum_from-start _ _ _ (omega arith);
  bound = λ i l. omega (arith, c.requires.clear i l);
  clear = λ _ i l. c.requires.clear i l;
}

pub overflow_cast-weight : goal.overflow_cast-weight
overflow_cast-weight c = omega (arith, weight-le c.args.j (c.args.rows.from + c.loop-s.s) c.args.rows.a c.args.rows.c)

pub sum_row-requires-clause-same : goal.sum_row-requires-clause-same
sum_row-requires-clause-same c =
    omega (
      arith,
      row-length c.args.tile.now c.args.held.x (c.args.held.y + c.loop-s.s) c.args.held.w (span_values c.span-row.result)
          c.span-row.ensures.samples,
    )

pub sum_row-requires-clause-room : goal.sum_row-requires-clause-room
sum_row-requires-clause-room c = λ i l.
    let sample = row-le c.args.tile.now c.args.held.x (c.args.held.y + c.loop-s.s) c.args.held.w i 65535 (span_values c.span-row.result)
    c.span-row.ensures.samples
    c.requires.samples (omega arith) in
    omega (arith, c.loop-s.invariant.bound i l)

pub add_row-requires-clause-same : goal.add_row-requires-clause-same
add_row-requires-clause-same c =
    omega (
      arith,
      row-length c.args.tile.now c.args.held.x (c.args.held.y + c.loop-s.s) c.args.held.w (span_values c.span-row.result)
          c.span-row.ensures.samples,
    )

pub add_row-requires-clause-room : goal.add_row-requires-clause-room
add_row-requires-clause-room c = λ i l.
    let p = c.args.tile.now in
    let q = index_parts p.channels c.args.held.w i (omega (arith, c.requires.room, c.loop-s.auto.columns)) in
    let e = next_row p c.args.held.x c.args.held.y c.args.rows.from c.args.j c.args.rows.a c.args.rows.c c.sources-start.result.0 c.loop-s.s
    c.args.held.w (i / p.channels) (i % p.channels)
    c.weight-weight.result _ (span_values c.span-row.result) (omega arith) c.span-row.ensures.samples c.weight-weight.ensures q.0 q.1
    (c.loop-s.invariant.total _ _ q.0 q.1) in
    let b = column_fits p c.args.held.x c.args.held.y c.args.rows.from c.args.j c.args.rows.a c.args.rows.c c.sources-start.result.0
    (c.loop-s.s + 1 - c.sources-start.result.0)
    (i / p.channels) (i % p.channels) 65535 c.requires.samples in
    let a1 = ap (λ u. get_or c.loop-s.columns u 0) q.2 in
    let a2 = ap (λ u. c.weight-weight.result * get_or (span_values c.span-row.result) u 0) q.2 in
    omega arith

pub add_sums-requires-clause-room : goal.add_sums-requires-clause-room
add_sums-requires-clause-room c = λ i l.
    let p = c.args.tile.now in
    let q = index_parts p.channels c.args.held.w i (omega (arith, c.requires.room, c.loop-s.auto.columns)) in
    let e = c.loop-s.invariant.total _ _ q.0 q.1 in
    let b = column_fits p c.args.held.x c.args.held.y c.args.rows.from c.args.j c.args.rows.a c.args.rows.c c.sources-start.result.0
    (c.loop-s.s - c.sources-start.result.0)
    (i / p.channels) (i % p.channels) 65535 c.requires.samples in
    let a1 = ap (λ u. get_or c.loop-s.columns u 0) q.2 in
    let a2 = ap (λ u. c.args.rows.c * get_or c.loop-s.inner u 0) q.2 in
    omega arith

pub loop-s-preserved : goal.loop-s-preserved
loop-s-preserved c =
    let p = c.args.tile.now in
    let n = p.channels in
    let row = span_values c.span-row.result in
    let more = λ (t k : ℕ) (lt : t < c.args.held.w) (lk : k < n).
    next_row p c.args.held.x c.args.held.y c.args.rows.from c.args.j c.args.rows.a c.args.rows.c c.sources-start.result.0 c.loop-s.s
    c.args.held.w t k
    c.weight-weight.result (get_or c.loop-s.columns (t * n + k) 0 + c.args.rows.c * get_or c.loop-s.inner (t * n + k) 0) row (omega arith)
    c.span-row.ensures.samples c.weight-weight.ensures lt lk
    (c.loop-s.invariant.total t k lt lk) in
    let inside = λ (t k : ℕ) (lt : t < c.args.held.w) (lk : k < n). let h : t * n + k < length c.loop-s.columns =
    omega (arith, entry-lt t c.args.held.w n k lt lk, c.loop-s.auto.columns, c.requires.room) in h in
    elim c.if-many.branch [
      | then-many+then-weight-from+then-s-start-lt-RUN w ↦
          let now = λ (i : ℕ) (l : i < length c.loop-s.inner). ap (λ u. get_or u i 0) w.inner-is ∙
          w.sum_row.ensures i (omega (arith, l, w.sum_row.auto.inner)) in
          record {
            total = λ t k lt lk.
                held-more _ _ _ c.args.rows.c c.weight-weight.result (ap (λ u. get_or u (t * n + k) 0) w.columns-is)
                (now (t * n + k) (omega (arith, inside t k lt lk, c.loop-s.auto.columns, c.loop-s.auto.inner, c.requires.inner)))
                (omega (arith, w.if-weight-from.true, w.from.ensures)) ∙ more t k lt lk;
            bound = λ i l.
                let held : i < length c.loop-s.inner = omega (arith, l, c.if-many.auto.inner) in
                let sample = row-le p c.args.held.x (c.args.held.y + c.loop-s.s) c.args.held.w i 65535 row c.span-row.ensures.samples
                c.requires.samples
                (omega (arith, held, c.loop-s.auto.inner, c.requires.inner, c.requires.room)) in
                omega (arith, now i held, c.loop-s.invariant.bound i held);
            clear = λ few. absurd (omega (arith, w.if-many.true, few));
          }
      | else-many w ↦
          record {
            total = λ t k lt lk.
                held-added _ _ _ c.args.rows.c c.weight-weight.result
                (ap (λ u. get_or u (t * n + k) 0) w.columns-is ∙
                w.add_row.ensures (t * n + k) (omega (arith, inside t k lt lk, w.add_row.auto.columns)))
                (ap (λ u. get_or u (t * n + k) 0) w.inner-is) ∙ more t k lt lk;
            bound = λ i l.
                let held : i < length c.loop-s.inner = omega (arith, l, c.if-many.auto.inner) in
                omega (arith, ap (λ u. get_or u i 0) w.inner-is, c.loop-s.invariant.bound i held);
            clear = λ few i l. ap (λ u. get_or u i 0) w.inner-is ∙ c.loop-s.invariant.clear few i (omega (arith, l, c.if-many.auto.inner));
          }
    ]

pub returns-then-many-2-clause-sums : goal.returns-then-many-2-clause-sums
returns-then-many-2-clause-sums c = λ t k lt lk.
    let n = c.args.tile.now.channels in
    let sources = c.sources-start.ensures in
    let h : t * n + k < length c.add_sums.new.columns =
    omega (arith, entry-lt t c.args.held.w n k lt lk, c.add_sums.auto.columns, c.loop-s.auto.columns, c.requires.room) in
    c.add_sums.ensures (t * n + k) h
    ∙ column_sum-is c.args.tile.now c.args.held c.args.rows c.args.j t k c.sources-start.result.0 c.sources-start.result.1 c.loop-s.s _
    sources.in_order sources.within
    (omega arith) sources.below sources.above (c.loop-s.invariant.total t k lt lk)

pub returns-else-many-2-clause-sums : goal.returns-else-many-2-clause-sums
returns-else-many-2-clause-sums c = λ t k lt lk.
    let n = c.args.tile.now.channels in
    let sources = c.sources-start.ensures in
    let h : t * n + k < length c.loop-s.inner =
    omega (arith, entry-lt t c.args.held.w n k lt lk, c.loop-s.auto.inner, c.requires.inner, c.requires.room) in
    let none = c.loop-s.invariant.clear (omega (arith, c.if-many-2.false)) (t * n + k) h in
    let z = ap (λ u. c.args.rows.c * u) none in
    column_sum-is c.args.tile.now c.args.held c.args.rows c.args.j t k c.sources-start.result.0 c.sources-start.result.1 c.loop-s.s _
    sources.in_order sources.within
    (omega arith) sources.below sources.above (omega (arith, c.loop-s.invariant.total t k lt lk))
