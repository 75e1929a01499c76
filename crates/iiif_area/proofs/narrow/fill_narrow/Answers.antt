use Rattle.std.proofs.Common.{◌≡◌, ◌+◌, ◌-◌, ◌*◌, ◌/◌, ◌%◌, ◌<◌, get_or, length, replicate, arith, ap, ◌∙◌}
use Rattle.std.proofs.lemmas.List.{get_or-replicate}
use Rattle.iiif_area.proofs.ColumnLaws.{row-length}
use Rattle.iiif_area.proofs.EightLaws.{run_fits, column_of-none, column_of-one, column_of-two, column_of-parts, column_of-fits}
use Rattle.iiif_area.proofs.GridLaws.{entry-lt, index_parts}
use Rattle.iiif_area.proofs.WeightLaws.{weight-le_result}
use Rattle.iiif_area.proofs.narrow.fill_narrow.Goals as goal

pub returns-then-start-end : goal.returns-then-start-end
returns-then-start-end c = record {
  sums = λ t k lt lk.
      let n = c.args.tile.now.channels in
      let sources = c.sources-start.ensures in
      let e : c.fill.new.self ≡ replicate (length c.args.columns.now) 0 = c.fill.ensures.after (λ y e. e) in
      let h : t * n + k < length c.args.columns.now = omega (arith, entry-lt t c.args.held.w n k lt lk) in
      ap (λ u. get_or u (t * n + k) 0) e ∙ get_or-replicate (length c.args.columns.now) (t * n + k) 0 0 h
      ∙ column_of-none c.args.tile.now c.args.held c.args.rows c.args.j t k c.sources-start.result.0 c.sources-start.result.1
      (omega (arith, c.if-start-end.true)) sources.within
      sources.below sources.above;
}

pub overflow_cast-above : goal.overflow_cast-above
overflow_cast-above c = omega (
  arith,
  weight-le_result c.args.j (c.args.rows.from + c.sources-start.result.0) c.args.rows.a c.args.rows.c,
  c.requires.narrow.weights,
)

pub join_ends-requires : goal.join_ends-requires
join_ends-requires c =
    let a = row-length c.args.tile.now c.args.held.x (c.args.held.y + c.sources-start.result.0) c.args.held.w c.row_of-first.result.now
    c.row_of-first.ensures in
    record { same = (omega arith, omega arith) }

pub returns-then-end-start-eq1 : goal.returns-then-end-start-eq1
returns-then-end-start-eq1 c = record {
  sums = λ t k lt lk.
      let n = c.args.tile.now.channels in
      let sources = c.sources-start.ensures in
      let h : t * n + k < length c.join_ends.new.columns =
      omega (arith, entry-lt t c.args.held.w n k lt lk, c.join_ends.auto.columns, c.requires.room) in
      let e = c.join_ends.ensures (t * n + k) h in
      let one = column_of-one c.args.tile.now c.args.held c.args.rows c.args.j t k c.sources-start.result.0 c.sources-start.result.1
      c.weight-above.result c.row_of-first.result.now
      (omega (arith, c.if-end-start-eq1.true)) sources.within c.row_of-first.ensures c.weight-above.ensures lt lk sources.below
      sources.above in
      omega arith;
}

pub overflow_cast-below : goal.overflow_cast-below
overflow_cast-below c = omega (
  arith,
  weight-le_result c.args.j (c.args.rows.from + (c.sources-start.result.1 - 1)) c.args.rows.a
      c.args.rows.c,
  c.requires.narrow.weights,
)

pub join_ends-requires-then-end-start-eq2 : goal.join_ends-requires-then-end-start-eq2
join_ends-requires-then-end-start-eq2 c =
    let a = row-length c.args.tile.now c.args.held.x (c.args.held.y + c.sources-start.result.0) c.args.held.w c.row_of-first.result.now
    c.row_of-first.ensures in
    let b = row-length c.args.tile.now c.args.held.x (c.args.held.y + (c.sources-start.result.1 - 1)) c.args.held.w c.row_of-last.result.now
    c.row_of-last.ensures in
    record { same = (omega arith, omega arith) }

pub returns-then-end-start-eq2 : goal.returns-then-end-start-eq2
returns-then-end-start-eq2 c = record {
  sums = λ t k lt lk.
      let n = c.args.tile.now.channels in
      let sources = c.sources-start.ensures in
      let h : t * n + k < length c.join_ends-then-end-start-eq2.new.columns =
      omega (arith, entry-lt t c.args.held.w n k lt lk, c.join_ends-then-end-start-eq2.auto.columns, c.requires.room) in
      c.join_ends-then-end-start-eq2.ensures (t * n + k) h
      ∙ column_of-two c.args.tile.now c.args.held c.args.rows c.args.j t k c.sources-start.result.0 c.sources-start.result.1
      c.weight-above.result c.weight-below.result
      c.row_of-first.result.now c.row_of-last.result.now (omega (arith, c.if-end-start-eq2.true)) sources.within c.row_of-first.ensures
      c.weight-above.ensures c.row_of-last.ensures c.weight-below.ensures
      lt lk sources.below sources.between sources.above;
}

pub sum_inner-requires-clause-run : goal.sum_inner-requires-clause-run
sum_inner-requires-clause-run c =
    run_fits c.args.j c.args.rows.a c.args.rows.c c.args.rows.from c.sources-start.result.0 c.sources-start.result.1 c.args.rows.count
    c.requires.part.divides c.sources-start.ensures.within c.requires.narrow.run c.sources-start.ensures.between

pub join_rows-requires-clause-same : goal.join_rows-requires-clause-same
join_rows-requires-clause-same c =
    let a = row-length c.args.tile.now c.args.held.x (c.args.held.y + c.sources-start.result.0) c.args.held.w c.row_of-first.result.now
    c.row_of-first.ensures in
    let b = row-length c.args.tile.now c.args.held.x (c.args.held.y + (c.sources-start.result.1 - 1)) c.args.held.w c.row_of-last.result.now
    c.row_of-last.ensures in
    (omega arith, omega arith, omega (arith, c.sum_inner.auto.short))

pub join_rows-requires-clause-room : goal.join_rows-requires-clause-room
join_rows-requires-clause-room c = λ i l.
    let p = c.args.tile.now in
    let sources = c.sources-start.ensures in
    let q = index_parts p.channels c.args.held.w i (omega (arith, c.requires.room)) in
    let e = column_of-parts p c.args.held c.args.rows c.args.j (i / p.channels) (i % p.channels) c.sources-start.result.0
    c.sources-start.result.1 c.weight-above.result c.weight-below.result
    (get_or c.sum_inner.new.short (i / p.channels * p.channels + i % p.channels) 0) c.row_of-first.result.now c.row_of-last.result.now
    (omega arith) sources.within
    c.row_of-first.ensures c.weight-above.ensures c.row_of-last.ensures c.weight-below.ensures
    (c.sum_inner.ensures.sums (i / p.channels) (i % p.channels) q.0 q.1) q.0 q.1
    sources.below sources.between sources.above in
    let b = column_of-fits p c.args.held c.args.rows c.args.j (i / p.channels) (i % p.channels) 255 c.requires.samples in
    let a1 = ap (λ u. c.weight-above.result * get_or c.row_of-first.result.now u 0) q.2 in
    let a2 = ap (λ u. c.args.rows.c * get_or c.sum_inner.new.short u 0) q.2 in
    let a3 = ap (λ u. c.weight-below.result * get_or c.row_of-last.result.now u 0) q.2 in
    omega (arith, c.requires.narrow.sums)

pub returns : goal.returns
returns c = record {
  sums = λ t k lt lk.
      let n = c.args.tile.now.channels in
      let sources = c.sources-start.ensures in
      let h : t * n + k < length c.join_rows.new.columns =
      omega (arith, entry-lt t c.args.held.w n k lt lk, c.join_rows.auto.columns, c.requires.room) in
      c.join_rows.ensures (t * n + k) h
      ∙ column_of-parts c.args.tile.now c.args.held c.args.rows c.args.j t k c.sources-start.result.0 c.sources-start.result.1
      c.weight-above.result c.weight-below.result
      (get_or c.sum_inner.new.short (t * n + k) 0) c.row_of-first.result.now c.row_of-last.result.now (omega arith) sources.within
      c.row_of-first.ensures c.weight-above.ensures c.row_of-last.ensures c.weight-below.ensures (c.sum_inner.ensures.sums t k lt lk) lt lk
      sources.below sources.between sources.above;
}
