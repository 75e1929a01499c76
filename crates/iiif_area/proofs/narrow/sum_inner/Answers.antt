use Rattle.std.proofs.Common.{◌≡◌, ◌+◌, ◌*◌, ◌<◌, get_or, length, replicate, arith, ap, ◌∙◌}
use Rattle.std.proofs.lemmas.List.{get_or-replicate}
use Rattle.iiif_area.proofs.ColumnLaws.{row-length, row-le}
use Rattle.iiif_area.proofs.EightLaws.{next_sample, next_samples}
use Rattle.iiif_area.proofs.GridLaws.{entry-lt}
use Rattle.iiif_area.proofs.SumLaws.{sum_from-start, sum_from-end}
use Rattle.iiif_area.proofs.narrow.sum_inner.Goals as goal

pub loop-s-init : goal.loop-s-init
loop-s-init c = record {
  from = omega arith;
  to = omega arith;
  total = λ t k lt lk.
      let n = c.args.tile.now.channels in
      let e : c.fill.new.self ≡ replicate (length c.args.short.now) 0 = c.fill.ensures.after (λ y e. e) in
      let h : t * n + k < length c.args.short.now = omega (arith, entry-lt t c.args.held.w n k lt lk) in
      ap (λ u. get_or u (t * n + k) 0) e ∙ get_or-replicate (length c.args.short.now) (t * n + k) 0 0 h ∙
      sum_from-start _ _ _ (omega arith);
  bound = λ i l.
      let e : c.fill.new.self ≡ replicate (length c.args.short.now) 0 = c.fill.ensures.after (λ y e. e) in
      let h : i < length c.args.short.now = omega (arith, l, c.fill.auto.self) in
      let none = ap (λ u. get_or u i 0) e ∙ get_or-replicate (length c.args.short.now) i 0 0 h in
      omega (arith, none);
}

pub sum_four-requires-clause-same : goal.sum_four-requires-clause-same
sum_four-requires-clause-same c =
    let p = c.args.tile.now in
    let x = c.args.held.x in
    let a = row-length p x (c.args.held.y + c.loop-s.s) c.args.held.w c.row_of-first.result.now c.row_of-first.ensures in
    let b = row-length p x (c.args.held.y + (c.loop-s.s + 1)) c.args.held.w c.row_of-second.result.now c.row_of-second.ensures in
    let d = row-length p x (c.args.held.y + (c.loop-s.s + 2)) c.args.held.w c.row_of-third.result.now c.row_of-third.ensures in
    let e = row-length p x (c.args.held.y + (c.loop-s.s + 3)) c.args.held.w c.row_of-fourth.result.now c.row_of-fourth.ensures in
    omega (arith, a, b, d, e)

pub sum_one-requires-clause-same : goal.sum_one-requires-clause-same
sum_one-requires-clause-same c =
    omega (arith, row-length c.args.tile.now c.args.held.x (c.args.held.y + c.loop-s.s) c.args.held.w c.row_of.result.now c.row_of.ensures)

pub loop-s-preserved-then-to-s-ge-FOUR : goal.loop-s-preserved-then-to-s-ge-FOUR
loop-s-preserved-then-to-s-ge-FOUR c =
    let p = c.args.tile.now in
    let n = p.channels in
    let x = c.args.held.x in
    record {
      from = omega (arith, c.loop-s.invariant.from);
      to = omega (arith, c.if-to-s-ge-FOUR.true);
      total = λ t k lt lk.
          let at = t * n + k in
          let h : at < length c.sum_four.new.short =
          omega (arith, entry-lt t c.args.held.w n k lt lk, c.sum_four.auto.short, c.loop-s.auto.short, c.requires.room) in
          c.sum_four.ensures at h
          ∙ next_samples p x c.args.held.y c.args.from c.loop-s.s c.args.held.w t k _ c.row_of-first.result.now c.row_of-second.result.now
          c.row_of-third.result.now c.row_of-fourth.result.now
          (omega (arith, c.loop-s.invariant.from)) c.row_of-first.ensures c.row_of-second.ensures c.row_of-third.ensures
          c.row_of-fourth.ensures lt lk (c.loop-s.invariant.total t k lt lk);
      bound = λ i l.
          let held : i < length c.loop-s.short = omega (arith, l, c.sum_four.auto.short) in
          let inside : i < c.args.held.w * n = omega (arith, held, c.loop-s.auto.short, c.requires.room) in
          let a = row-le p x _ c.args.held.w i 255 _ c.row_of-first.ensures c.requires.samples inside in
          let b = row-le p x _ c.args.held.w i 255 _ c.row_of-second.ensures c.requires.samples inside in
          let d = row-le p x _ c.args.held.w i 255 _ c.row_of-third.ensures c.requires.samples inside in
          let e = row-le p x _ c.args.held.w i 255 _ c.row_of-fourth.ensures c.requires.samples inside in
          omega (arith, c.sum_four.ensures i l, c.loop-s.invariant.bound i held, a, b, d, e);
    }

pub loop-s-preserved : goal.loop-s-preserved
loop-s-preserved c =
    let p = c.args.tile.now in
    let n = p.channels in
    record {
      from = omega (arith, c.loop-s.invariant.from);
      to = omega (arith, c.loop-s-test.true);
      total = λ t k lt lk.
          let at = t * n + k in
          let h : at < length c.sum_one.new.short =
          omega (arith, entry-lt t c.args.held.w n k lt lk, c.sum_one.auto.short, c.loop-s.auto.short, c.requires.room) in
          c.sum_one.ensures at h
          ∙ next_sample p c.args.held.x c.args.held.y c.args.from c.loop-s.s c.args.held.w t k _ c.row_of.result.now
          (omega (arith, c.loop-s.invariant.from)) c.row_of.ensures lt lk
          (c.loop-s.invariant.total t k lt lk);
      bound = λ i l.
          let held : i < length c.loop-s.short = omega (arith, l, c.sum_one.auto.short) in
          let inside : i < c.args.held.w * p.channels = omega (arith, held, c.loop-s.auto.short, c.requires.room) in
          let a = row-le p c.args.held.x _ c.args.held.w i 255 _ c.row_of.ensures c.requires.samples inside in
          omega (arith, c.sum_one.ensures i l, c.loop-s.invariant.bound i held, a);
    }

pub returns : goal.returns
returns c = record { sums = λ t k lt lk. sum_from-end _ _ _ _ _ (c.loop-s.invariant.total t k lt lk) (omega arith) }
