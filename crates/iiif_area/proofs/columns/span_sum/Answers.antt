use Rattle.std.proofs.Common.{◌≡◌, ℕ, ◌+◌, ◌-◌, ◌*◌, ◌<◌, ◌≤◌, ◌^◌, get_or, arith, ap, ◌∙◌, sym}
use Rattle.std.proofs.lemmas.Nat.{mul-le}
use Rattle.iiif_pixel.specs.Scaling.{sum_from}
use Rattle.iiif_area.specs.Code.{span_total}
use Rattle.iiif_area.proofs.ColumnLaws.{span_total-none}
use Rattle.iiif_area.proofs.SumLaws.{sum_from-start, sum_from-step, sum_from-le-longer}
use Rattle.iiif_area.proofs.columns.span_sum.Goals as goal

pub returns-then-span : goal.returns-then-span
returns-then-span g c =
    sym (span_total-none (g.N.Cell.numbers c.args.columns.now) c.args.channels c.args.k c.args.c c.args.span c.if-span.true
    (c.requires.none c.if-span.true) (c.requires.single (omega arith)))

pub loop-t-init : goal.loop-t-init
loop-t-init g c = record { within = omega arith; added = sum_from-start _ _ _ (omega arith) }

pub loop-t-preserved : goal.loop-t-preserved
loop-t-preserved g c = record {
  within = omega arith;
  added =
      sum_from-step _ _ _ _ _ (omega arith) c.loop-t.invariant.added c.at-inner.ensures;
}

-- a partial sum of the columns between is within the total
within_total : (first inner last c part : ℕ) → 0 < c → part ≤ inner → first + c * inner + last < 2 ^ 64 → part < 2 ^ 64
within_total first inner last c part p h total = omega (arith, mul-le 1 inner c inner p (omega arith))

pub overflow_add-inner : goal.overflow_add-inner
unfolding span_total
overflow_add-inner g c =
    let s = c.args.span in
    let f : ℕ → ℕ = λ t. get_or (g.N.Cell.numbers c.args.columns.now) (t * c.args.channels + c.args.k) 0 in
    let longer = sum_from-le-longer (s.start + 1) (c.loop-t.t + 1 - (s.start + 1)) (s.end - 1 - (s.start + 1)) f (omega arith) in
    let here = sum_from-step (s.start + 1) c.loop-t.t f _ _ (omega arith) c.loop-t.invariant.added c.at-inner.ensures in
    let fits = within_total _ _ _ c.args.c (sum_from (s.start + 1) (c.loop-t.t + 1 - (s.start + 1)) f) c.requires.takes longer
    c.requires.fits in
    omega arith

pub taken_of-requires : goal.taken_of-requires
unfolding span_total
taken_of-requires g c =
    let s = c.args.span in
    let f : ℕ → ℕ = λ t. get_or (g.N.Cell.numbers c.args.columns.now) (t * c.args.channels + c.args.k) 0 in
    let count : c.loop-t.t - (s.start + 1) ≡ s.end - 1 - (s.start + 1) = omega arith in
    let inner = c.loop-t.invariant.added ∙ ap (λ n. sum_from (s.start + 1) n f) count in
    let e = ap (λ u. s.first * u) c.at-first.ensures in
    let d = ap (λ u. s.last * u) c.at-last.ensures in
    let m = ap (λ u. c.args.c * u) inner in
    omega (arith, c.requires.fits)

pub returns : goal.returns
unfolding span_total
returns g c =
    let s = c.args.span in
    let f : ℕ → ℕ = λ t. get_or (g.N.Cell.numbers c.args.columns.now) (t * c.args.channels + c.args.k) 0 in
    let count : c.loop-t.t - (s.start + 1) ≡ s.end - 1 - (s.start + 1) = omega arith in
    let inner = c.loop-t.invariant.added ∙ ap (λ n. sum_from (s.start + 1) n f) count in
    let e = ap (λ u. s.first * u) c.at-first.ensures in
    let d = ap (λ u. s.last * u) c.at-last.ensures in
    let m = ap (λ u. c.args.c * u) inner in
    omega (arith, c.taken_of.ensures)
