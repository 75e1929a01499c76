use Rattle.std.proofs.Common.{◌≡◌, ℕ, ◌+◌, ◌*◌, ◌^◌, ◌<◌, ◌≤◌, inl, inr, get_or, arith, ap, ◌∙◌, ⊎_elim}
use Rattle.std.proofs.lemmas.Bool.{cases_lt}
use Rattle.std.proofs.Math.Nat.{mul-le-mul_right}
use Rattle.iiif_pixel.specs.Scaling.{weight_of}
use Rattle.iiif_area.proofs.AddingLaws.{TakenOf-none, TakenOf-kept, TakenOf-more, TakenOf-passed, common_parts, later_parts, passed_parts}
use Rattle.iiif_area.proofs.GridLaws.{entry-lt}
use Rattle.iiif_area.proofs.SumLaws.{same_product}
use Rattle.iiif_area.proofs.adding.add_row.Goals as goal
use Rattle.iiif_area.proofs.adding.add_row.Goals.{then-loop-i-test+else-left-end, else-loop-i-test, then-i-gt0+then-left-end-2, else-i-gt0}
use Rattle.iiif_area.proofs.adding.add_row.Goals.{else-i-gt0-via-then-i-gt0+else-left-end-2, else-i-gt0-via-else-i-gt0}

pub loop-t-init : goal.loop-t-init
loop-t-init c =
    let s = c.args.stretch in
    let left : s.first * s.columns.a ≡ (s.first + 0) * s.columns.a = omega arith in
    let begin : s.columns.from * s.columns.c ≡ (s.columns.from + 0) * s.columns.c = omega arith in
    let small : (e : ℕ) → get_or c.args.sums.now e 0 < 2 ^ 64 = λ e. omega (arith, c.type_inv.sums e) in
    record {
      within = omega arith;
      left = same_product c.from.ensures c.from-a.ensures ∙ left;
      begin = same_product c.from-2.ensures c.from-c.ensures ∙ begin;
      passed = λ h. omega arith;
      taken = λ i k _ _. TakenOf-none (small (i * c.args.channels + k));
    }

pub loop-i-preserved : goal.loop-i-preserved
loop-i-preserved c =
    let s = c.args.stretch in
    let n = c.args.channels in
    let at = c.loop-i.i in
    let columns : c.saturating_sub-columns.result ≡ weight_of (s.first + at) (s.columns.from + c.loop-t.t) s.columns.a s.columns.c =
    omega (
      arith,
      common_parts s.first at s.columns.from c.loop-t.t s.columns.a s.columns.c c.loop-i.left c.loop-t.begin
          c.loop-i.invariant.left c.loop-t.invariant.begin,
    ) in
    record {
      from = omega arith;
      within = omega arith;
      left = omega arith;
      back = λ h. omega arith;
      taken = λ i k l h lk.
          ⊎_elim
          (λ (before : i < at). TakenOf-kept (c.loop-i.invariant.taken i k l before lk)
          (c.add_place.ensures.kept (i * n + k) (inl (entry-lt i at n k before lk))))
          (λ (here : at ≤ i).
          let e : at ≡ i = omega arith in
          rw (← e) (TakenOf-more c.saturating_sub-columns.result (c.loop-i.invariant.kept at k (omega arith) lk (inr (omega arith))) columns
          (c.add_place.ensures.added k lk)))
          (cases_lt i at);
      kept = λ i k li lk off.
          TakenOf-kept (c.loop-i.invariant.kept i k li lk
          (⊎_elim (λ (h : i < c.loop-t.i). inl h) (λ (h : at + 1 ≤ i). inr (omega arith)) off))
          (c.add_place.ensures.kept (i * n + k)
          (⊎_elim
          (λ (h : i < c.loop-t.i). inl (entry-lt i at n k (omega arith) lk))
          (λ (h : at + 1 ≤ i). let e : (at + 1) * n ≤ i * n = mul-le-mul_right n h in inr (omega arith))
          off));
    }

pub loop-t-preserved : goal.loop-t-preserved
loop-t-preserved c = record {
  within = elim c.if-i-gt0.branch [ then-i-gt0+then-left-end-2 w ↦ omega arith | else-i-gt0 w ↦ omega arith ];
  left = elim c.if-i-gt0.branch [
    | then-i-gt0+then-left-end-2 w ↦
        let one : c.loop-i.i ≡ c.if-i-gt0.i + 1 = omega arith in
        let step : (c.args.stretch.first + c.loop-i.i) * c.args.stretch.columns.a ≡ (c.args.stretch.first + (c.if-i-gt0.i + 1)) *
        c.args.stretch.columns.a =
        ap (λ u. (c.args.stretch.first + u) * c.args.stretch.columns.a) one in
        omega arith
    | else-i-gt0 w ↦
        let same : (c.args.stretch.first + c.loop-i.i) * c.args.stretch.columns.a ≡ (c.args.stretch.first + c.if-i-gt0.i) *
        c.args.stretch.columns.a =
        ap (λ u. (c.args.stretch.first + u) * c.args.stretch.columns.a) (let e : c.loop-i.i ≡ c.if-i-gt0.i = omega arith in e) in
        omega arith
  ];
  begin = omega arith;
  passed = λ some.
      elim c.if-i-gt0.branch [
        | then-i-gt0+then-left-end-2 w ↦
            ⊎_elim
            (λ (walked : c.loop-t.i < c.loop-i.i). let e = c.loop-i.invariant.back walked in omega arith)
            (λ (still : c.loop-i.i ≤ c.loop-t.i).
            let same : c.loop-i.i ≡ c.loop-t.i = omega (arith, c.loop-i.invariant.from) in
            let at : (c.args.stretch.first + c.loop-i.i) * c.args.stretch.columns.a ≡ (c.args.stretch.first + c.loop-t.i) *
            c.args.stretch.columns.a =
            ap (λ u. (c.args.stretch.first + u) * c.args.stretch.columns.a) same in
            let e = c.loop-t.invariant.passed (omega arith) in
            omega arith)
            (cases_lt c.loop-t.i c.loop-i.i)
        | else-i-gt0 w ↦
            elim w.else-i-gt0.branch [
              | else-i-gt0-via-then-i-gt0+else-left-end-2 v ↦ omega arith
              | else-i-gt0-via-else-i-gt0 v ↦ omega arith
            ]
      ];
  taken = λ i k li lk.
      let s = c.args.stretch in
      let at = c.loop-i.i in
      ⊎_elim
      (λ (before : i < c.loop-t.i).
      TakenOf-passed (c.loop-i.invariant.kept i k li lk (inl before))
      (passed_parts s.first i c.loop-t.i s.columns.from c.loop-t.t s.columns.a s.columns.c before
      (omega (arith, c.loop-t.invariant.passed (omega arith)))))
      (λ (from : c.loop-t.i ≤ i). ⊎_elim
      (λ (here : i < at). c.loop-i.invariant.taken i k from here lk)
      (λ (later : at ≤ i).
      TakenOf-passed (c.loop-i.invariant.kept i k li lk (inr later))
      (later_parts s.first i at s.columns.from c.loop-t.t s.columns.a s.columns.c later
      (elim c.loop-i-test.branch [ then-loop-i-test+else-left-end w ↦ omega arith | else-loop-i-test w ↦ omega arith ])))
      (cases_lt i at))
      (cases_lt i c.loop-t.i);
}
