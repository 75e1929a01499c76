use Rattle.std.proofs.Common.{◌≡◌, ℕ, ◌+◌, ◌*◌, ◌≤◌, get_or, ap, ◌∙◌, inl, inr, arith}
use Rattle.std.proofs.lemmas.Bool.{cases_lt}
use Rattle.std.proofs.lemmas.Nat.{mul-le}
use Rattle.iiif_pixel.proofs.fills.copy_row.Goals as goal

pub loop-x-preserved : goal.loop-x-preserved
loop-x-preserved g c =
    let n = g.row.C in
    let i = c.loop-x.x in
    let end : i * n + n ≤ c.args.w * n = omega (arith, mul-le (i + 1) n c.args.w n (omega arith) (omega arith)) in
    record {
      here = λ d x k lx lk. elim (cases_lt x i) [
        | inl before ↦
            let apart : x * n + n ≤ i * n = omega (arith, mul-le (x + 1) n i n (omega arith) (omega arith)) in
            c.copy_place.ensures.others d (c.args.to + (x * n + k)) (inl (omega arith)) ∙ c.loop-x.invariant.here d x k before lk
        | inr behind ↦
            let same : x ≡ i = omega arith in
            rw same
            (ap (λ (j : ℕ). get_or c.copy_place.new.dst j d) (omega arith)
            ∙ c.copy_place.ensures.here d k lk
            ∙ ap (λ (j : ℕ). get_or c.args.src.now j d) (omega arith))
      ];
      others = λ d j outside. c.copy_place.ensures.others d j (elim outside [
        | inl before ↦ inl (omega arith)
        | inr behind ↦ inr (omega arith)
      ]) ∙ c.loop-x.invariant.others d j outside;
    }
