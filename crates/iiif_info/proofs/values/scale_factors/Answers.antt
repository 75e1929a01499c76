use Rattle.std.proofs.Common.{◌≡◌, ℕ, List, ◌+◌, ◌*◌, ◌^◌, ◌<◌, ◌≤◌, [], ◌∷◌, ◌++◌, map, subst, sym, ap, ◌∙◌, arith}
use Rattle.std.specs.List.{range_with_len}
use Rattle.iiif_info.proofs.LevelLemmas.{scale_factors_are, pows_more, pow_more, below_level_more, edge_doubled}
use Rattle.iiif_info.proofs.values.scale_factors.Goals as goal

pub loop-factor-preserved : goal.loop-factor-preserved
loop-factor-preserved c =
    let kept = c.loop-factor.invariant in
    let level : ℕ = kept.0 in
    let factor : ℕ = c.loop-factor.factor in
    let here : c.args.edge * factor < c.args.side =
    omega (arith, c.loop-factor-test.true, c.from-in-loop-factor.ensures, ap (λ n. n * factor) c.from.ensures) in
    let twice : factor * 2 ≡ 2 ^ (level + 1) = ap (λ n. n * 2) kept.1 ∙ sym (pow_more level) in (
      level + 1,
      twice,
      c.in_ok-push-2.ensures.items ∙ ap (λ (t : List ℕ). t ++ (factor * 2) ∷ []) kept.2
          ∙ ap (λ f. map (λ k. 2 ^ k) (range_with_len 0 (level + 1)) ++ f ∷ []) twice ∙ sym (pows_more level),
      omega (arith, here, edge_doubled c.args.edge factor, c.ranges.side.fits),
      below_level_more c.args.edge c.args.side level factor kept.1 here kept.4,
    )

pub returns : goal.returns
returns c =
    let kept = c.loop-factor.invariant in
    let factor : ℕ = c.loop-factor.factor in
    let covered : c.args.side ≤ c.args.edge * factor =
    omega (arith, c.loop-factor-test.false, c.from-in-loop-factor.ensures, ap (λ n. n * factor) c.from.ensures) in
    let side : c.args.side ≤ c.args.edge * 2 ^ kept.0 = subst (λ f. c.args.side ≤ c.args.edge * f) kept.1 covered in
    kept.2 ∙ sym (scale_factors_are c.args.edge c.args.side kept.0 c.requires side kept.4)
