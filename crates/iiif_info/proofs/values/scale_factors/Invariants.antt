use Rattle.std.proofs.Common.{◌≡◌, ℕ, ◌+◌, ◌-◌, ◌*◌, ◌^◌, ◌<◌, map}
use Rattle.std.specs.List.{range_with_len}
use Rattle.iiif_info.proofs.values.scale_factors.Given as goal

abbrev pub invariant-loop-factor : goal.invariant-loop-factor
invariant-loop-factor l = (level : ℕ) × (l.factor ≡ 2 ^ level) × (l.factors.items ≡ map (λ k. 2 ^ k) (range_with_len 0 (level + 1)))
    × (l.edge * l.factor < 2 ^ 33)
    × ((k : ℕ) → k < level → l.edge * 2 ^ k < l.side)

abbrev pub decreases-loop-factor : goal.decreases-loop-factor
decreases-loop-factor l = l.side - l.factor
