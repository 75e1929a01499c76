use Rattle.std.proofs.Common.{ℕ, ◌≤◌}
use Rattle.iiif_planner.specs.Levels.{IsUsable}
use Rattle.iiif_planner.proofs.levels.Scaled.level.Given as goal

abbrev pub invariant-loop-level : goal.invariant-loop-level
invariant-loop-level l = (other : ℕ) → l.level ≤ other →
    ¬ (IsUsable l.self.edge l.self.image l.self.region l.self.size l.self.channels l.self.room other)
