use Rattle.std.proofs.Common.{ℕ, ◌≤◌, inl, inr}
use Rattle.iiif_planner.specs.Levels.{HoldsImage}
use Rattle.iiif_planner.proofs.LevelLaws.{needed_from_below, not_tested, usable_tested}
use Rattle.iiif_planner.proofs.levels.Scaled.is_usable.Goals as goal
use Rattle.iiif_planner.proofs.levels.Scaled.is_usable.Goals.{then-level-eq0, else-level-eq0}

pub returns-then-needed : goal.returns-then-needed
returns-then-needed c =
    let s = c.args.self in
    let needed : (lower : ℕ) → HoldsImage s.edge s.image lower → c.args.level ≤ lower = elim c.if-level-eq0.branch [
      | then-level-eq0 w ↦ needed_from_below s.edge s.image c.args.level (inl w.if-level-eq0.true)
      | else-level-eq0 w ↦ needed_from_below s.edge s.image c.args.level
          (inr (λ h. not_tested c.if-level-eq0.needed w.holds_image.result w.needed-is c.if-needed.true (w.holds_image.ensures.1 h)))
    ] in
    usable_tested s.edge s.image s.region s.size s.channels s.room c.args.level c.sums_at_most.result c.requires.level needed
    c.sums_at_most.ensures
