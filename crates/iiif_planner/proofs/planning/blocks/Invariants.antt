use Rattle.std.proofs.Common.{◌≡◌}
use Rattle.iiif_planner.specs.Items.{block_at}
use Rattle.iiif_planner.proofs.Lines.{squares_before}
use Rattle.iiif_planner.proofs.planning.blocks.Given as goal

abbrev pub invariant-loop-bx : goal.invariant-loop-bx
invariant-loop-bx l = l.keys.items ≡ squares_before (block_at l.name l.edge l.region l.size l.level) l.squares l.bx l.by

abbrev pub invariant-loop-by : goal.invariant-loop-by
invariant-loop-by l = l.keys.items ≡ squares_before (block_at l.name l.edge l.region l.size l.level) l.squares l.squares.left l.by
