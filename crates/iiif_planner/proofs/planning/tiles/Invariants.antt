use Rattle.std.proofs.Common.{◌≡◌}
use Rattle.iiif_planner.specs.Items.{tile_at}
use Rattle.iiif_planner.proofs.Lines.{squares_before}
use Rattle.iiif_planner.proofs.planning.tiles.Given as goal

abbrev pub invariant-loop-tx : goal.invariant-loop-tx
invariant-loop-tx l = l.keys.items ≡ squares_before (tile_at l.name l.edge) l.squares l.tx l.ty

abbrev pub invariant-loop-ty : goal.invariant-loop-ty
invariant-loop-ty l = l.keys.items ≡ squares_before (tile_at l.name l.edge) l.squares l.squares.left l.ty
