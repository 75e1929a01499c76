use Rattle.std.proofs.Common.{◌≡◌}
use Rattle.iiif_planner.specs.Code.{place_among}
use Rattle.iiif_planner.proofs.Lines.{squares_before}
use Rattle.iiif_planner.proofs.banding.squares_in.Given as goal

abbrev pub invariant-loop-column : goal.invariant-loop-column
invariant-loop-column l = l.items.items ≡ squares_before (place_among l.all) l.some l.column l.row

abbrev pub invariant-loop-row : goal.invariant-loop-row
invariant-loop-row l = l.items.items ≡ squares_before (place_among l.all) l.some l.some.left l.row
