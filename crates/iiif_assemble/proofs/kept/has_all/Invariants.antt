use Rattle.std.proofs.Common.{take}
use Rattle.iiif_assemble.specs.Kept.{HasAll}
use Rattle.iiif_assemble.proofs.kept.has_all.Given as goal

-- the items so far
abbrev pub invariant-loop-item : goal.invariant-loop-item
invariant-loop-item l = HasAll l.keys (take l.item-index l.items) l.kept
