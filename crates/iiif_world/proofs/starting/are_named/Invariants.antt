use Rattle.std.proofs.Common.{take}
use Rattle.iiif_machine.specs.Sound.{Each}
use Rattle.iiif_ring.specs.Names.{names_of}
use Rattle.iiif_world.specs.Starting.{IsNamed}
use Rattle.iiif_world.proofs.starting.are_named.Given as goal

-- those so far are
abbrev pub invariant-loop-name : goal.invariant-loop-name
invariant-loop-name l = Each (IsNamed l.setups) (take l.name-index (names_of l.names))
