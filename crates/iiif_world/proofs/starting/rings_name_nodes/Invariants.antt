use Rattle.std.proofs.Common.{◌<◌, length, take}
use Rattle.iiif_machine.specs.Sound.{Each}
use Rattle.iiif_world.specs.Starting.{IsNamed}
use Rattle.iiif_world.proofs.starting.rings_name_nodes.Given as goal

-- those so far do
abbrev pub invariant-loop-setup : goal.invariant-loop-setup
invariant-loop-setup l = Each (λ s. (0 < length s.ring) × Each (IsNamed l.setups) s.ring) (take l.setup-index l.setups)
