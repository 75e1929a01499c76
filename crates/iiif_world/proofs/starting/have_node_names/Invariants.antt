use Rattle.std.proofs.Common.{take}
use Rattle.iiif_machine.specs.Sound.{Each}
use Rattle.iiif_world.specs.Starting.{HasNodeName}
use Rattle.iiif_world.proofs.starting.have_node_names.Given as goal

-- those so far do
abbrev pub invariant-loop-setup : goal.invariant-loop-setup
invariant-loop-setup l = Each HasNodeName (take l.setup-index l.setups)
