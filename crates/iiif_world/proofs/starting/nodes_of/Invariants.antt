use Rattle.std.proofs.Common.{◌≡◌, map}
use Rattle.iiif_machine.specs.Nodes.{node_of}
use Rattle.iiif_world.specs.Starting.{node_for}
use Rattle.iiif_world.proofs.starting.nodes_of.Given as goal

-- the nodes so far
abbrev pub invariant-loop-setup : goal.invariant-loop-setup
invariant-loop-setup l = map node_of l.nodes.items ≡ map node_for l.yielded
