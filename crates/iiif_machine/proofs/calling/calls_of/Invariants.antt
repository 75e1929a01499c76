use Rattle.std.proofs.Common.{◌≡◌, map}
use Rattle.iiif_machine.specs.Worlds.{call_for, fresh}
use Rattle.iiif_machine.specs.Nodes.{node_of}
use Rattle.iiif_machine.proofs.calling.calls_of.Given as goal

-- the calls so far
abbrev pub invariant-loop-key : goal.invariant-loop-key
invariant-loop-key l = l.calls.items ≡ map fresh (map (call_for l.number (node_of l.node) l.purpose) l.yielded)
