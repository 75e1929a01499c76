use Rattle.std.proofs.Common.{◌≡◌}
use Rattle.iiif_machine.specs.Steps.{call_stopped}
use Rattle.iiif_machine.proofs.Mixed.{mixed}
use Rattle.iiif_machine.proofs.stopping.stop_calls.Given as goal

-- the first so many have stopped
abbrev pub invariant-loop-call : goal.invariant-loop-call
invariant-loop-call l = l.calls ≡ mixed (call_stopped l.node) l.call-index l.fn.calls
