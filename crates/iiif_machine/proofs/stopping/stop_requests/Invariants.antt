use Rattle.std.proofs.Common.{◌≡◌}
use Rattle.iiif_machine.specs.Steps.{request_stopped}
use Rattle.iiif_machine.proofs.Mixed.{mixed}
use Rattle.iiif_machine.proofs.stopping.stop_requests.Given as goal

-- the first so many have stopped
abbrev pub invariant-loop-request : goal.invariant-loop-request
invariant-loop-request l = l.requests ≡ mixed (request_stopped l.node) l.request-index l.fn.requests
