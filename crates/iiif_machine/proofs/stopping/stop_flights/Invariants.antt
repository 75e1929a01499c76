use Rattle.std.proofs.Common.{◌≡◌}
use Rattle.iiif_machine.specs.Steps.{flight_stopped}
use Rattle.iiif_machine.proofs.Mixed.{mixed}
use Rattle.iiif_machine.proofs.stopping.stop_flights.Given as goal

-- the first so many have stopped
abbrev pub invariant-loop-flight : goal.invariant-loop-flight
invariant-loop-flight l = l.flights ≡ mixed (flight_stopped l.node) l.flight-index l.fn.flights
