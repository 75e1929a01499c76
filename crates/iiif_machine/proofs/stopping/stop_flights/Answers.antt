use Rattle.std.proofs.Common.{arith, sym, ap, ◌∙◌}
use Rattle.iiif_machine.specs.Steps.{flight_stopped}
use Rattle.iiif_machine.proofs.Mixed.{mixed_step, mixed_done}
use Rattle.iiif_machine.proofs.stopping.stop_flights.Goals as goal

pub loop-flight-preserved : goal.loop-flight-preserved
loop-flight-preserved c =
    mixed_step (flight_stopped c.args.node) c.args.flights.now c.loop-flight.flights c.loop-flight.flight-index c.flight-item.result
    c.stop_flight.new.flight
    c.loop-flight.invariant (omega arith) c.flight-item.is (c.stop_flight.ensures ∙ ap (flight_stopped c.args.node) (sym c.flight-item.is))

pub returns : goal.returns
returns c = mixed_done (flight_stopped c.args.node) c.args.flights.now c.loop-flight.flights c.loop-flight.flight-index
    c.loop-flight.invariant (omega arith)
