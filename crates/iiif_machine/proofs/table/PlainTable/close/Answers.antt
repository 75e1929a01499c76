use Rattle.std.proofs.Common.{length, ap, ◌∙◌, arith}
use Rattle.std.proofs.lemmas.List.Edits.{length-remove}
use Rattle.iiif_machine.specs.Open.{are_once, flight_in}
use Rattle.iiif_machine.specs.declared.table.OpenFlight.{OpenFlight}
use Rattle.iiif_machine.proofs.Closing.{closed, once_less, there}
use Rattle.iiif_machine.proofs.table.PlainTable.close.Goals as goal

pub remove-gone-requires : goal.remove-gone-requires
remove-gone-requires c =
    omega (arith, there c.args.class c.args.key.now c.args.self.now.flights.items c.args.place c.requires, c.args.self.now.flights.ok.0)

pub returns-clause-flights : goal.returns-clause-flights
returns-clause-flights c =
    let fs = c.args.self.now.flights.items in
    ap flight_in c.remove-gone.ensures.items ∙ closed c.args.class c.args.key.now fs c.args.place c.requires c.args.self.now.once

pub returns-clause-in_flight : goal.returns-clause-in_flight
returns-clause-in_flight c =
    let fs = c.args.self.now.flights.items in
    let less = there c.args.class c.args.key.now fs c.args.place c.requires in
    omega (arith, ap (length {A = OpenFlight}) c.remove-gone.ensures.items, length-remove fs c.args.place less)

pub invariant_of-self : goal.invariant_of-self
invariant_of-self c =
    record { once = ap are_once c.remove-gone.ensures.items ∙ once_less c.args.self.now.flights.items c.args.place c.args.self.now.once }
