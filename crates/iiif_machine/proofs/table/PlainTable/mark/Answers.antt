use Rattle.std.proofs.Common.{◌≡◌, true, Some, sym, ap, ◌∙◌}
use Rattle.std.specs.Prelude.{slice_get}
use Rattle.std.proofs.lemmas.Option.{slice_get-get_or, same_Some}
use Rattle.iiif_tables.specs.Flights.{with_flight}
use Rattle.iiif_machine.specs.Keys.{key_eq}
use Rattle.iiif_machine.specs.Open.{flight_in}
use Rattle.iiif_machine.specs.declared.table.OpenFlight.{OpenFlight}
use Rattle.iiif_machine.proofs.Closing.{there}
use Rattle.iiif_machine.proofs.Marking.{marked, once_marked}
use Rattle.iiif_machine.proofs.table.PlainTable.mark.Goals as goal

pub invariant_of-self : goal.invariant_of-self
invariant_of-self c =
    let fs = c.args.self.now.flights.items in
    let e = c.index_mut.result.now in
    let at : slice_get fs c.args.place ≡ Some e =
    slice_get-get_or fs c.args.place e (there c.args.class c.args.key.now fs c.args.place c.requires) ∙
    ap Some (sym c.index_mut.ensures.value) in
    record { once = once_marked fs c.args.place e at ∙ c.args.self.now.once }

pub returns-clause-flights : goal.returns-clause-flights
returns-clause-flights c f found =
    let fs = c.args.self.now.flights.items in
    let e = c.index_mut.result.now in
    let at : slice_get fs c.args.place ≡ Some e =
    slice_get-get_or fs c.args.place e (there c.args.class c.args.key.now fs c.args.place c.requires) ∙
    ap Some (sym c.index_mut.ensures.value) in
    let same : e ≡ f = same_Some e f (sym at ∙ found) in
    marked c.args.class c.args.key.now fs c.args.place e c.requires at
    ∙ ap (λ (x : OpenFlight). with_flight key_eq c.args.class c.args.key.now (Some (record { ticket = x.ticket; found = true }))
    (flight_in fs)) same
