use Rattle.std.proofs.Common.{◌≡◌, true, Some, position, refl, sym, ap, subst, ◌∙◌}
use Rattle.std.specs.Prelude.{◌==◌}
use Rattle.std.proofs.lemmas.Bool.{ne_eqb}
use Rattle.iiif_tables.specs.Flights as tables
use Rattle.iiif_machine.specs.Keys.{entry_size, key_eq}
use Rattle.iiif_machine.proofs.KeyParts.{eq_same}
use Rattle.std.proofs.lemmas.Option.{slice_get-get_or, same_Some}
use Rattle.iiif_tables.specs.declared.table.Book.{Book}
use Rattle.iiif_machine.specs.Tables.{Table}
use Rattle.iiif_machine.specs.declared.table.OpenFlight.{OpenFlight}
use Rattle.iiif_machine.proofs.Closing.{there}
use Rattle.iiif_machine.specs.Nodes.{table_of}
use Rattle.iiif_machine.specs.Open.{is_named, seen}
use Rattle.iiif_machine.proofs.Opening.{flight_found, flight_missing}
use Rattle.iiif_machine.proofs.Landed.{land_missing, land_other, land_by, land_parts}
use Rattle.iiif_machine.proofs.table.PlainTable.land.Goals as goal

pub returns-in_default-clause-ok : goal.returns-in_default-clause-ok
returns-in_default-clause-ok c =
    let k = c.args.key.now in
    let fs = c.args.self.now.flights.items in
    land_missing c.args.retention.keep c.args.class k c.args.ticket c.args.value c.args.retention.place (table_of c.args.self.now)
    (flight_missing c.args.class k fs (sym (c.in_default.ensures ∙ ap (position (is_named c.args.class k)) c.deref.ensures.value)))

pub returns-then-index-ticket-clause-ok : goal.returns-then-index-ticket-clause-ok
returns-then-index-ticket-clause-ok c =
    let k = c.args.key.now in
    let fs = c.args.self.now.flights.items in
    let e = c.index.result.now in
    land_other c.args.retention.keep c.args.class k c.args.ticket c.args.value c.args.retention.place (table_of c.args.self.now) (seen e)
    (flight_found c.args.class k fs c.in-Some.at e e
    (sym (c.in-Some.ensures ∙ ap (position (is_named c.args.class k)) c.deref.ensures.value)) c.index.ensures)
    (ne_eqb e.ticket c.args.ticket c.if-index-ticket.true)

pub returns-clause-ok : goal.returns-clause-ok
returns-clause-ok c =
    let k = c.args.key.now in
    let fs = c.args.self.now.flights.items in
    let e = c.index.result.now in
    let t = table_of c.args.self.now in
    let at = sym (c.in-Some.ensures ∙ ap (position (is_named c.args.class k)) c.deref.ensures.value) in
    let last = land_by c.args.retention.keep c.args.class k c.args.ticket c.args.value c.args.retention.place t (seen e)
    (flight_found c.args.class k fs c.in-Some.at e e at c.index.ensures)
    (subst (λ n. (e.ticket == n) ≡ true) c.if-index-ticket.false (eq_same e.ticket)) in
    let less = there c.args.class k fs c.in-Some.at at in
    let other = c.index-2.result.now in
    let same : other ≡ e = same_Some other e (sym (slice_get-get_or fs c.in-Some.at other less ∙ ap Some (sym c.index-2.ensures)) ∙
    slice_get-get_or fs c.in-Some.at e less ∙ ap Some (sym c.index.ensures)) in
    let counts : c.in-Some-counted.book ≡ tables.counting e.found c.args.value c.args.retention.place t.book =
    c.in-Some-counted.ensures ∙ ap (λ (f : OpenFlight). tables.counting f.found c.args.value c.args.retention.place t.book) same in
    let u : Table = record (table_of c.close.new.self) { book = c.in-Some-counted.book } in
    land_parts c.args.retention.keep c.args.class k c.args.ticket c.args.value c.args.retention.place t u c.in-Some-counted.book
    (c.close.ensures.rest.0 ∙ c.in_ok-keep.ensures.ok) c.close.ensures.flights c.close.ensures.in_flight refl
    ∙ ap (λ (b : Book). tables.landing key_eq entry_size c.args.retention.keep c.args.class k c.args.ticket c.args.value
    c.args.retention.place b t) counts
    ∙ sym last
