use Rattle.std.proofs.Common.{◌≡◌, true, None, Some, option_map, position, sym, ap, subst, ◌∙◌}
use Rattle.std.specs.Prelude.{◌==◌, slice_get}
use Rattle.std.proofs.lemmas.Bool.{ne_eqb}
use Rattle.std.proofs.lemmas.Option.{slice_get-get_or}
use Rattle.iiif_tables.specs.Flights as tables
use Rattle.iiif_machine.specs.Keys.{key_eq}
use Rattle.iiif_machine.proofs.KeyParts.{eq_same}
use Rattle.iiif_machine.specs.Nodes.{table_of}
use Rattle.iiif_machine.specs.Open.{is_named, seen, flight_in}
use Rattle.iiif_machine.specs.Entries.{kept_of}
use Rattle.iiif_machine.proofs.Closing.{there}
use Rattle.iiif_machine.proofs.Opening.{flight_found, flight_missing}
use Rattle.iiif_machine.proofs.Marking.{again_missing, again_other, again_by, found_by}
use Rattle.iiif_machine.proofs.table.PlainTable.again.Goals as goal

pub returns-in_default-clause-ok : goal.returns-in_default-clause-ok
returns-in_default-clause-ok c =
    let k = c.args.key.now in
    let fs = c.args.self.now.flights.items in
    again_missing c.args.class k c.args.ticket (table_of c.args.self.now)
    (flight_missing c.args.class k fs (sym (c.in_default.ensures ∙ ap (position (is_named c.args.class k)) c.deref.ensures.value)))

pub returns-then-index-ticket-clause-ok : goal.returns-then-index-ticket-clause-ok
returns-then-index-ticket-clause-ok c =
    let k = c.args.key.now in
    let fs = c.args.self.now.flights.items in
    let e = c.index.result.now in
    again_other c.args.class k c.args.ticket (table_of c.args.self.now) (seen e)
    (flight_found c.args.class k fs c.in-Some.place e e
    (sym (c.in-Some.ensures ∙ ap (position (is_named c.args.class k)) c.deref.ensures.value)) c.index.ensures)
    (ne_eqb e.ticket c.args.ticket c.if-index-ticket.true)

pub returns-in-None-clause-ok : goal.returns-in-None-clause-ok
returns-in-None-clause-ok c =
    let k = c.args.key.now in
    let fs = c.args.self.now.flights.items in
    let e = c.index.result.now in
    again_by c.args.class k c.args.ticket (table_of c.args.self.now) (seen e) None
    (flight_found c.args.class k fs c.in-Some.place e e
    (sym (c.in-Some.ensures ∙ ap (position (is_named c.args.class k)) c.deref.ensures.value)) c.index.ensures)
    (subst (λ n. (e.ticket == n) ≡ true) c.if-index-ticket.false (eq_same e.ticket))
    (sym c.in_ok-kept.ensures ∙ ap (option_map kept_of) c.in-None.is)

pub returns-in-Some-2-clause-ok : goal.returns-in-Some-2-clause-ok
returns-in-Some-2-clause-ok c =
    let k = c.args.key.now in
    let fs = c.args.self.now.flights.items in
    let e = c.index.result.now in
    let t = table_of c.args.self.now in
    let at = sym (c.in-Some.ensures ∙ ap (position (is_named c.args.class k)) c.deref.ensures.value) in
    let row : slice_get fs c.in-Some.place ≡ Some e = slice_get-get_or fs c.in-Some.place e (there c.args.class k fs c.in-Some.place at) ∙
    ap Some (sym c.index.ensures) in
    again_by c.args.class k c.args.ticket t (seen e) (Some (kept_of c.in-Some-2.found))
    (flight_found c.args.class k fs c.in-Some.place e e at c.index.ensures)
    (subst (λ n. (e.ticket == n) ≡ true) c.if-index-ticket.false (eq_same e.ticket))
    (sym c.in_ok-kept.ensures ∙ ap (option_map kept_of) c.in-Some-2.is)
    ∙ found_by c.in-Some-2.found.value (table_of c.mark.new.self) _ _ _ _
    (c.mark.ensures.rest.0 ∙ c.touch.ensures)
    (c.mark.ensures.flights e row ∙ ap (λ n. tables.with_flight key_eq c.args.class k (Some (record { ticket = n; found = true }))
    (flight_in fs)) c.if-index-ticket.false)
    c.mark.ensures.in_flight c.mark.ensures.rest.1
