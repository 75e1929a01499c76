use Rattle.std.proofs.Common.{◌+◌, position, sym, ap, ◌∙◌, Some, None}
use Rattle.iiif_machine.specs.Nodes.{table_of}
use Rattle.iiif_machine.specs.Entries.{cache_of}
use Rattle.iiif_machine.specs.Open.{is_named, seen}
use Rattle.iiif_machine.proofs.Opening.{enter_met, flight_found, flight_missing, led_by, led_with, once_by}
use Rattle.iiif_machine.proofs.table.PlainTable.enter_flight.Goals as goal

pub returns-in-Some-clause-ok : goal.returns-in-Some-clause-ok
returns-in-Some-clause-ok c =
    let k = c.args.key.now in
    let fs = c.args.self.now.flights.items in
    let f = c.index.result.now in
    enter_met c.args.class k (table_of c.args.self.now) None (Some (seen f)) c.requires.absent
    (flight_found c.args.class k fs c.in-Some.place f f
    (sym (c.in-Some.ensures ∙ ap (position (is_named c.args.class k)) c.deref.ensures.value)) c.index.ensures)

pub invariant_of-self-in-None : goal.invariant_of-self-in-None
invariant_of-self-in-None c =
    let k = c.args.key.now in
    let fs = c.args.self.now.flights.items in
    let none = flight_missing c.args.class k fs (sym (c.in-None.ensures ∙ ap (position (is_named c.args.class k)) c.deref.ensures.value)) in
    record {
      once = once_by fs c.open.new.flights.items c.args.class k c.in_ok-copy-in-None.copy (c.args.self.now.book.leads + 1)
          c.args.self.now.once none c.in_ok-copy-in-None.ensures c.in_ok-open-in-None.ensures.ok;
    }

pub returns-in_ok-open-in-None-clause-ok : goal.returns-in_ok-open-in-None-clause-ok
returns-in_ok-open-in-None-clause-ok c =
    let k = c.args.key.now in
    let fs = c.args.self.now.flights.items in
    let t = table_of c.args.self.now in
    let n = c.args.self.now.book.leads + 1 in
    let none = flight_missing c.args.class k fs (sym (c.in-None.ensures ∙ ap (position (is_named c.args.class k)) c.deref.ensures.value)) in
    enter_met c.args.class k t None None c.requires.absent none
    ∙ ap (led_with n) (led_by (cache_of c.args.self.now.cache) (record t.book { gets = t.book.gets + 1; leads = t.book.leads + 1 }) fs
    c.open.new.flights.items c.args.class k c.in_ok-copy-in-None.copy n none c.in_ok-copy-in-None.ensures
    c.in_ok-open-in-None.ensures.ok)
