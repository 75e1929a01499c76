use Rattle.std.proofs.Common.{◌≡◌, Some, None, true, false, option_map, refl, sym, ap, ◌∙◌, subst, rules}
use Rattle.std.specs.Result.{ForOk}
use Rattle.std.specs.Arc.{arc_value}
use Rattle.iiif_tables.specs.Cache.{kept_for, touch}
use Rattle.iiif_tables.specs.Flights.{again, looking, has_ticket}
use Rattle.iiif_outcome.specs.Outcomes.{value_of}
use Rattle.iiif_outcome.specs.Views.{entry_known, is_of, kept_of, lead_class, lead_key, lead_ticket}
use Rattle.iiif_byte_cache.specs.View.{cache_of}
use Rattle.iiif_singleflight.specs.Seen.{with_at, each_of, the_flight, the_cell, found_of}
use Rattle.iiif_singleflight.specs.Held.{open_at}
use Rattle.iiif_singleflight.specs.View.{table_of}
use Rattle.iiif_singleflight.proofs.Functions.{each-with, with-same}
use Rattle.iiif_singleflight.proofs.Known.{known_key, value_has}
use Rattle.iiif_singleflight.proofs.Laws.{again-open, again-away, at_some, if_some, same_table, some_of, ticket_of}
use Rattle.iiif_singleflight.proofs.table.Table.again.Goals as goal

pub returns-then-not-is_open-clause-table : goal.returns-then-not-is_open-clause-table
returns-then-not-is_open-clause-table g c =
    let t = c.args.self.now in
    let eq = g.K.PartialEq.eq in
    let l = c.args.lead.now in
    let k = c.key-key.result.now in
    let cl = c.class-class.result in
    let n = c.ticket.result in
    let key : k ≡ lead_key l = c.key-key.ensures in
    let class : cl ≡ lead_class l = c.class-class.ensures in
    let ticket : n ≡ lead_ticket l = c.ticket.ensures in
    let plain = table_of eq t in
    let no : c.is_open.result ≡ false = search rules in
    let met = again-away eq cl k plain n (sym c.is_open.ensures ∙ no) in
    rw (← key, ← class, ← ticket, met) refl

pub returns-then-not-is_open-clause-found : goal.returns-then-not-is_open-clause-found
returns-then-not-is_open-clause-found g c =
    let t = c.args.self.now in
    let eq = g.K.PartialEq.eq in
    let l = c.args.lead.now in
    let k = c.key-key.result.now in
    let cl = c.class-class.result in
    let n = c.ticket.result in
    let key : k ≡ lead_key l = c.key-key.ensures in
    let class : cl ≡ lead_class l = c.class-class.ensures in
    let ticket : n ≡ lead_ticket l = c.ticket.ensures in
    let plain = table_of eq t in
    let no : c.is_open.result ≡ false = search rules in
    let met = again-away eq cl k plain n (sym c.is_open.ensures ∙ no) in
    rw (← key, ← class, ← ticket, met) refl

pub returns-in_default-clause-table : goal.returns-in_default-clause-table
returns-in_default-clause-table g c =
    let t = c.args.self.now in
    let eq = g.K.PartialEq.eq in
    let l = c.args.lead.now in
    let k = c.key-key.result.now in
    let cl = c.class-class.result in
    let n = c.ticket.result in
    let key : k ≡ lead_key l = c.key-key.ensures in
    let class : cl ≡ lead_class l = c.class-class.ensures in
    let ticket : n ≡ lead_ticket l = c.ticket.ensures in
    let plain = table_of eq t in
    let yes : c.is_open.result ≡ true = search rules in
    let here : has_ticket n (plain.flights cl k) ≡ true = sym c.is_open.ensures ∙ yes in
    let none : kept_for eq k (cache_of t.cache) ≡ None = sym c.in_ok-entry.ensures.told ∙ ap (option_map kept_of) c.in_default.is in
    let met : again eq cl k n plain ≡ (None, plain) = again-open eq cl k plain n here ∙ ap (λ x. looking eq cl k n x plain) none in
    rw (← key, ← class, ← ticket, met, c.in_ok-entry.ensures.same) refl

pub returns-in_default-clause-found : goal.returns-in_default-clause-found
returns-in_default-clause-found g c =
    let t = c.args.self.now in
    let eq = g.K.PartialEq.eq in
    let l = c.args.lead.now in
    let k = c.key-key.result.now in
    let cl = c.class-class.result in
    let n = c.ticket.result in
    let key : k ≡ lead_key l = c.key-key.ensures in
    let class : cl ≡ lead_class l = c.class-class.ensures in
    let ticket : n ≡ lead_ticket l = c.ticket.ensures in
    let plain = table_of eq t in
    let yes : c.is_open.result ≡ true = search rules in
    let here : has_ticket n (plain.flights cl k) ≡ true = sym c.is_open.ensures ∙ yes in
    let none : kept_for eq k (cache_of t.cache) ≡ None = sym c.in_ok-entry.ensures.told ∙ ap (option_map kept_of) c.in_default.is in
    let met : again eq cl k n plain ≡ (None, plain) = again-open eq cl k plain n here ∙ ap (λ x. looking eq cl k n x plain) none in
    rw (← key, ← class, ← ticket, met) refl

pub returns-clause-table : goal.returns-clause-table
returns-clause-table g c =
    let t = c.args.self.now in
    let eq = g.K.PartialEq.eq in
    let l = c.args.lead.now in
    let k = c.key-key.result.now in
    let cl = c.class-class.result in
    let n = c.ticket.result in
    let key : k ≡ lead_key l = c.key-key.ensures in
    let class : cl ≡ lead_class l = c.class-class.ensures in
    let ticket : n ≡ lead_ticket l = c.ticket.ensures in
    let plain = table_of eq t in
    let yes : c.is_open.result ≡ true = search rules in
    let here : has_ticket n (plain.flights cl k) ≡ true = sym c.is_open.ensures ∙ yes in
    let e = kept_of c.in-Some.entry in
    let is : kept_for eq k (cache_of t.cache) ≡ Some e = sym c.in_ok-entry.ensures.told ∙ ap (option_map kept_of) c.in-Some.is in
    let met = again-open eq cl k plain n here ∙ ap (λ x. looking eq cl k n x plain) is in
    let cache : cache_of c.touch.new.self ≡ touch eq k (cache_of t.cache) = c.touch.ensures ∙ ap (touch eq k) c.in_ok-entry.ensures.same in
    let s = ticket_of n (open_at eq t.opens cl k) here in
    let marked : open_at eq c.mark.new.self ≡ with_at eq cl k (Some (found_of s.0)) (open_at eq t.opens) =
    rw s.1 at c.mark.ensures.marked in
    let q = ap (each_of the_flight) marked ∙ (each-with eq cl k the_flight (Some (found_of s.0)) (open_at eq t.opens) ∙
    ap (λ x. with_at eq cl k (Some (record { ticket = x; found = true })) (each_of the_flight (open_at eq t.opens))) s.2) in
    rw (← key, ← class, ← ticket) (same_table t.book cache q c.mark.ensures.in_flight ∙ sym (ap (λ x. x.1) met))

pub returns-clause-found : goal.returns-clause-found
returns-clause-found g c =
    let t = c.args.self.now in
    let eq = g.K.PartialEq.eq in
    let l = c.args.lead.now in
    let k = c.key-key.result.now in
    let cl = c.class-class.result in
    let n = c.ticket.result in
    let key : k ≡ lead_key l = c.key-key.ensures in
    let class : cl ≡ lead_class l = c.class-class.ensures in
    let ticket : n ≡ lead_ticket l = c.ticket.ensures in
    let plain = table_of eq t in
    let yes : c.is_open.result ≡ true = search rules in
    let here : has_ticket n (plain.flights cl k) ≡ true = sym c.is_open.ensures ∙ yes in
    let e = kept_of c.in-Some.entry in
    let is : kept_for eq k (cache_of t.cache) ≡ Some e = sym c.in_ok-entry.ensures.told ∙ ap (option_map kept_of) c.in-Some.is in
    let met = again-open eq cl k plain n here ∙ ap (λ x. looking eq cl k n x plain) is in
    rw (← key, ← class, ← ticket, met, c.into_value.ensures) refl

pub returns-clause-meant : goal.returns-clause-meant
returns-clause-meant g c =
    let t = c.args.self.now in
    let eq = g.K.PartialEq.eq in
    let l = c.args.lead.now in
    let k = c.key-key.result.now in
    let cl = c.class-class.result in
    let n = c.ticket.result in
    let key : k ≡ lead_key l = c.key-key.ensures in
    let class : cl ≡ lead_class l = c.class-class.ensures in
    let ticket : n ≡ lead_ticket l = c.ticket.ensures in
    let plain = table_of eq t in
    let h = c.in-Some.entry in
    let of : is_of eq k h ≡ true = at_some _ h (λ e. is_of eq k e ≡ true) c.in-Some.is c.in_ok-entry.ensures.of_key in
    let o = entry_known h in
    let x = some_of o h.receipt.known in
    let own : arc_value x.0.key ≡ k = at_some o x.0 (λ y. arc_value y.key ≡ k) x.1 (known_key eq g.met.K.CacheKey.identical k o of) in
    let holds = at_some o x.0 (λ y. value_of y.outcome ≡ Some (kept_of h).value) x.1 (if_some o _ h.holds) in
    let m = g.K.CacheKey.meaning g.J.System.pictures in
    λ stable honest.
    let fact = subst (λ q. g.J.System.stable (g.K.CacheKey.name_of q) → g.J.System.honest ≡ true →
    ForOk x.0.outcome (λ v. arc_value v ≡ m q)) (own ∙ key) x.0.meant stable honest in
    c.into_value.ensures ∙ value_has x.0.outcome (kept_of h).value (λ v. v ≡ m (lead_key l)) fact holds

pub returns-clause-shaped : goal.returns-clause-shaped
returns-clause-shaped g c =
    let t = c.args.self.now in
    let eq = g.K.PartialEq.eq in
    let l = c.args.lead.now in
    let k = c.key-key.result.now in
    let cl = c.class-class.result in
    let n = c.ticket.result in
    let key : k ≡ lead_key l = c.key-key.ensures in
    let class : cl ≡ lead_class l = c.class-class.ensures in
    let ticket : n ≡ lead_ticket l = c.ticket.ensures in
    let plain = table_of eq t in
    let h = c.in-Some.entry in
    let of : is_of eq k h ≡ true = at_some _ h (λ e. is_of eq k e ≡ true) c.in-Some.is c.in_ok-entry.ensures.of_key in
    let o = entry_known h in
    let x = some_of o h.receipt.known in
    let own : arc_value x.0.key ≡ k = at_some o x.0 (λ y. arc_value y.key ≡ k) x.1 (known_key eq g.met.K.CacheKey.identical k o of) in
    let holds = at_some o x.0 (λ y. value_of y.outcome ≡ Some (kept_of h).value) x.1 (if_some o _ h.holds) in
    let test = g.K.CacheKey.is_shaped g.J.System.pictures in
    let fact = subst (λ q. ForOk x.0.outcome (λ v. test q (arc_value v) ≡ true)) (own ∙ key) x.0.shaped in
    subst (λ v. test (lead_key l) v ≡ true) (sym c.into_value.ensures)
    (value_has x.0.outcome (kept_of h).value (λ v. test (lead_key l) v ≡ true) fact holds)

pub returns-clause-cells : goal.returns-clause-cells
returns-clause-cells g c =
    let t = c.args.self.now in
    let eq = g.K.PartialEq.eq in
    let l = c.args.lead.now in
    let k = c.key-key.result.now in
    let cl = c.class-class.result in
    let n = c.ticket.result in
    let key : k ≡ lead_key l = c.key-key.ensures in
    let class : cl ≡ lead_class l = c.class-class.ensures in
    let ticket : n ≡ lead_ticket l = c.ticket.ensures in
    let plain = table_of eq t in
    let yes : c.is_open.result ≡ true = search rules in
    let here : has_ticket n (plain.flights cl k) ≡ true = sym c.is_open.ensures ∙ yes in
    let s = ticket_of n (open_at eq t.opens cl k) here in
    let marked : open_at eq c.mark.new.self ≡ with_at eq cl k (Some (found_of s.0)) (open_at eq t.opens) =
    rw s.1 at c.mark.ensures.marked in
    let old : each_of the_cell (open_at eq t.opens) cl k ≡ Some s.0.cell = ap (option_map the_cell) s.1 in
    ap (each_of the_cell) marked ∙ (each-with eq cl k the_cell (Some (found_of s.0)) (open_at eq t.opens) ∙
    with-same eq g.met.K.CacheKey.identical cl k (Some s.0.cell) (each_of the_cell (open_at eq t.opens)) old)
