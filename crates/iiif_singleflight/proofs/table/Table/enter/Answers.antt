use Rattle.std.proofs.Common.{◌≡◌, ◌+◌, Some, None, true, false, option_map, IfSome, refl, sym, ap, ◌∙◌, subst, arith, rules}
use Rattle.std.specs.Arc.{arc_value}
use Rattle.iiif_tables.specs.Cache.{kept_for, touch}
use Rattle.iiif_singleflight.specs.Seen.{Seen, with_at, each_of, the_flight, the_cell}
use Rattle.iiif_singleflight.specs.Held.{open_at}
use Rattle.iiif_singleflight.proofs.Functions.{each-with}
use Rattle.iiif_outcome.specs.Outcomes.{value_of}
use Rattle.iiif_outcome.specs.Views.{kept_of, is_of, is_known_for, receipt_known, flight_key, flight_ticket, flight_cell, lead_cell}
use Rattle.std.specs.Result.{ForOk}
use Rattle.std.proofs.lemmas.Result.{IfOk-at_ok}
use Rattle.iiif_byte_cache.specs.View.{cache_of}
use Rattle.iiif_singleflight.specs.View.{table_of}
use Rattle.iiif_singleflight.proofs.Laws.{enter-hit, enter-joined, enter-led, if_some, some_of, same_table, at_some}
use Rattle.iiif_singleflight.proofs.Known.{known_key, value_meant}
use Rattle.iiif_singleflight.proofs.table.Table.enter.Goals as goal

pub invariant_of-self-in-Some : goal.invariant_of-self-in-Some
invariant_of-self-in-Some g c =
    let t = c.args.self.now in
    record {
      sums = record {
        gets = omega (arith, t.sums.gets);
        landed = t.sums.landed;
        leads = t.sums.leads;
        faults = t.sums.faults;
        peer =
            t.sums.peer;
      };
      counted = omega (arith, t.counted, c.count.ensures.total);
    }

pub open-requires : goal.open-requires
open-requires g c = ap (λ m. m c.args.class c.args.key.now) c.in_default-join.ensures.same ∙ c.in_default-join.ensures.none

pub returns-in-Some : goal.returns-in-Some
returns-in-Some g c =
    let known : IfSome (receipt_known c.into_receipt.result) (λ x. arc_value x.key ≡ c.args.key.now) = (
    let h = c.in-Some.hit in
    let r = c.into_receipt.result in
    let of : is_of g.K.PartialEq.eq c.args.key.now h ≡ true =
    at_some _ h (λ e. is_of g.K.PartialEq.eq c.args.key.now e ≡ true) c.in-Some.is c.in_ok-hit.ensures.of_key in
    let own : is_known_for g.K.PartialEq.eq c.args.key.now (receipt_known r) ≡ true =
    ap (is_known_for g.K.PartialEq.eq c.args.key.now) c.into_receipt.ensures.same.0 ∙ of in
    known_key g.K.PartialEq.eq g.met.K.CacheKey.identical c.args.key.now (receipt_known r) own
    ) in
    record {
      table = (
          let t = c.args.self.now in
          let cache : cache_of c.touch.new.self ≡ touch g.K.PartialEq.eq c.args.key.now (cache_of t.cache) = c.touch.ensures ∙
          ap (touch g.K.PartialEq.eq c.args.key.now) c.in_ok-hit.ensures.same in
          let is : kept_for g.K.PartialEq.eq c.args.key.now (cache_of t.cache) ≡ Some (kept_of c.in-Some.hit) = sym
          c.in_ok-hit.ensures.told ∙
          ap (option_map kept_of) c.in-Some.is in
          rw (enter-hit g.K.PartialEq.eq c.args.class c.args.key.now (table_of g.K.PartialEq.eq t) (kept_of c.in-Some.hit) is, cache) refl
          );
      met = (
          let t = c.args.self.now in
          let is : kept_for g.K.PartialEq.eq c.args.key.now (cache_of t.cache) ≡ Some (kept_of c.in-Some.hit) = sym
          c.in_ok-hit.ensures.told ∙
          ap (option_map kept_of) c.in-Some.is in
          let met = enter-hit g.K.PartialEq.eq c.args.class c.args.key.now (table_of g.K.PartialEq.eq t) (kept_of c.in-Some.hit) is in (
            kept_of c.in-Some.hit,
            ap (λ p. p.0) met,
            c.into_receipt.ensures.same.1,
            if_some (receipt_known c.into_receipt.result) (λ x. value_of x.outcome ≡ Some (kept_of c.in-Some.hit).value)
                c.into_receipt.ensures.holds,
          )
          );
      known = known;
      meant = λ premise.
          let k = c.args.key.now in
          let h = c.in-Some.hit in
          let r = c.into_receipt.result in
          let o = receipt_known r in
          let x = some_of o r.known in
          let key = at_some o x.0 (λ y. arc_value y.key ≡ k) x.1 known in
          let m = g.K.CacheKey.meaning g.J.System.pictures in
          let fact = subst (λ q. g.J.System.stable (g.K.CacheKey.name_of q) → g.J.System.honest ≡ true →
          ForOk x.0.outcome (λ v. arc_value v ≡ m q)) key x.0.meant premise.0 premise.1 in
          let holds = at_some o x.0 (λ y. value_of y.outcome ≡ Some (kept_of h).value) x.1 (if_some o _ c.into_receipt.ensures.holds) in
          subst (λ p. IfSome p (λ y. value_of y.outcome ≡ Some (m k))) (sym x.1) (value_meant x.0.outcome (kept_of h).value (m k) fact
          holds);
      shaped = (
          let k = c.args.key.now in
          let r = c.into_receipt.result in
          let o = receipt_known r in
          let x = some_of o r.known in
          let key = at_some o x.0 (λ y. arc_value y.key ≡ k) x.1 known in
          let test = g.K.CacheKey.is_shaped g.J.System.pictures in
          let fact = subst (λ q. ForOk x.0.outcome (λ v. test q (arc_value v) ≡ true)) key x.0.shaped in
          subst (λ p. IfSome p (λ y. ForOk y.outcome (λ v. test k (arc_value v) ≡ true))) (sym x.1) fact
          );
      cells = search rules;
      pass = search rules;
      err = tt;
    }

pub returns-in-Some-join : goal.returns-in-Some-join
returns-in-Some-join g c = record {
  table = (
      let t = c.args.self.now in
      let eq = g.K.PartialEq.eq in
      let k = c.args.key.now in
      let plain = table_of eq t in
      let none : kept_for eq k (cache_of t.cache) ≡ None = sym c.in_ok-hit.ensures.told ∙ ap (option_map kept_of) c.in_default.is in
      let s = some_of (open_at eq t.opens c.args.class k) c.in-Some-join.ensures.none in
      let flights : plain.flights c.args.class k ≡ Some (the_flight s.0) = ap (option_map the_flight) s.1 in
      let met = enter-joined eq c.args.class k plain (the_flight s.0) none flights in
      same_table (record t.book { gets = t.book.gets + 1; joins = t.book.joins + 1 }) c.in_ok-hit.ensures.same
      (ap (each_of the_flight) c.in-Some-join.ensures.same) c.in-Some-join.ensures.in_flight ∙ sym (ap (λ x. x.1) met)
      );
  met = (
      let t = c.args.self.now in
      let eq = g.K.PartialEq.eq in
      let k = c.args.key.now in
      let plain = table_of eq t in
      let none : kept_for eq k (cache_of t.cache) ≡ None = sym c.in_ok-hit.ensures.told ∙ ap (option_map kept_of) c.in_default.is in
      let s = some_of (open_at eq t.opens c.args.class k) c.in-Some-join.ensures.none in
      let flights : plain.flights c.args.class k ≡ Some (the_flight s.0) = ap (option_map the_flight) s.1 in
      let met = enter-joined eq c.args.class k plain (the_flight s.0) none flights in
      let told = IfOk-at_ok (λ f. IfSome (open_at eq t.opens c.args.class k)
      (λ s. (flight_ticket f ≡ s.flight.ticket) × (flight_cell f ≡ s.cell))) c.in_ok-flight.was c.in-Some-join.ensures.joined in
      let both = at_some (open_at eq t.opens c.args.class k) s.0
      (λ s. (flight_ticket c.in_ok-flight.flight ≡ s.flight.ticket) × (flight_cell c.in_ok-flight.flight ≡ s.cell)) s.1 told in
      let ticket : flight_ticket c.in_ok-flight.flight ≡ s.0.flight.ticket = both.0 in
      let key = IfOk-at_ok (λ f. flight_key f ≡ k) c.in_ok-flight.was c.in-Some-join.ensures.key in
      (rw (met, ticket) refl, key)
      );
  known = tt;
  meant = tt;
  shaped = tt;
  cells = search rules;
  pass = search rules;
  err = tt;
}

pub returns : goal.returns
returns g c = record {
  table = (
      let t = c.args.self.now in
      let eq = g.K.PartialEq.eq in
      let k = c.args.key.now in
      let plain = table_of eq t in
      let none : kept_for eq k (cache_of t.cache) ≡ None = sym c.in_ok-hit.ensures.told ∙ ap (option_map kept_of) c.in_default.is in
      let flights : plain.flights c.args.class k ≡ None = ap (option_map the_flight) c.in_default-join.ensures.none in
      let met = enter-led eq c.args.class k plain none flights in
      let s : Seen = record { flight = record { ticket = t.book.leads + 1; found = false }; cell = lead_cell c.in_ok-lead.lead } in
      let opened = c.in_ok-lead.ensures.opened ∙ ap (with_at eq c.args.class k (Some s)) c.in_default-join.ensures.same in
      let q = ap (each_of the_flight) opened ∙ each-with eq c.args.class k the_flight (Some s) (open_at eq t.opens) in
      let n = c.in_ok-lead.ensures.in_flight ∙ ap (λ n. n + 1) c.in_default-join.ensures.in_flight in
      same_table (record t.book { gets = t.book.gets + 1; leads = t.book.leads + 1 }) c.in_ok-hit.ensures.same q n ∙ sym (ap (λ x. x.1) met)
      );
  met = (
      let t = c.args.self.now in
      let eq = g.K.PartialEq.eq in
      let k = c.args.key.now in
      let plain = table_of eq t in
      let none : kept_for eq k (cache_of t.cache) ≡ None = sym c.in_ok-hit.ensures.told ∙ ap (option_map kept_of) c.in_default.is in
      let flights : plain.flights c.args.class k ≡ None = ap (option_map the_flight) c.in_default-join.ensures.none in
      let met = enter-led eq c.args.class k plain none flights in
      let lead = c.in_ok-lead.ensures.lead in
      (rw (met, lead.1) refl, lead.0, lead.2, lead.3)
      );
  known = tt;
  meant = tt;
  shaped = tt;
  cells = (
      let t = c.args.self.now in
      let eq = g.K.PartialEq.eq in
      let k = c.args.key.now in
      let s : Seen = record { flight = record { ticket = t.book.leads + 1; found = false }; cell = lead_cell c.in_ok-lead.lead } in
      let opened = c.in_ok-lead.ensures.opened ∙ ap (with_at eq c.args.class k (Some s)) c.in_default-join.ensures.same in
      ap (each_of the_cell) opened ∙ each-with eq c.args.class k the_cell (Some s) (open_at eq t.opens)
      );
  pass = search rules;
  err = tt;
}
