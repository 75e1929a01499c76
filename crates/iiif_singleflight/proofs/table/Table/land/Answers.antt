use Rattle.std.proofs.Common.{◌≡◌, ◌-◌, Bool, Option, Some, None, MatchOption, true, false, refl, sym, ap, ◌∙◌, arith, rules}
use Rattle.std.proofs.lemmas.Grind.{common_steps}
use Rattle.std.specs.Bool.{then_some}
use Rattle.std.specs.Option.{is_some}
use Rattle.std.specs.Arc.{arc_value}
use Rattle.iiif_tables.specs.Flights.{is_found, storing, keeping, counting}
use Rattle.iiif_outcome.specs.Outcomes.{value_of}
use Rattle.iiif_outcome.specs.Views.{entry_size, lead_class, lead_key, lead_ticket, receipt_ticket}
use Rattle.iiif_byte_cache.specs.View.{cache_of}
use Rattle.iiif_singleflight.specs.Counting.{counted_as}
use Rattle.iiif_singleflight.specs.Held.{open_at, in_flight}
use Rattle.iiif_singleflight.specs.Seen.{each_of, the_flight, the_cell}
use Rattle.iiif_singleflight.specs.View.{table_of}
use Rattle.iiif_singleflight.proofs.Functions.{each-with}
use Rattle.iiif_singleflight.proofs.Laws.{land-open, land-away, same_table, some_and, at_some}
use Rattle.iiif_singleflight.proofs.LandingLaws.{same_tables, counted_is, counted_gets, counted_book, kept_is}
use Rattle.iiif_singleflight.proofs.table.Table.land.Goals as goal

pub returns-in_default : goal.returns-in_default
returns-in_default g c = record {
  table = (
      let t = c.args.self.now in
      let eq = g.K.PartialEq.eq in
      let size = entry_size g.K.CacheKey.key_bytes g.K.CacheKey.val_bytes in
      let l = c.args.lead in
      let k = c.deref-name.result.now in
      let cl = c.class-class.result in
      let n = c.ticket-ticket.result in
      let key : k ≡ lead_key l = c.deref-name.ensures ∙ c.set-receipt.ensures.key in
      let class : cl ≡ lead_class l = c.class-class.ensures in
      let own_ticket : n ≡ lead_ticket l = c.ticket-ticket.ensures in
      let plain = table_of eq t in
      let vo = value_of c.args.outcome in
      let h = c.in_default.ensures.none in
      let met = land-away eq cl k plain size false n vo c.args.place h.0 in
      rw (← key, ← class, ← own_ticket) (same_table t.book refl (ap (each_of the_flight) h.1) h.2 ∙ sym met)
      );
  ticket = search rules;
  taken = search rules;
  taken_is_own = search rules;
  own = search rules;
  kept = search rules;
  refused = search rules;
  cell = search rules;
  cells = search rules;
}

pub invariant_of-self-2 : goal.invariant_of-self-2
invariant_of-self-2 g c =
    let t = c.args.self.now in
    record {
      sums = rw c.count.ensures (counted_book (in_flight c.close.new.self) c.in-Some.found c.is_err-fault.result c.args.place t.book
          (rw c.in-Some.ensures.in_flight t.sums));
      counted = ap (λ b. b.gets) c.count.ensures ∙ (counted_gets c.in-Some.found c.is_err-fault.result c.args.place t.book ∙ t.counted);
    }

-- a value that a test leaves over was there
left_over : {T : Type 0} (Gives : T → Bool → Type 0) (was left : Option T) →
    MatchOption was (left ≡ None) (λ x. (b : Bool) × Gives x b × (left ≡ then_some b x)) → (x : T) → left ≡ Some x → was ≡ Some x
left_over Gives None left none x is = cc (none, is)
left_over Gives (Some y) left (true, gives, h) x is = cc (h, is)
left_over Gives (Some y) left (false, gives, h) x is = cc (h, is)

pub returns : goal.returns
returns g c =
    let only_taken : is_some c.keep-evicted.result ≡ true → c.set-receipt.result.taken ≡ true = grind (arith, common_steps) in
    record {
      table = (
          let t = c.args.self.now in
          let eq = g.K.PartialEq.eq in
          let size = entry_size g.K.CacheKey.key_bytes g.K.CacheKey.val_bytes in
          let l = c.args.lead in
          let k = c.deref-name.result.now in
          let cl = c.class-class.result in
          let n = c.ticket-ticket.result in
          let key : k ≡ lead_key l = c.deref-name.ensures ∙ c.set-receipt.ensures.key in
          let class : cl ≡ lead_class l = c.class-class.ensures in
          let own_ticket : n ≡ lead_ticket l = c.ticket-ticket.ensures in
          let plain = table_of eq t in
          let vo = value_of c.args.outcome in
          let kept = is_some c.keep-evicted.result in
          let old = cache_of t.cache in
          let new = cache_of c.keep-evicted.new.cache in
          let peer = c.count.new.book.peer in
          let ticket = receipt_ticket c.set-receipt.result.receipt in
          let fl = plain.flights cl k in
          let tk = c.in-Some.ensures.ticket in
          let b = counting (is_found fl) vo c.args.place t.book in
          let book : c.count.new.book ≡ b =
          c.count.ensures ∙ (ap (λ f. counted_as c.in-Some.found f c.args.place t.book) c.is_err-fault.ensures.value ∙
          (counted_is c.in-Some.found c.args.outcome c.args.place t.book ∙ ap (λ f. counting f vo c.args.place t.book) tk.1)) in
          let met = land-open eq cl k plain size kept n vo c.args.place tk.0 in
          let cache = kept_is kept old new (keeping eq size c.args.place b.peer k n vo old)
          (λ y.
          let v = some_and c.filter-value.result (λ v.
          new ≡ storing eq size c.args.place peer k (record { value = arc_value v; ticket = ticket }) old)
          (c.keep-evicted.ensures.kept y) in
          let was : c.share_of-value.result ≡ Some v.0 = left_over _ _ _ c.filter-value.ensures v.0 v.1 in
          let taken : c.set-receipt.result.taken ≡ true = only_taken y in
          let is : vo ≡ Some (arc_value v.0) = at_some c.share_of-value.result v.0 (λ v. vo ≡ Some (arc_value v)) was
          c.share_of-value.ensures in
          let own : ticket ≡ n = (c.set-receipt.ensures.taken taken).1 ∙ sym own_ticket in
          let to : storing eq size c.args.place peer k (record { value = arc_value v.0; ticket = ticket }) old ≡ keeping eq size
          c.args.place peer
          k n (Some (arc_value v.0)) old = ap (λ x. storing eq size c.args.place peer k (record { value = arc_value v.0; ticket = x }) old)
          own in
          v.2 ∙ (to ∙ (ap (λ x. keeping eq size c.args.place peer k n x old) (sym is) ∙
          ap (λ x. keeping eq size c.args.place x.peer k n vo old) book)))
          c.keep-evicted.ensures.unkept in
          let q = ap (each_of the_flight) c.in-Some.ensures.closed ∙ each-with eq cl k the_flight None (open_at eq t.opens) in
          let a : in_flight c.close.new.self ≡ in_flight t.opens - 1 = omega (arith, c.in-Some.ensures.in_flight) in
          rw (← key, ← class, ← own_ticket) (same_tables cache q a book ∙ sym met)
          );
      ticket = search rules;
      taken = search rules;
      taken_is_own = search rules;
      own = search rules;
      kept = only_taken;
      refused = search rules;
      cell = search rules;
      cells = (
          let t = c.args.self.now in
          let eq = g.K.PartialEq.eq in
          let size = entry_size g.K.CacheKey.key_bytes g.K.CacheKey.val_bytes in
          let l = c.args.lead in
          let k = c.deref-name.result.now in
          let cl = c.class-class.result in
          let n = c.ticket-ticket.result in
          let key : k ≡ lead_key l = c.deref-name.ensures ∙ c.set-receipt.ensures.key in
          let class : cl ≡ lead_class l = c.class-class.ensures in
          let own_ticket : n ≡ lead_ticket l = c.ticket-ticket.ensures in
          let plain = table_of eq t in
          let vo = value_of c.args.outcome in
          let tk = c.in-Some.ensures.ticket in
          rw (← key, ← class, ← own_ticket, tk.0) (ap (each_of the_cell) c.in-Some.ensures.closed ∙
          each-with eq cl k the_cell None (open_at eq t.opens))
          );
    }
