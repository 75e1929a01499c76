-- Effects of entering, looking again and landing on the cache, on the places of flights and on their tickets.
use Rattle.std.proofs.Common.{◌≡◌, ℕ, ◌+◌, ◌<◌, ◌≤◌, ◌%◌, Bool, true, false, Option, Some, None, refl, sym, ap, ◌∙◌, arith}
use Rattle.std.specs.Prelude.{◌&&◌, if◌then◌else◌, ◌==◌}
use Rattle.std.specs.Cmp.{IsEquivalence}
use Rattle.std.specs.Map.{update}
use Rattle.std.proofs.lemmas.Bool.{eqb-true, and_parts, false≢true}
use Rattle.iiif_tables.specs.Cache.{Kept, Cache, main_side, hot_side, kept_for, put}
use Rattle.iiif_tables.specs.Flights.{Flight, Table, Entered, hit, joined, led, meets, met, entering, enter, looking, again, counting}
use Rattle.iiif_tables.specs.Flights.{storing, keeping, landing, land, has_ticket, is_found, with_flight, same_class}
use Rattle.iiif_tables.specs.Laws.{StaysCache, opened, marked, OthersStay, TicketsAreCounted, TicketsDiffer, EmptyIsBook}
use Rattle.iiif_tables.proofs.Caches.{stays, stays_put, stays_touch}
use Rattle.iiif_tables.proofs.FlightLaws.{flight_there}
use Rattle.iiif_tables.specs.declared.table.Book.{Book}
use Rattle.iiif_tables.specs.declared.table.Class.{Class}
use Rattle.iiif_tables.specs.declared.table.Place.{Place}
use Rattle.iiif_tables.specs.declared.table.Place.TheVariants.{Nowhere, Main, Peer}
use Rattle.iiif_tables.specs.declared.table.Class.TheVariants.{Wide, Local}

pub empty_is_book : EmptyIsBook
empty_is_book = record { gets = refl; landed = refl; leads = refl; faults = omega arith; peer = omega arith }

module _ {K V : Type 0} (eq : K → K → Bool) (laws : IsEquivalence eq) (size : K → V → ℕ) where
  met_stays : (class : Class) (k : K) (m : Entered V) (t : Table K V) → StaysCache eq size t.cache (entering eq class k m t).cache
  met_stays class k (hit e) t = stays_touch eq laws size k t.cache
  met_stays class k (joined n) t = stays eq laws size t.cache
  met_stays class k (led n) t = stays eq laws size t.cache

  pub enter_stays : (class : Class) (k : K) (t : Table K V) → StaysCache eq size t.cache (enter eq class k t).1.cache
  unfolding enter
  enter_stays class k t = met_stays class k (meets eq class k t) t

  looked_stays : (class : Class) (k : K) (n : ℕ) (o : Option (Kept V)) (t : Table K V) →
      StaysCache eq size t.cache (looking eq class k n o t).1.cache
  looked_stays class k n None t = stays eq laws size t.cache
  looked_stays class k n (Some e) t = stays_touch eq laws size k t.cache

  pub again_stays : (class : Class) (k : K) (n : ℕ) (t : Table K V) → StaysCache eq size t.cache (again eq class k n t).1.cache
  unfolding again
  again_stays class k n t = elim (has_ticket n (t.flights class k)) as
      (λ b. StaysCache eq size t.cache (if b then looking eq class k n (kept_for eq k t.cache) t else (None, t)).1.cache) [
        | true ↦ looked_stays class k n (kept_for eq k t.cache) t
        | false ↦ stays eq laws size t.cache
      ]

  stored_stays : (place : Place) (peer : ℕ) (k : K) (e : Kept V) (c : Cache K V) → StaysCache eq size c (storing eq size place peer k e c)
  stored_stays Nowhere peer k e c = stays eq laws size c
  stored_stays Main peer k e c = stays_put eq laws size main_side k e c
  stored_stays Peer peer k e c = elim (peer % 10 == 0) as (λ b. StaysCache eq size c (if b then put size eq hot_side k e c else c)) [
    | true ↦ stays_put eq laws size hot_side k e c
    | false ↦ stays eq laws size c
  ]

  kept_stays : (place : Place) (peer : ℕ) (k : K) (n : ℕ) (value : Option V) (c : Cache K V) →
      StaysCache eq size c (keeping eq size place peer k n value c)
  kept_stays place peer k n None c = stays eq laws size c
  kept_stays place peer k n (Some v) c = stored_stays place peer k (record { value = v; ticket = n }) c

  pub land_stays : (keep : Bool) (class : Class) (k : K) (n : ℕ) (value : Option V) (place : Place) (t : Table K V)
      → StaysCache eq size t.cache (land eq size keep class k n value place t).cache
  unfolding land
  land_stays keep class k n value place t =
      let book = counting (is_found (t.flights class k)) value place t.book in
      elim (has_ticket n (t.flights class k)) as
      (λ b. StaysCache eq size t.cache (if b then landing eq size keep class k n value place book t else t).cache) [
        | true ↦ elim keep as (λ b. StaysCache eq size t.cache (if b then keeping eq size place book.peer k n value t.cache else t.cache)) [
          | true ↦ kept_stays place book.peer k n value t.cache
          | false ↦ stays eq laws size t.cache
        ]
        | false ↦ stays eq laws size t.cache
      ]

module _ {K : Type 0} (eq : K → K → Bool) where
  -- another place has what it had
  pub flight_elsewhere : (class : Class) (k : K) (f : Option Flight) (flights : Class → K → Option Flight) (c : Class) (q : K)
      → (same_class class c && eq k q) ≡ false → with_flight eq class k f flights c q ≡ flights c q
  flight_elsewhere class k f flights c q h = (elim (same_class class c) as
      (λ a. (a && eq k q) ≡ false → (if a then update eq (flights c) k f else flights c) q ≡ flights c q) [
        | true ↦ λ h. rw h refl
        | false ↦ λ h. refl
      ]) h

  -- each has P where the new flight and each old one have it
  pub flight_anywhere : (P : Option Flight → Type 0) (class : Class) (k : K) (f : Option Flight) (flights : Class → K → Option Flight)
      (c : Class) (q : K)
      → P f → P (flights c q) → P (with_flight eq class k f flights c q)
  flight_anywhere P class k f flights c q here there =
      elim (same_class class c) as (λ a. P ((if a then update eq (flights c) k f else flights c) q)) [
        | true ↦ elim (eq k q) as (λ b. P (if b then f else flights c q)) [
          | true ↦ here
          | false ↦ there
        ]
        | false ↦ there
      ]

has_flight : (n : ℕ) (f : Option Flight) → has_ticket n f ≡ true → Some (record { ticket = n; found = true }) ≡ marked (Some n) f
has_flight n None h = cc
has_flight n (Some f) h = ap (λ m. Some (record { ticket = m; found = true })) (sym (eqb-true f.ticket n h))

-- the ticket of a flight that may be there
abbrev IsCounted : ℕ → Option Flight → Type 0
IsCounted leads o = (f : Flight) → o ≡ Some f → f.ticket ≤ leads

counted_new : (n leads : ℕ) (found : Bool) → n ≤ leads → IsCounted leads (Some (record { ticket = n; found = found }))
counted_new n leads found less f is = let same : n ≡ f.ticket = cc in omega (arith, same, less)

counted_none : (leads : ℕ) → IsCounted leads None
counted_none leads f is = cc

ticket_of : (n leads : ℕ) (o : Option Flight) → has_ticket n o ≡ true → IsCounted leads o → n ≤ leads
ticket_of n leads None is h = cc
ticket_of n leads (Some f) is h = omega (arith, eqb-true f.ticket n is, h f refl)

module _ {K V : Type 0} (eq : K → K → Bool) (laws : IsEquivalence eq) where
  module _ (class : Class) (k : K) where
    met_opens : (m : Entered V) (t : Table K V) → (entering eq class k m t).flights class k ≡ opened m (t.flights class k)
    met_opens (hit e) t = refl
    met_opens (joined n) t = refl
    met_opens (led n) t = flight_there eq class k (Some (record { ticket = n; found = false })) t.flights (laws.refl k)

    met_others : (m : Entered V) (t : Table K V) → OthersStay eq class k t (entering eq class k m t)
    met_others (hit e) t = λ c q h. refl
    met_others (joined n) t = λ c q h. refl
    met_others (led n) t = λ c q h. flight_elsewhere eq class k (Some (record { ticket = n; found = false })) t.flights c q h

    pub enter_opens : (t : Table K V) → ((enter eq class k t).1.flights class k ≡ opened (enter eq class k t).0 (t.flights class k)) ×
        OthersStay eq class k t (enter eq class k t).1
    unfolding enter
    enter_opens t = (met_opens (meets eq class k t) t, met_others (meets eq class k t) t)

    looked_marks : (n : ℕ) (o : Option (Kept V)) (t : Table K V) → has_ticket n (t.flights class k) ≡ true
        → (looking eq class k n o t).1.flights class k ≡ marked (looking eq class k n o t).0 (t.flights class k)
    looked_marks n None t h = refl
    looked_marks n (Some e) t h = flight_there eq class k (Some (record { ticket = n; found = true })) t.flights (laws.refl k) ∙
        has_flight n (t.flights class k) h

    looked_others : (n : ℕ) (o : Option (Kept V)) (t : Table K V) → OthersStay eq class k t (looking eq class k n o t).1
    looked_others n None t = λ c q h. refl
    looked_others n (Some e) t = λ c q h. flight_elsewhere eq class k (Some (record { ticket = n; found = true })) t.flights c q h

    pub again_marks : (n : ℕ) (t : Table K V) →
        ((again eq class k n t).1.flights class k ≡ marked (again eq class k n t).0 (t.flights class k)) ×
        OthersStay eq class k t (again eq class k n t).1
    unfolding again
    again_marks n t =
        let look = looking eq class k n (kept_for eq k t.cache) t in
        (elim (has_ticket n (t.flights class k)) as (λ b. has_ticket n (t.flights class k) ≡ b
        → ((if b then look else (None, t)).1.flights class k ≡ marked (if b then look else (None, t)).0 (t.flights class k)) ×
        OthersStay eq class k t (if b then look else (None, t)).1) [
          | true ↦ λ is. (looked_marks n (kept_for eq k t.cache) t is, looked_others n (kept_for eq k t.cache) t)
          | false ↦ λ is. (refl, λ c q h. refl)
        ]) refl

  pub land_closes : (size : K → V → ℕ) (keep : Bool) (class : Class) (k : K) (n : ℕ) (value : Option V) (place : Place) (t : Table K V)
      → ((land eq size keep class k n value place t).flights class k ≡
      (if has_ticket n (t.flights class k) then None else t.flights class k))
      × OthersStay eq class k t (land eq size keep class k n value place t)
  unfolding land
  land_closes size keep class k n value place t =
      let new = landing eq size keep class k n value place (counting (is_found (t.flights class k)) value place t.book) t in
      elim (has_ticket n (t.flights class k)) as
      (λ b. ((if b then new else t).flights class k ≡ (if b then None else t.flights class k)) ×
      OthersStay eq class k t (if b then new else t)) [
        | true ↦ (flight_there eq class k None t.flights (laws.refl k), λ c q h. flight_elsewhere eq class k None t.flights c q h)
        | false ↦ (refl, λ c q h. refl)
      ]

module _ {K V : Type 0} (eq : K → K → Bool) where
  module _ (class : Class) (k : K) where
    entered_tickets : (o : Option (Kept V)) (f : Option Flight) (t : Table K V) → TicketsAreCounted t →
        TicketsAreCounted (entering eq class k (met o f (t.book.leads + 1)) t)
    entered_tickets (Some e) f t h = h
    entered_tickets None (Some f) t h = h
    entered_tickets None None t h = λ c q. flight_anywhere eq (IsCounted (t.book.leads + 1)) class k
        (Some (record { ticket = t.book.leads + 1; found = false })) t.flights c q
        (counted_new (t.book.leads + 1) (t.book.leads + 1) false (omega arith)) (λ f is. let less = h c q f is in omega (arith, less))

    pub enter_tickets : (t : Table K V) → TicketsAreCounted t → TicketsAreCounted (enter eq class k t).1
    unfolding enter
    enter_tickets t h = entered_tickets (kept_for eq k t.cache) (t.flights class k) t h

    new_ticket : (o : Option (Kept V)) (f : Option Flight) (next n : ℕ) → met o f next ≡ led n → n ≡ next
    new_ticket (Some e) f next n is = cc
    new_ticket None (Some f) next n is = cc
    new_ticket None None next n is = cc

    new_leads : (o : Option (Kept V)) (f : Option Flight) (t : Table K V) (n : ℕ) → met o f (t.book.leads + 1) ≡ led n
        → (entering eq class k (met o f (t.book.leads + 1)) t).book.leads ≡ t.book.leads + 1
    new_leads (Some e) f t n is = cc
    new_leads None (Some f) t n is = cc
    new_leads None None t n is = refl

    pub enter_new_ticket : (t : Table K V) (n : ℕ) → (enter eq class k t).0 ≡ led n → (n ≡ t.book.leads + 1) ×
        ((enter eq class k t).1.book.leads ≡ n)
    unfolding enter
    enter_new_ticket t n is =
        let new : n ≡ t.book.leads + 1 = new_ticket (kept_for eq k t.cache) (t.flights class k) (t.book.leads + 1) n is in
        (new, new_leads (kept_for eq k t.cache) (t.flights class k) t n is ∙ sym new)

    -- the new ticket is above that of each open flight
    pub enter_no_open_ticket : (t : Table K V) → TicketsAreCounted t → (n : ℕ) → (enter eq class k t).0 ≡ led n
        → (c : Class) (q : K) (f : Flight) → t.flights c q ≡ Some f → f.ticket < n
    enter_no_open_ticket t h n is c q f there = let new = (enter_new_ticket t n is).0 in let less = h c q f there in
        omega (arith, new, less)

    met_leads : (m : Entered V) (t : Table K V) → t.book.leads ≤ (entering eq class k m t).book.leads
    met_leads (hit e) t = omega arith
    met_leads (joined n) t = omega arith
    met_leads (led n) t = omega arith

    -- entering never lowers the number of those that led
    pub enter_leads : (t : Table K V) → t.book.leads ≤ (enter eq class k t).1.book.leads
    unfolding enter
    enter_leads t = met_leads (meets eq class k t) t

    looked_tickets : (n : ℕ) (o : Option (Kept V)) (t : Table K V) → has_ticket n (t.flights class k) ≡ true → TicketsAreCounted t →
        TicketsAreCounted (looking eq class k n o t).1
    looked_tickets n None t is h = h
    looked_tickets n (Some e) t is h = λ c q. flight_anywhere eq (IsCounted t.book.leads) class k
        (Some (record { ticket = n; found = true })) t.flights c q
        (counted_new n t.book.leads true (ticket_of n t.book.leads (t.flights class k) is (h class k))) (h c q)

    pub again_tickets : (n : ℕ) (t : Table K V) → TicketsAreCounted t → TicketsAreCounted (again eq class k n t).1
    unfolding again
    again_tickets n t h =
        let look = looking eq class k n (kept_for eq k t.cache) t in
        (elim (has_ticket n (t.flights class k)) as
        (λ b. has_ticket n (t.flights class k) ≡ b → TicketsAreCounted (if b then look else (None, t)).1) [
          | true ↦ λ is. looked_tickets n (kept_for eq k t.cache) t is h
          | false ↦ λ is. h
        ]) refl

  counted_leads : (found : Bool) (value : Option V) (place : Place) (b : Book) → (counting found value place b).leads ≡ b.leads
  counted_leads true value place b = refl
  counted_leads false None place b = refl
  counted_leads false (Some v) Nowhere b = refl
  counted_leads false (Some v) Main b = refl
  counted_leads false (Some v) Peer b = refl

  pub land_tickets : (size : K → V → ℕ) (keep : Bool) (class : Class) (k : K) (n : ℕ) (value : Option V) (place : Place) (t : Table K V)
      → TicketsAreCounted t → TicketsAreCounted (land eq size keep class k n value place t)
  unfolding land
  land_tickets size keep class k n value place t h =
      let book = counting (is_found (t.flights class k)) value place t.book in
      let same : book.leads ≡ t.book.leads = counted_leads (is_found (t.flights class k)) value place t.book in
      elim (has_ticket n (t.flights class k)) as
      (λ b. TicketsAreCounted (if b then landing eq size keep class k n value place book t else t)) [
        | true ↦ λ c q. flight_anywhere eq (IsCounted book.leads) class k None t.flights c q (counted_none book.leads)
            (λ f is. let less = h c q f is in omega (arith, same, less))
        | false ↦ h
      ]

  -- landing leaves the number of those that led
  pub land_leads : (size : K → V → ℕ) (keep : Bool) (class : Class) (k : K) (n : ℕ) (value : Option V) (place : Place) (t : Table K V)
      → (land eq size keep class k n value place t).book.leads ≡ t.book.leads
  unfolding land
  land_leads size keep class k n value place t =
      let book = counting (is_found (t.flights class k)) value place t.book in
      elim (has_ticket n (t.flights class k)) as
      (λ b. (if b then landing eq size keep class k n value place book t else t).book.leads ≡ t.book.leads) [
        | true ↦ counted_leads (is_found (t.flights class k)) value place t.book
        | false ↦ refl
      ]

-- the classes are the same where the test says so
pub class_is : (a b : Class) → same_class a b ≡ true → a ≡ b
class_is Wide Wide h = refl
class_is Wide Local h = absurd (false≢true h)
class_is Local Wide h = absurd (false≢true h)
class_is Local Local h = refl

class_congr : (a b c : Class) → same_class a b ≡ true → same_class a c ≡ same_class b c
class_congr Wide Wide c h = refl
class_congr Wide Local c h = cc
class_congr Local Wide c h = cc
class_congr Local Local c h = refl

-- the flight that has this ticket
with_ticket : (n : ℕ) (o : Option Flight) → has_ticket n o ≡ true → (f : Flight) × (o ≡ Some f) × (f.ticket ≡ n)
with_ticket n None h = cc
with_ticket n (Some f) h = (f, refl, eqb-true f.ticket n h)

module _ {K : Type 0} (eq : K → K → Bool) (laws : IsEquivalence eq) where
  flight_here : (class : Class) (k : K) (f : Option Flight) (flights : Class → K → Option Flight) (c : Class) (q : K)
      → (same_class class c && eq k q) ≡ true → with_flight eq class k f flights c q ≡ f
  flight_here class k f flights c q h = let both = and_parts (same_class class c) (eq k q) h in rw (both.0) (rw (both.1) refl)

  -- two that are at one place with a third are at one place
  places_meet : (class : Class) (k : K) (c d : Class) (p q : K) → (same_class class c && eq k p) ≡ true →
      (same_class class d && eq k q) ≡ true
      → (same_class c d && eq p q) ≡ true
  places_meet class k c d p q x y =
      let a = and_parts (same_class class c) (eq k p) x in
      let b = and_parts (same_class class d) (eq k q) y in
      let classes : same_class c d ≡ true = sym (class_congr class c d a.0) ∙ b.0 in
      let keys : eq p q ≡ true = sym (laws.congr k p q a.1) ∙ b.1 in
      rw (classes, keys) refl

  abbrev Differ : (Class → K → Option Flight) → Type 0
  Differ m = (c d : Class) (p q : K) (f g : Flight) → m c p ≡ Some f → m d q ≡ Some g → f.ticket ≡ g.ticket →
      (same_class c d && eq p q) ≡ true

  -- the ticket of a flight at a place stands at no other
  abbrev Own : Class → K → Option Flight → (Class → K → Option Flight) → Type 0
  Own class k o m = (f : Flight) → o ≡ Some f → (d : Class) (q : K) (g : Flight) → m d q ≡ Some g → f.ticket ≡ g.ticket →
      (same_class class d && eq k q) ≡ true

  differ_with : (class : Class) (k : K) (o : Option Flight) (m : Class → K → Option Flight) → Own class k o m → Differ m →
      Differ (with_flight eq class k o m)
  differ_with class k o m own h c d p q f g isf isg same =
      (elim (same_class class c && eq k p) as (λ a. (same_class class c && eq k p) ≡ a → (same_class c d && eq p q) ≡ true) [
        | true ↦ λ x. (elim (same_class class d && eq k q) as
            (λ b. (same_class class d && eq k q) ≡ b → (same_class c d && eq p q) ≡ true) [
              | true ↦ λ y. places_meet class k c d p q x y
              | false ↦ λ y. let no = own f (sym (flight_here class k o m c p x) ∙ isf) d q g
                  (sym (flight_elsewhere eq class k o m d q y) ∙ isg) same in let off : true ≡ false = sym no ∙ y in cc
            ]) refl
        | false ↦ λ x. (elim (same_class class d && eq k q) as
            (λ b. (same_class class d && eq k q) ≡ b → (same_class c d && eq p q) ≡ true) [
              | true ↦ λ y. let no = own g (sym (flight_here class k o m d q y) ∙ isg) c p f
                  (sym (flight_elsewhere eq class k o m c p x) ∙ isf) (sym same) in let off : true ≡ false = sym no ∙ x in cc
              | false ↦ λ y. h c d p q f g (sym (flight_elsewhere eq class k o m c p x) ∙ isf)
                  (sym (flight_elsewhere eq class k o m d q y) ∙ isg) same
            ]) refl
      ]) refl

  module _ {V : Type 0} (class : Class) (k : K) where
    entered_differ : (o : Option (Kept V)) (f : Option Flight) (t : Table K V) → TicketsAreCounted t → TicketsDiffer eq t
        → TicketsDiffer eq (entering eq class k (met o f (t.book.leads + 1)) t)
    entered_differ (Some e) f t counted h = h
    entered_differ None (Some f) t counted h = h
    entered_differ None None t counted h = differ_with class k (Some (record { ticket = t.book.leads + 1; found = false })) t.flights
        (λ f is d q g there same. let own : t.book.leads + 1 ≡ f.ticket = cc in let less = counted d q g there in
        absurd (omega (arith, own, same, less))) h

    pub enter_differ : (t : Table K V) → TicketsAreCounted t → TicketsDiffer eq t → TicketsDiffer eq (enter eq class k t).1
    unfolding enter
    enter_differ t counted h = entered_differ (kept_for eq k t.cache) (t.flights class k) t counted h

    looked_differ : (n : ℕ) (o : Option (Kept V)) (t : Table K V) → has_ticket n (t.flights class k) ≡ true → TicketsDiffer eq t →
        TicketsDiffer eq (looking eq class k n o t).1
    looked_differ n None t is h = h
    looked_differ n (Some e) t is h =
        let old = with_ticket n (t.flights class k) is in
        differ_with class k (Some (record { ticket = n; found = true })) t.flights
        (λ f new d q g there same. let own : n ≡ f.ticket = cc in h class d k q old.0 g old.1 there (old.2 ∙ (own ∙ same))) h

    pub again_differ : (n : ℕ) (t : Table K V) → TicketsDiffer eq t → TicketsDiffer eq (again eq class k n t).1
    unfolding again
    again_differ n t h =
        let look = looking eq class k n (kept_for eq k t.cache) t in
        (elim (has_ticket n (t.flights class k)) as
        (λ b. has_ticket n (t.flights class k) ≡ b → TicketsDiffer eq (if b then look else (None, t)).1) [
          | true ↦ λ is. looked_differ n (kept_for eq k t.cache) t is h
          | false ↦ λ is. h
        ]) refl

  pub land_differ : {V : Type 0} (size : K → V → ℕ) (keep : Bool) (class : Class) (k : K) (n : ℕ) (value : Option V) (place : Place)
      (t : Table K V)
      → TicketsDiffer eq t → TicketsDiffer eq (land eq size keep class k n value place t)
  unfolding land
  land_differ size keep class k n value place t h =
      let book = counting (is_found (t.flights class k)) value place t.book in
      elim (has_ticket n (t.flights class k)) as
      (λ b. TicketsDiffer eq (if b then landing eq size keep class k n value place book t else t)) [
        | true ↦ differ_with class k None t.flights (λ f is d q g there same. cc) h
        | false ↦ h
      ]
