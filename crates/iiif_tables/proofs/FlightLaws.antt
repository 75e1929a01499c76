-- Invariants of a table.
use Rattle.std.proofs.Common.{◌≡◌, ℕ, ◌-◌, ◌<◌, ◌%◌, Bool, true, false, Option, Some, None, refl, arith}
use Rattle.std.specs.Prelude.{if◌then◌else◌, ◌==◌}
use Rattle.iiif_tables.specs.Cache.{Each, Kept, Cache, main_side, hot_side, kept_for, put}
use Rattle.iiif_tables.specs.Flights.{Flight, Table, IsBook, Entered, hit, joined, led, meets, entering, enter, looking, again, counting}
use Rattle.iiif_tables.specs.Flights.{storing, keeping, landing, land, has_ticket, is_found, with_flight, same_class}
use Rattle.iiif_tables.proofs.Keeping.{each_touch, each_put}
use Rattle.iiif_tables.specs.declared.table.Book.{Book}
use Rattle.iiif_tables.specs.declared.table.Class.{Class}
use Rattle.iiif_tables.specs.declared.table.Class.TheVariants.{Wide, Local}
use Rattle.iiif_tables.specs.declared.table.Place.{Place}
use Rattle.iiif_tables.specs.declared.table.Place.TheVariants.{Nowhere, Main, Peer}

pub same_class_refl : (c : Class) → same_class c c ≡ true
same_class_refl Wide = refl
same_class_refl Local = refl

module _ {K : Type 0} (eq : K → K → Bool) where
  pub flight_there : (class : Class) (k : K) (f : Option Flight) (flights : Class → K → Option Flight) → eq k k ≡ true →
      with_flight eq class k f flights class k ≡ f
  flight_there class k f flights h = rw (same_class_refl class) (rw h refl)

  pub flight_of_another_key : (class : Class) (k : K) (f : Option Flight) (flights : Class → K → Option Flight) (c : Class) (q : K) →
      eq k q ≡ false
      → with_flight eq class k f flights c q ≡ flights c q
  flight_of_another_key class k f flights c q h =
      elim (same_class class c) as (λ b. (if b then (λ x. if eq k x then f else flights c x) else flights c) q ≡ flights c q) [
        | true ↦ rw h refl
        | false ↦ refl
      ]

  pub flight_of_another_class : (class : Class) (k : K) (f : Option Flight) (flights : Class → K → Option Flight) (c : Class) (q : K) →
      same_class class c ≡ false
      → with_flight eq class k f flights c q ≡ flights c q
  flight_of_another_class class k f flights c q h = rw h refl

module _ {K V : Type 0} (eq : K → K → Bool) where
  module _ (class : Class) (k : K) where
    booking : (m : Entered V) (t : Table K V) → IsBook t.in_flight t.book →
        IsBook (entering eq class k m t).in_flight (entering eq class k m t).book
    booking (hit e) t b = record { gets = omega (arith, b.gets); landed = b.landed; leads = b.leads; faults = b.faults; peer = b.peer }
    booking (joined n) t b = record { gets = omega (arith, b.gets); landed = b.landed; leads = b.leads; faults = b.faults; peer = b.peer }
    booking (led n) t b = record {
      gets = omega (arith, b.gets);
      landed = b.landed;
      leads = omega (arith, b.leads);
      faults =
          b.faults;
      peer = b.peer;
    }

    pub book_entered : (t : Table K V) → IsBook t.in_flight t.book → IsBook (enter eq class k t).1.in_flight (enter eq class k t).1.book
    unfolding enter
    book_entered t b = booking (meets eq class k t) t b

    looked : (n : ℕ) (o : Option (Kept V)) (t : Table K V) → ((looking eq class k n o t).1.book ≡ t.book) ×
        ((looking eq class k n o t).1.in_flight ≡ t.in_flight)
    looked n None t = (refl, refl)
    looked n (Some e) t = (refl, refl)

    -- looking again counts nothing
    pub book_again : (n : ℕ) (t : Table K V) → ((again eq class k n t).1.book ≡ t.book) × ((again eq class k n t).1.in_flight ≡ t.in_flight)
    unfolding again
    book_again n t = elim (has_ticket n (t.flights class k)) as
        (λ b. ((if b then looking eq class k n (kept_for eq k t.cache) t else (None, t)).1.book ≡ t.book)
        × ((if b then looking eq class k n (kept_for eq k t.cache) t else (None, t)).1.in_flight ≡ t.in_flight)) [
          | true ↦ looked n (kept_for eq k t.cache) t
          | false ↦ (refl, refl)
        ]

    met_each : (P : K × Kept V → Type 0) (m : Entered V) (t : Table K V) → Each P t.cache → Each P (entering eq class k m t).cache
    met_each P (hit e) t h = each_touch P eq k t.cache h
    met_each P (joined n) t h = h
    met_each P (led n) t h = h

    -- entering keeps the entries
    pub each_entered : (P : K × Kept V → Type 0) (t : Table K V) → Each P t.cache → Each P (enter eq class k t).1.cache
    unfolding enter
    each_entered P t h = met_each P (meets eq class k t) t h

    looked_each : (P : K × Kept V → Type 0) (n : ℕ) (o : Option (Kept V)) (t : Table K V) → Each P t.cache →
        Each P (looking eq class k n o t).1.cache
    looked_each P n None t h = h
    looked_each P n (Some e) t h = each_touch P eq k t.cache h

    pub each_again : (P : K × Kept V → Type 0) (n : ℕ) (t : Table K V) → Each P t.cache → Each P (again eq class k n t).1.cache
    unfolding again
    each_again P n t h = elim (has_ticket n (t.flights class k)) as
        (λ b. Each P (if b then looking eq class k n (kept_for eq k t.cache) t else (None, t)).1.cache) [
          | true ↦ looked_each P n (kept_for eq k t.cache) t h
          | false ↦ h
        ]

  counted : (found : Bool) (value : Option V) (place : Place) (in_flight : ℕ) (b : Book) → 0 < in_flight → IsBook in_flight b →
      IsBook (in_flight - 1) (counting found value place b)
  counted true value place n b some h = record
      { gets = h.gets; landed = omega (arith, h.landed); leads = omega (arith, h.leads, some); faults = h.faults; peer = h.peer }
  counted false None place n b some h = record {
    gets = h.gets;
    landed = omega (arith, h.landed);
    leads = omega (arith, h.leads, some);
    faults = omega (arith, h.faults);
    peer =
        omega (arith, h.peer);
  }
  counted false (Some v) Nowhere n b some h = record {
    gets = h.gets;
    landed = omega (arith, h.landed);
    leads = omega (arith, h.leads, some);
    faults = omega (arith, h.faults);
    peer =
        omega (arith, h.peer);
  }
  counted false (Some v) Main n b some h = record {
    gets = h.gets;
    landed = omega (arith, h.landed);
    leads = omega (arith, h.leads, some);
    faults = omega (arith, h.faults);
    peer =
        omega (arith, h.peer);
  }
  counted false (Some v) Peer n b some h = record {
    gets = h.gets;
    landed = omega (arith, h.landed);
    leads = omega (arith, h.leads, some);
    faults = omega (arith, h.faults);
    peer =
        omega (arith, h.peer);
  }

  module _ (size : K → V → ℕ) where
    -- Landing keeps the counts in order, where a flight that is open is one of those in flight.
    pub book_landed : (keep : Bool) (class : Class) (k : K) (n : ℕ) (value : Option V) (place : Place) (t : Table K V)
        → (has_ticket n (t.flights class k) ≡ true → 0 < t.in_flight) → IsBook t.in_flight t.book
        → IsBook (land eq size keep class k n value place t).in_flight (land eq size keep class k n value place t).book
    unfolding land
    book_landed keep class k n value place t some h =
        let new = landing eq size keep class k n value place (counting (is_found (t.flights class k)) value place t.book) t in
        (elim (has_ticket n (t.flights class k)) as
        (λ b. has_ticket n (t.flights class k) ≡ b → IsBook (if b then new else t).in_flight (if b then new else t).book) [
          | true ↦ λ is. counted (is_found (t.flights class k)) value place t.in_flight t.book (some is) h
          | false ↦ λ is. h
        ]) refl

    stored_each : (P : K × Kept V → Type 0) (place : Place) (peer : ℕ) (k : K) (e : Kept V) (c : Cache K V) → P (k, e) → Each P c →
        Each P (storing eq size place peer k e c)
    stored_each P Nowhere peer k e c p h = h
    stored_each P Main peer k e c p h = each_put P size eq main_side k e c p h
    stored_each P Peer peer k e c p h = elim (peer % 10 == 0) as (λ b. Each P (if b then put size eq hot_side k e c else c)) [
      | true ↦ each_put P size eq hot_side k e c p h
      | false ↦ h
    ]

    kept_each : (P : K × Kept V → Type 0) (place : Place) (peer : ℕ) (k : K) (n : ℕ) (value : Option V) (c : Cache K V)
        → ((v : V) → value ≡ Some v → P (k, record { value = v; ticket = n })) → Each P c → Each P (keeping eq size place peer k n value c)
    kept_each P place peer k n None c p h = h
    kept_each P place peer k n (Some v) c p h = stored_each P place peer k (record { value = v; ticket = n }) c (p v refl) h

    -- each entry after a landing was there, or is the value that landed
    pub each_landed : (P : K × Kept V → Type 0) (keep : Bool) (class : Class) (k : K) (n : ℕ) (value : Option V) (place : Place)
        (t : Table K V)
        → ((v : V) → value ≡ Some v → P (k, record { value = v; ticket = n })) → Each P t.cache →
        Each P (land eq size keep class k n value place t).cache
    unfolding land
    each_landed P keep class k n value place t p h =
        let book = counting (is_found (t.flights class k)) value place t.book in
        elim (has_ticket n (t.flights class k)) as
        (λ b. Each P (if b then landing eq size keep class k n value place book t else t).cache) [
          | true ↦ elim keep as (λ b. Each P (if b then keeping eq size place book.peer k n value t.cache else t.cache)) [
            | true ↦ kept_each P place book.peer k n value t.cache p h
            | false ↦ h
          ]
          | false ↦ h
        ]
