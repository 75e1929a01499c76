-- Invariants of putting, evicting, entering, looking again and landing.
use Rattle.std.specs.Prelude.{◌≡◌, ℕ, ◌+◌, ◌<◌, ◌≤◌, Bool, true, false, ◌&&◌, Option, Some, None, IsTrue, option_map, if◌then◌else◌}
use Rattle.iiif_tables.specs.Cache.{Kept, Cache, Side, Each, IsCache, SameLimits, empty_cache, evict, kept_for, put, touch, without}
use Rattle.iiif_tables.specs.Flights.{Entered, hit, joined, led, Flight, IsBook, Table, again, empty_book, empty_table, enter, has_ticket}
use Rattle.iiif_tables.specs.Flights.{land, same_class}
use Rattle.iiif_tables.specs.declared.table.Class.{Class}
use Rattle.iiif_tables.specs.declared.table.Place.{Place}

-- A cache stays one: no key has two entries, the bytes are within the limit, and the lists within their room.
module _ {K V : Type 0} (eq : K → K → Bool) (size : K → V → ℕ) where
  -- the new cache is one where the old is, with the same limits
  pub record StaysCache (old new : Cache K V) : Type 0 where
    pub cache : IsCache size eq old → IsCache size eq new
    pub limits : SameLimits old new

  abbrev pub EmptyIsCache : Type 0
  EmptyIsCache = (limit room : ℕ) → 0 < room → IsCache size eq (empty_cache limit room)

  abbrev pub PutLeavesCache : Type 0
  PutLeavesCache = (side : Side) (k : K) (e : Kept V) (c : Cache K V) → StaysCache c (put size eq side k e c)

  abbrev pub TouchLeavesCache : Type 0
  TouchLeavesCache = (k : K) (c : Cache K V) → StaysCache c (touch eq k c)

  abbrev pub WithoutLeavesCache : Type 0
  WithoutLeavesCache = (k : K) (c : Cache K V) → StaysCache c (without eq k c)

  abbrev pub EvictLeavesCache : Type 0
  EvictLeavesCache = (c : Cache K V) → StaysCache c (evict size c)

  abbrev pub EnterLeavesCache : Type 0
  EnterLeavesCache = (class : Class) (k : K) (t : Table K V) → StaysCache t.cache (enter eq class k t).1.cache

  abbrev pub AgainLeavesCache : Type 0
  AgainLeavesCache = (class : Class) (k : K) (n : ℕ) (t : Table K V) → StaysCache t.cache (again eq class k n t).1.cache

  abbrev pub LandLeavesCache : Type 0
  LandLeavesCache = (keep : Bool) (class : Class) (k : K) (n : ℕ) (value : Option V) (place : Place) (t : Table K V)
      → StaysCache t.cache (land eq size keep class k n value place t).cache

-- A test that each entry passes is passed by each entry afterwards, where the one that is put, or lands, passes it.
module _ {K V : Type 0} (test : K × Kept V → Bool) where
  abbrev pub AllPass : Cache K V → Type 0
  AllPass c = Each (λ e. IsTrue (test e)) c

  module _ (eq : K → K → Bool) where
    abbrev pub TouchKeepsEach : Type 0
    TouchKeepsEach = (k : K) (c : Cache K V) → AllPass c → AllPass (touch eq k c)

    abbrev pub WithoutKeepsEach : Type 0
    WithoutKeepsEach = (k : K) (c : Cache K V) → AllPass c → AllPass (without eq k c)

    abbrev pub EnterKeepsEach : Type 0
    EnterKeepsEach = (class : Class) (k : K) (t : Table K V) → AllPass t.cache → AllPass (enter eq class k t).1.cache

    abbrev pub AgainKeepsEach : Type 0
    AgainKeepsEach = (class : Class) (k : K) (n : ℕ) (t : Table K V) → AllPass t.cache → AllPass (again eq class k n t).1.cache

    -- the value that a look-up finds passes, with the key of its entry, which is equal
    abbrev pub FoundPasses : Type 0
    FoundPasses = (k : K) (c : Cache K V) → AllPass c → (e : Kept V) → kept_for eq k c ≡ Some e → (q : K) × (eq k q ≡ true) ×
        IsTrue (test (q, e))

  module _ (size : K → V → ℕ) where
    abbrev pub EvictKeepsEach : Type 0
    EvictKeepsEach = (c : Cache K V) → AllPass c → AllPass (evict size c)

    abbrev pub PutKeepsEach : (K → K → Bool) → Type 0
    PutKeepsEach eq = (side : Side) (k : K) (e : Kept V) (c : Cache K V) → IsTrue (test (k, e)) → AllPass c →
        AllPass (put size eq side k e c)

    abbrev pub LandKeepsEach : (K → K → Bool) → Type 0
    LandKeepsEach eq = (keep : Bool) (class : Class) (k : K) (n : ℕ) (value : Option V) (place : Place) (t : Table K V)
        → ((v : V) → value ≡ Some v → IsTrue (test (k, record { value = v; ticket = n }))) → AllPass t.cache
        → AllPass (land eq size keep class k n value place t).cache

-- The counts add up.
abbrev pub EmptyIsBook : Type 0
EmptyIsBook = IsBook 0 empty_book

module _ {K : Type 0} (V : Type 0) (eq : K → K → Bool) where
  abbrev pub EnterLeavesBook : Type 0
  EnterLeavesBook = (class : Class) (k : K) (t : Table K V) → IsBook t.in_flight t.book →
      IsBook (enter eq class k t).1.in_flight (enter eq class k t).1.book

  -- looking again counts nothing
  abbrev pub AgainCountsNothing : Type 0
  AgainCountsNothing = (class : Class) (k : K) (n : ℕ) (t : Table K V) → ((again eq class k n t).1.book ≡ t.book) ×
      ((again eq class k n t).1.in_flight ≡ t.in_flight)

-- so after a landing, where a flight that is open is one of those in flight
abbrev pub LandLeavesBook : {K V : Type 0} → (K → K → Bool) → (K → V → ℕ) → Type 0
LandLeavesBook {K} {V} eq size = (keep : Bool) (class : Class) (k : K) (n : ℕ) (value : Option V) (place : Place) (t : Table K V)
    → (has_ticket n (t.flights class k) ≡ true → 0 < t.in_flight) → IsBook t.in_flight t.book
    → IsBook (land eq size keep class k n value place t).in_flight (land eq size keep class k n value place t).book

-- A flight opens, stays and closes at its own place, which is its class and key.

-- the flight at a place after a call that met this: the one that it leads, else the one that stood there
abbrev pub opened : {V : Type 0} → Entered V → Option Flight → Option Flight
opened (hit e) f = f
opened (joined n) f = f
opened (led n) f = Some (record { ticket = n; found = false })

-- the flight once its leader has found the value
abbrev pub as_found : Flight → Flight
as_found f = record f { found = true }

-- the flight there after its leader has looked again and found this: found where a value is kept
abbrev pub marked : {V : Type 0} → Option V → Option Flight → Option Flight
marked None f = f
marked (Some v) f = option_map as_found f

-- every other place has what it had
abbrev pub OthersStay : {K V : Type 0} → (K → K → Bool) → Class → K → Table K V → Table K V → Type 0
OthersStay {K} eq class k old new = (c : Class) (q : K) → (same_class class c && eq k q) ≡ false → new.flights c q ≡ old.flights c q

module _ {K : Type 0} (V : Type 0) (eq : K → K → Bool) where
  abbrev pub EnterOpens : Type 0
  EnterOpens = (class : Class) (k : K) (t : Table K V)
      → ((enter eq class k t).1.flights class k ≡ opened (enter eq class k t).0 (t.flights class k)) ×
      OthersStay eq class k t (enter eq class k t).1

  abbrev pub AgainMarks : Type 0
  AgainMarks = (class : Class) (k : K) (n : ℕ) (t : Table K V)
      → ((again eq class k n t).1.flights class k ≡ marked (again eq class k n t).0 (t.flights class k)) ×
      OthersStay eq class k t (again eq class k n t).1

abbrev pub LandCloses : {K V : Type 0} → (K → K → Bool) → (K → V → ℕ) → Type 0
LandCloses {K} {V} eq size = (keep : Bool) (class : Class) (k : K) (n : ℕ) (value : Option V) (place : Place) (t : Table K V)
    → ((land eq size keep class k n value place t).flights class k ≡ (if has_ticket n (t.flights class k) then None else t.flights class k))
    × OthersStay eq class k t (land eq size keep class k n value place t)

-- No open flight has a ticket above `leads`. A flight that opens gets `leads` with one added, and `leads` never falls: so its ticket is
-- no open flight's, and was no other's before.
abbrev pub TicketsAreCounted : {K V : Type 0} → Table K V → Type 0
TicketsAreCounted {K} t = (c : Class) (q : K) (f : Flight) → t.flights c q ≡ Some f → f.ticket ≤ t.book.leads

abbrev pub EmptyCountsTickets : Type 0 → Type 0 → Type 0
EmptyCountsTickets K V = (limit room : ℕ) → TicketsAreCounted {K = K} {V = V} (empty_table limit room)

module _ {K : Type 0} (V : Type 0) (eq : K → K → Bool) where
  abbrev pub EnterCountsTickets : Type 0
  EnterCountsTickets = (class : Class) (k : K) (t : Table K V) → TicketsAreCounted t → TicketsAreCounted (enter eq class k t).1

  -- the one that a leading call is told is `leads` with one added, which `leads` is from then on
  abbrev pub EnterGivesNewTicket : Type 0
  EnterGivesNewTicket = (class : Class) (k : K) (t : Table K V) (n : ℕ) → (enter eq class k t).0 ≡ led n → (n ≡ t.book.leads + 1) ×
      ((enter eq class k t).1.book.leads ≡ n)

  -- and above that of each flight that was open
  abbrev pub EnterGivesNoOpenTicket : Type 0
  EnterGivesNoOpenTicket = (class : Class) (k : K) (t : Table K V) → TicketsAreCounted t → (n : ℕ) → (enter eq class k t).0 ≡ led n
      → (c : Class) (q : K) (f : Flight) → t.flights c q ≡ Some f → f.ticket < n

  abbrev pub EnterKeepsLeads : Type 0
  EnterKeepsLeads = (class : Class) (k : K) (t : Table K V) → t.book.leads ≤ (enter eq class k t).1.book.leads

  abbrev pub AgainCountsTickets : Type 0
  AgainCountsTickets = (class : Class) (k : K) (n : ℕ) (t : Table K V) → TicketsAreCounted t → TicketsAreCounted (again eq class k n t).1

abbrev pub LandCountsTickets : {K V : Type 0} → (K → K → Bool) → (K → V → ℕ) → Type 0
LandCountsTickets {K} {V} eq size = (keep : Bool) (class : Class) (k : K) (n : ℕ) (value : Option V) (place : Place) (t : Table K V)
    → TicketsAreCounted t → TicketsAreCounted (land eq size keep class k n value place t)

abbrev pub LandKeepsLeads : {K V : Type 0} → (K → K → Bool) → (K → V → ℕ) → Type 0
LandKeepsLeads {K} {V} eq size = (keep : Bool) (class : Class) (k : K) (n : ℕ) (value : Option V) (place : Place) (t : Table K V)
    → (land eq size keep class k n value place t).book.leads ≡ t.book.leads

-- Open flights of one ticket are at one place.
module _ {K : Type 0} (eq : K → K → Bool) where
  abbrev pub TicketsDiffer : {V : Type 0} → Table K V → Type 0
  TicketsDiffer t = (c d : Class) (p q : K) (f g : Flight) → t.flights c p ≡ Some f → t.flights d q ≡ Some g → f.ticket ≡ g.ticket →
      (same_class c d && eq p q) ≡ true

  abbrev pub EmptyTicketsDiffer : Type 0 → Type 0
  EmptyTicketsDiffer V = (limit room : ℕ) → TicketsDiffer {V = V} (empty_table limit room)

  abbrev pub EnterLetsTicketsDiffer : Type 0 → Type 0
  EnterLetsTicketsDiffer V = (class : Class) (k : K) (t : Table K V) → TicketsAreCounted t → TicketsDiffer t →
      TicketsDiffer (enter eq class k t).1

  abbrev pub AgainLetsTicketsDiffer : Type 0 → Type 0
  AgainLetsTicketsDiffer V = (class : Class) (k : K) (n : ℕ) (t : Table K V) → TicketsDiffer t → TicketsDiffer (again eq class k n t).1

  abbrev pub LandLetsTicketsDiffer : {V : Type 0} → (K → V → ℕ) → Type 0
  LandLetsTicketsDiffer {V} size = (keep : Bool) (class : Class) (k : K) (n : ℕ) (value : Option V) (place : Place) (t : Table K V)
      → TicketsDiffer t → TicketsDiffer (land eq size keep class k n value place t)
