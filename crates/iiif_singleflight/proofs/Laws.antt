-- The definitions' functions, case by case.
use Rattle.std.proofs.Common.{◌≡◌, ℕ, ◌+◌, Bool, true, false, Option, Some, None, IfSome, IsSomeAnd, option_map, refl, subst, arith}
use Rattle.std.specs.Option.{ForSome, is_some}
use Rattle.std.proofs.lemmas.Bool.Decides.{nat_tests}
use Rattle.iiif_singleflight.specs.Seen.{Seen, the_flight}
use Rattle.iiif_tables.specs.Cache.{Kept, Cache, kept_for}
use Rattle.iiif_tables.specs.Flights.{Table, Flight, hit, joined, led, enter, entering, again, looking, has_ticket, is_found, land}
use Rattle.iiif_tables.specs.Flights.{landing, counting}
use Rattle.iiif_tables.specs.declared.table.Book.{Book}
use Rattle.iiif_tables.specs.declared.table.Class.{Class}
use Rattle.iiif_tables.specs.declared.table.Place.{Place}

module _ {K V : Type 0} (eq : K → K → Bool) (class : Class) (k : K) (t : Table K V) where
  pub enter-hit : (e : Kept V) → kept_for eq k t.cache ≡ Some e → enter eq class k t ≡ (hit e, entering eq class k (hit e) t)
  unfolding enter
  enter-hit e h = rw h refl

  pub enter-joined : (f : Flight) → kept_for eq k t.cache ≡ None → t.flights class k ≡ Some f →
      enter eq class k t ≡ (joined f.ticket, entering eq class k (joined f.ticket) t)
  unfolding enter
  enter-joined f h j = rw (h, j) refl

  pub enter-led : kept_for eq k t.cache ≡ None → t.flights class k ≡ None →
      enter eq class k t ≡ (led (t.book.leads + 1), entering eq class k (led (t.book.leads + 1)) t)
  unfolding enter
  enter-led h j = rw (h, j) refl

  pub again-open : (n : ℕ) → has_ticket n (t.flights class k) ≡ true → again eq class k n t ≡ looking eq class k n (kept_for eq k t.cache) t
  unfolding again
  again-open n h = rw h refl

  pub again-away : (n : ℕ) → has_ticket n (t.flights class k) ≡ false → again eq class k n t ≡ (None, t)
  unfolding again
  again-away n h = rw h refl

  module _ (size : K → V → ℕ) (keep : Bool) (n : ℕ) (value : Option V) (place : Place) where
    pub land-open : has_ticket n (t.flights class k) ≡ true
        → land eq size keep class k n value place t ≡ landing eq size keep class k n value place
        (counting (is_found (t.flights class k)) value place t.book) t
    unfolding land
    land-open h = rw h refl

    pub land-away : has_ticket n (t.flights class k) ≡ false → land eq size keep class k n value place t ≡ t
    unfolding land
    land-away h = rw h refl

pub if_some : {X : Type 0} (o : Option X) (P : X → Type 0) → ForSome o P → IfSome o P
if_some None P h = tt
if_some (Some x) P h = h x refl

pub some_of : {X : Type 0} (o : Option X) → is_some o ≡ true → (x : X) × (o ≡ Some x)
some_of None h = cc
some_of (Some x) h = (x, refl)

-- tables with equal parts
pub same_table : {K V : Type 0} {c d : Cache K V} {f h : Class → K → Option Flight} {m n : ℕ} (b : Book) → c ≡ d → f ≡ h → m ≡ n
    → ◌≡◌ {A = Table K V} (record { cache = c; flights = f; in_flight = m; book = b })
    (record { cache = d; flights = h; in_flight = n; book = b })
same_table b p q r = cc

-- an open flight with a ticket
pub ticket_of : (n : ℕ) (o : Option Seen) → has_ticket n (option_map the_flight o) ≡ true → (s : Seen) × (o ≡ Some s) ×
    (s.flight.ticket ≡ n)
ticket_of n None h = cc
ticket_of n (Some s) h = let e : s.flight.ticket ≡ n = grind (arith, nat_tests) in (s, refl, e)

pub at_some : {X : Type 0} (o : Option X) (x : X) (P : X → Type 0) → o ≡ Some x → IfSome o P → P x
at_some o x P e h = let Q : Option _ → Type 0 = λ o. IfSome o P in subst Q e h

pub some_and : {X : Type 0} (o : Option X) (P : X → Type 0) → IsSomeAnd o P → (x : X) × (o ≡ Some x) × P x
some_and None P h = absurd h
some_and (Some x) P h = (x, refl, h)
