-- A table after the landing of a flight.
use Rattle.std.proofs.Common.{◌≡◌, ℕ, ◌+◌, ◌-◌, Bool, true, false, Option, Some, None, sym, ap, ◌∙◌, arith, if◌then◌else◌}
use Rattle.std.specs.Prelude.{◌==◌}
use Rattle.iiif_tables.specs.Cache.{Cache}
use Rattle.iiif_tables.specs.Flights as tables
use Rattle.iiif_tables.specs.declared.table.Book.{Book}
use Rattle.iiif_tables.specs.declared.table.Class.{Class}
use Rattle.iiif_tables.specs.declared.table.Place.{Place}
use Rattle.iiif_machine.specs.declared.keys.Key.{Key}
use Rattle.iiif_machine.specs.declared.keys.Value.{Value}
use Rattle.iiif_machine.specs.Keys.{entry_size, key_eq}
use Rattle.iiif_machine.specs.Tables.{Table}

abbrev Maybe : Type 0
Maybe = Option tables.Flight

module _ (keep : Bool) (c : Class) (k : Key) (n : ℕ) (v : Option Value) (p : Place) (t : Table) where
  abbrev landed_by : Maybe → Bool → Table
  landed_by f b = if b then tables.landing key_eq entry_size keep c k n v p (tables.counting (tables.is_found f) v p t.book) t else t

  pub land_missing : t.flights c k ≡ None → t ≡ tables.land key_eq entry_size keep c k n v p t
  unfolding tables.land
  land_missing e = sym (ap (λ (f : Maybe). landed_by f (tables.has_ticket n f)) e)

  pub land_other : (f : tables.Flight) → t.flights c k ≡ Some f → (f.ticket == n) ≡ false →
      t ≡ tables.land key_eq entry_size keep c k n v p t
  unfolding tables.land
  land_other f e other = sym (ap (λ (f : Maybe). landed_by f (tables.has_ticket n f)) e ∙ ap (landed_by (Some f)) other)

  pub land_by : (f : tables.Flight) → t.flights c k ≡ Some f → (f.ticket == n) ≡ true →
      tables.land key_eq entry_size keep c k n v p t ≡ tables.landing key_eq entry_size keep c k n v p (tables.counting f.found v p t.book)
      t
  unfolding tables.land
  land_by f e own = ap (λ (f : Maybe). landed_by f (tables.has_ticket n f)) e ∙ ap (landed_by (Some f)) own

  abbrev made : Cache Key Value → (Class → Key → Maybe) → ℕ → Book → Table
  made cache flights in_flight book = record { cache = cache; flights = flights; in_flight = in_flight; book = book }

  pub land_parts : (u : Table) (b : Book) → u.cache ≡ (if keep then tables.keeping key_eq entry_size p b.peer k n v t.cache else t.cache) →
      u.flights ≡ tables.with_flight key_eq c k None t.flights → u.in_flight + 1 ≡ t.in_flight → u.book ≡ b →
      u ≡ tables.landing key_eq entry_size keep c k n v p b t
  land_parts u b cache flights in_flight book =
      let ca = if keep then tables.keeping key_eq entry_size p b.peer k n v t.cache else t.cache in
      let fl = tables.with_flight key_eq c k None t.flights in
      let less : u.in_flight ≡ t.in_flight - 1 = omega arith in
      ap (λ (x : Cache Key Value). made x u.flights u.in_flight u.book) cache
      ∙ ap (λ (x : Class → Key → Maybe). made ca x u.in_flight u.book) flights
      ∙ ap (λ (x : ℕ). made ca fl x u.book) less
      ∙ ap (λ (x : Book). made ca fl (t.in_flight - 1) x) book
