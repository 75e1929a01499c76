-- Answers to calls that enter a table.
--   Meets                        the answer that the definition gives: a hit, the flight to join, or the lead of a new one
--   CellsMeet                    the cell that goes with it
--   HitMeans, HitPasses, HitOf   a hit's value is this, or passes this test; and its outcome is of this key
--   led_wide                     how many wide flights the call leads
use Rattle.std.specs.Prelude.{◌≡◌, ℕ, Bool, IsTrue, IfSome, Option, Some, None}
use Rattle.std.specs.Result.{ForOk}
use Rattle.std.specs.Arc.{arc_value}
use Rattle.iiif_tables.specs.Cache.{Kept}
use Rattle.iiif_tables.specs.Flights.{Entered as Plain, hit, joined, led}
use Rattle.iiif_tables.specs.declared.table.Class.{Class}
use Rattle.iiif_outcome.specs.Outcomes.{value_of}
use Rattle.iiif_outcome.specs.Views.{flight_cell, flight_key, flight_ticket, lead_cell, lead_class, lead_key, lead_known, lead_ticket}
use Rattle.iiif_outcome.specs.Views.{receipt_known, receipt_ticket}
use Rattle.iiif_singleflight.specs.Classes.{one_if_wide}
use Rattle.iiif_singleflight.specs.Seen.{with_at}
use Rattle.iiif_singleflight.specs.declared.entered.Entered.{Entered}
use Rattle.iiif_singleflight.specs.declared.entered.Entered.TheVariants.{Hit, Joined, Lead}

module _ {K J L V : Type 0} {a b c d : _} where
  -- The definition's answer: a receipt of the entry's ticket whose outcome is the entry's value; the open flight; or the lead of
  -- a new one, of whose outcome nothing is known.
  abbrev pub Meets : Class → K → Plain V → Entered K J L V a b c d → Type 0
  Meets class k p (Hit r) = (e : Kept _) × (p ≡ hit e) × (receipt_ticket r ≡ e.ticket) ×
      IfSome (receipt_known r) (λ x. value_of x.outcome ≡ Some e.value)
  Meets class k p (Joined f) = (p ≡ joined (flight_ticket f)) × (flight_key f ≡ k)
  Meets class k p (Lead l) = (p ≡ led (lead_ticket l)) × (lead_key l ≡ k) × (lead_class l ≡ class) × (lead_known l ≡ None)

  -- A call that joins has the cell of the open flight, and no other; a new flight has a cell, and the others keep theirs.
  abbrev pub CellsMeet : (K → K → Bool) → Class → K → (Class → K → Option ℕ) → (Class → K → Option ℕ) → Entered K J L V a b c d → Type 0
  CellsMeet eq class k old new (Hit r) = new ≡ old
  CellsMeet eq class k old new (Joined f) = (new ≡ old) × (old class k ≡ Some (flight_cell f))
  CellsMeet eq class k old new (Lead l) = new ≡ with_at eq class k (Some (lead_cell l)) old

  -- under this premise a hit's value is this
  abbrev pub HitMeans : Type 0 → V → Entered K J L V a b c d → Type 0
  HitMeans premise m (Hit r) = premise → IfSome (receipt_known r) (λ x. value_of x.outcome ≡ Some m)
  HitMeans premise m (Joined f) = Unit {0}
  HitMeans premise m (Lead l) = Unit {0}

  -- a hit's value passes this test
  abbrev pub HitPasses : (V → Bool) → Entered K J L V a b c d → Type 0
  HitPasses test (Hit r) = IfSome (receipt_known r) (λ x. ForOk x.outcome (λ v. IsTrue (test (arc_value v))))
  HitPasses test (Joined f) = Unit {0}
  HitPasses test (Lead l) = Unit {0}

  -- a hit's outcome is of a flight for this key
  abbrev pub HitOf : K → Entered K J L V a b c d → Type 0
  HitOf k (Hit r) = IfSome (receipt_known r) (λ x. arc_value x.key ≡ k)
  HitOf k (Joined f) = Unit {0}
  HitOf k (Lead l) = Unit {0}

  -- a call of the wide class that leads has led one wide flight, any other none
  abbrev pub led_wide : Class → Entered K J L V a b c d → ℕ
  led_wide class (Hit r) = 0
  led_wide class (Joined f) = 0
  led_wide class (Lead l) = one_if_wide class
