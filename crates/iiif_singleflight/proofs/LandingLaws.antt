-- Landing, in the counts and in the cache.
use Rattle.std.proofs.Common.{◌≡◌, ℕ, ◌+◌, Bool, true, false, cond, Option, Result, Ok, Err, refl, arith}
use Rattle.std.specs.Result.{is_err}
use Rattle.std.specs.declared.sync.Arc.{Arc}
use Rattle.iiif_tables.specs.Cache.{Cache}
use Rattle.iiif_tables.specs.Flights.{Table, Flight, IsBook, counting}
use Rattle.iiif_tables.specs.declared.table.Book.{Book}
use Rattle.iiif_tables.specs.declared.table.Class.{Class}
use Rattle.iiif_tables.specs.declared.table.Place.{Place}
use Rattle.iiif_tables.specs.declared.table.Place.TheVariants.{Nowhere, Main, Peer}
use Rattle.iiif_outcome.specs.Outcomes.{value_of}
use Rattle.iiif_singleflight.specs.Counting.{counted_as}

pub same_tables : {K V : Type 0} {c d : Cache K V} {f h : Class → K → Option Flight} {m n : ℕ} {a b : Book} → c ≡ d → f ≡ h → m ≡ n → a ≡ b
    → ◌≡◌ {A = Table K V} (record { cache = c; flights = f; in_flight = m; book = a })
    (record { cache = d; flights = h; in_flight = n; book = b })
same_tables p q r s = cc

pub counted_is : {V A E : Type 0} (found : Bool) (o : Result (Arc V A) E) (place : Place) (b : Book) →
    counted_as found (is_err o) place b ≡ counting found (value_of o) place b
counted_is true (Ok v) place b = refl
counted_is true (Err e) place b = refl
counted_is false (Ok v) Nowhere b = refl
counted_is false (Ok v) Main b = refl
counted_is false (Ok v) Peer b = refl
counted_is false (Err e) place b = refl

pub counted_gets : (found fault : Bool) (place : Place) (b : Book) → (counted_as found fault place b).gets ≡ b.gets
counted_gets true fault place b = refl
counted_gets false true place b = refl
counted_gets false false Nowhere b = refl
counted_gets false false Main b = refl
counted_gets false false Peer b = refl

pub counted_book : (a : ℕ) (found fault : Bool) (place : Place) (b : Book) → IsBook (a + 1) b → IsBook a (counted_as found fault place b)
counted_book a true fault place b h = record {
  gets = h.gets;
  landed = omega (arith, h.landed);
  leads = omega (arith, h.leads);
  faults =
      h.faults;
  peer = h.peer;
}
counted_book a false true place b h = record {
  gets = h.gets;
  landed = omega (arith, h.landed);
  leads = omega (arith, h.leads);
  faults =
      omega (arith, h.faults);
  peer = omega (arith, h.peer);
}
counted_book a false false Nowhere b h = record {
  gets = h.gets;
  landed = omega (arith, h.landed);
  leads = omega (arith, h.leads);
  faults = omega (arith, h.faults);
  peer =
      omega (arith, h.peer);
}
counted_book a false false Main b h = record {
  gets = h.gets;
  landed = omega (arith, h.landed);
  leads = omega (arith, h.leads);
  faults =
      omega (arith, h.faults);
  peer = omega (arith, h.peer);
}
counted_book a false false Peer b h = record {
  gets = h.gets;
  landed = omega (arith, h.landed);
  leads = omega (arith, h.leads);
  faults =
      omega (arith, h.faults);
  peer = omega (arith, h.peer);
}

pub kept_is : {X : Type 0} (kept : Bool) (old new stored : X) → (kept ≡ true → new ≡ stored) → (kept ≡ false → new ≡ old) →
    new ≡ cond kept stored old
kept_is true old new stored h k = h refl
kept_is false old new stored h k = k refl
