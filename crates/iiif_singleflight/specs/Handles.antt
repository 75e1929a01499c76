-- Leads and followers as their holders see them.
--   checked_lead, _key, _class, _ticket, _cell   the lead behind a look again, and its flight's
--   followed, slept                              the flight that a call joined, and that a follower looked at in vain
--   IsOf                                         a receipt of a key
--   MeetsFor, entered_of                         an answer for a class and a key, and as a table gives it
--   Ends, Finds                                  a receipt of a flight, and a follower's look
use Rattle.std.specs.Prelude.{◌≡◌, ◌≢◌, ◌⊎◌, ℕ, IfSome, IsFalse}
use Rattle.std.specs.Arc.{arc_value}
use Rattle.std.specs.Option.{ForSome}
use Rattle.std.specs.declared.cmp.PartialEq as partial_eq
use Rattle.iiif_keys.specs.declared.cache_key.CacheKey as cache_key
use Rattle.iiif_keys.specs.declared.system.System as system
use Rattle.iiif_tables.specs.declared.table.Class.{Class}
use Rattle.iiif_outcome.specs.Views.{flight_cell, flight_key, flight_known, flight_ticket, lead_cell, lead_class, lead_key, lead_ticket}
use Rattle.iiif_outcome.specs.Views.{receipt_cell, receipt_known, receipt_ticket}
use Rattle.iiif_outcome.specs.declared.flight.Flight.{Flight}
use Rattle.iiif_outcome.specs.declared.lead.Lead.{Lead}
use Rattle.iiif_outcome.specs.declared.receipt.Receipt.{Receipt}
use Rattle.iiif_singleflight.specs.declared.checked.CheckedLead.{CheckedLead}
use Rattle.iiif_singleflight.specs.declared.entered.Entered.{Entered}
use Rattle.iiif_singleflight.specs.declared.entered.Entered.TheVariants as entered
use Rattle.iiif_singleflight.specs.declared.entered.Lookup.{Lookup}
use Rattle.iiif_singleflight.specs.declared.entered.Lookup.TheVariants.{Hit, Joined, Leads}
use Rattle.iiif_singleflight.specs.declared.follower.Follower.{Follower}
use Rattle.iiif_singleflight.specs.declared.follower.Look.{Look}
use Rattle.iiif_singleflight.specs.declared.follower.Look.TheVariants.{Landed, Pending}
use Rattle.iiif_singleflight.specs.declared.follower.Sleeper.{Sleeper}

module _ {K J L V : Type 0} {a b c d : _} where
  -- the lead of one who looked again, and the key, the class, the number and the cell of its flight
  abbrev pub checked_lead : CheckedLead K J L V a b c d → Lead K J L V a b c d
  checked_lead l = l.lead

  abbrev pub checked_key : CheckedLead K J L V a b c d → K
  checked_key l = lead_key l.lead

  abbrev pub checked_class : CheckedLead K J L V a b c d → Class
  checked_class l = lead_class l.lead

  abbrev pub checked_ticket : CheckedLead K J L V a b c d → ℕ
  checked_ticket l = lead_ticket l.lead

  abbrev pub checked_cell : CheckedLead K J L V a b c d → ℕ
  checked_cell l = lead_cell l.lead

  -- the flight that is followed
  abbrev pub followed : Follower K J L V a b c d → Flight K J L V a b c d
  followed f = f.flight

  -- the receipt's outcome is of this key
  abbrev pub IsOf : K → Receipt K J L V a b c d → Type 0
  IsOf key r = IfSome (receipt_known r) (λ x. arc_value x.key ≡ key)

  -- a receipt or a flight of this key, or the lead of one of this key and class
  abbrev pub MeetsFor : Class → K → Lookup K J L V a b c d → Type 0
  MeetsFor class key (Hit r) = IsOf key r
  MeetsFor class key (Joined f) = flight_key (followed f) ≡ key
  MeetsFor class key (Leads l) = (checked_key l ≡ key) × (checked_class l ≡ class)

  -- the same answer as a table gives it
  abbrev pub entered_of : Lookup K J L V a b c d → Entered K J L V a b c d
  entered_of (Hit r) = entered.Hit r
  entered_of (Joined f) = entered.Joined (followed f)
  entered_of (Leads l) = entered.Lead (checked_lead l)

  -- a receipt of this flight
  pub record Ends (joined : Flight K J L V a b c d) (receipt : Receipt K J L V a b c d) : Type 0 where
    -- it is of its ticket, and of the cell by which all learn who joined it
    pub flight : (receipt_cell receipt ≡ flight_cell joined) × (receipt_ticket receipt ≡ flight_ticket joined)
    -- its outcome is of the flight's key
    pub key : IsOf (flight_key joined) receipt

module _ {K J L V : Type 0} {a : cache_key.Ghosts K V} {b : partial_eq.Ghosts K} {c : _} {d : system.Ghosts J} {e : _} where
  -- the flight that was looked at in vain
  abbrev pub slept : Sleeper K J L V a b c d e → Flight K J L V a b c d
  slept s = s.flight

  -- A follower looks at this flight: it has landed; or it is still the same one, in whose cell an outcome of this flight isn't known. So it
  -- is after a look alone.
  abbrev pub Finds : Flight K J L V a b c d → Look K J L V a b c d e → Type 0
  Finds joined (Landed r) = Ends joined r
  Finds joined (Pending s) = (flight_key (slept s) ≡ flight_key joined) × (flight_cell (slept s) ≡ flight_cell joined)
      × (flight_ticket (slept s) ≡ flight_ticket joined)
      × ForSome (flight_known (slept s)) (λ x. (x.ticket ≢ flight_ticket joined) ⊎ IsFalse (b.eq (arc_value x.key) (flight_key joined)))
