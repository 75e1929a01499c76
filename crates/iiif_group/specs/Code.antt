-- Words that only this crate's own functions need.
--
--   settled    a flight that is to land, with its outcome and the place for its value
--   tells      its leader is told
--   relays     a flight that lands with the outcome of another of its key
--   answers    the answer of a key's owner
use Rattle.std.specs.Prelude.{◌≡◌, ◌+◌, ◌≤◌, Bool, Result, Err, Some}
use Rattle.std.specs.Prelude.{IfNone, IfSome, IsFalse, IsNone, IsTrue, MatchOption, OnErr}
use Rattle.std.specs.Arc.{arc_value}
use Rattle.std.specs.declared.alloc.Global.{Global}
use Rattle.std.specs.declared.sync.Arc.{Arc}
use Rattle.iiif_keys.specs.declared.cache_key.CacheKey as cache_key
use Rattle.iiif_keys.specs.declared.fault.Fault.{Fault}
use Rattle.iiif_keys.specs.declared.fault.Fault.TheVariants.{NoMemory}
use Rattle.iiif_keys.specs.declared.system.System as system
use Rattle.iiif_tables.specs.declared.table.Place.{Place}
use Rattle.iiif_outcome.specs.Outcomes.{OutcomeFor}
use Rattle.iiif_outcome.specs.Views.{receipt_cell, receipt_known}
use Rattle.iiif_outcome.specs.declared.receipt.Receipt.{Receipt}
use Rattle.iiif_singleflight.specs.Calls.{HasPlace}
use Rattle.iiif_singleflight.specs.Completions.{completion_cell, completion_known, completion_own, completion_refused}
use Rattle.iiif_singleflight.specs.Completions.{completion_taken}
use Rattle.iiif_singleflight.specs.Handles.{checked_cell, checked_class, checked_key, IsOf}
use Rattle.iiif_singleflight.specs.View.{wide_leads}
use Rattle.iiif_singleflight.specs.declared.checked.CheckedLead.{CheckedLead}
use Rattle.iiif_singleflight.specs.declared.completion.Completion.{Completion}
use Rattle.iiif_singleflight.specs.declared.pass.Pass.{Pass}
use Rattle.iiif_group.specs.Beginning.{outcome_of, IsFirstFlight}
use Rattle.iiif_group.specs.Leads.{answered_lead, answered_value, asked_lead, settled_lead, settled_outcome, settled_place}
use Rattle.iiif_group.specs.declared.asked.Answer.{Answer}
use Rattle.iiif_group.specs.declared.asked.Answer.TheVariants.{Value, Nothing}
use Rattle.iiif_group.specs.declared.asked.SettledFlight.{SettledFlight}
use Rattle.iiif_group.specs.declared.begun.Begun.{Begun}
use Rattle.iiif_group.specs.declared.begun.Begun.TheVariants.{Known, Load}
use Rattle.iiif_group.specs.declared.begun.Completed.{Completed}
use Rattle.iiif_group.specs.declared.lookup.FlightEnd.{FlightEnd}

module _ {K J L V : Type 0} {a : cache_key.Ghosts K V} {b c : _} {d : system.Ghosts J} where
  -- An outcome for the flight that is led.
  abbrev pub OutcomeOf : {A : Type 0} → CheckedLead K J L V a b c d → Result (Arc V A) Fault → Type 0
  OutcomeOf led o = OutcomeFor a d (checked_key led) o

  -- A value for the flight that is led.
  pub record IsAnswer (led : CheckedLead K J L V a b c d) (v : V) : Type 0 where
    -- Where the image's bytes are stable and other nodes are honest, it is the key's meaning.
    pub meant : d.stable (a.name_of (checked_key led)) → IsTrue d.honest → v ≡ a.meaning d.pictures (checked_key led)
    -- It has the key's shape.
    pub shaped : IsTrue (a.is_shaped d.pictures (checked_key led) v)

  -- The completion of a flight that landed with this outcome.
  pub record ComesOf (led : CheckedLead K J L V a b c d) (outcome : Result (Arc V Global) Fault) (completion : Completion K J L V a b c d)
      : Type 0 where
    -- Where the cell took the outcome, it is known there.
    pub taken : IsTrue (completion_taken completion) → IfSome (completion_known completion) (λ x. x.outcome ≡ outcome)
    -- An outcome of this flight in the cell is of its key.
    pub own : IsTrue (completion_own completion) → IfSome (completion_known completion) (λ x. arc_value x.key ≡ checked_key led)
    -- An outcome that the cell refused comes back.
    pub refused : MatchOption (completion_refused completion) (IsTrue (completion_taken completion))
        (λ b. (b.value.outcome ≡ outcome) × (arc_value b.value.key ≡ checked_key led))
    -- The cell is the flight's.
    pub cell : completion_cell completion ≡ checked_cell led

  -- A flight that is settled with this outcome, and this place for its value.
  pub record IsSettled (led : CheckedLead K J L V a b c d) (o : Result (Arc V Global) Fault) (p : Place)
      (settled : SettledFlight K J L V a b c d) : Type 0 where
    -- The lead is its own.
    pub lead : settled_lead settled ≡ led
    -- So is the outcome.
    pub outcome : settled_outcome settled ≡ o
    -- And the place.
    pub place : settled_place settled ≡ p

  -- A flight that can land.
  pub record CanLand (settled : SettledFlight K J L V a b c d) : Type 0 where
    -- Its outcome is one of its key.
    pub outcome : OutcomeOf (settled_lead settled) (settled_outcome settled)
    -- The place is one for its class.
    pub place : HasPlace (checked_class (settled_lead settled)) (settled_place settled)

  -- The leader is told the outcome that stands in the cell, which is of its own flight.
  pub record Tells (completion : Completion K J L V a b c d) (told : FlightEnd K J L V a b c d) : Type 0 where
    -- The outcome in the cell is of the flight.
    pub own : IsTrue (completion_own completion)
    -- The receipt is of the cell.
    pub receipt : (receipt_known told.receipt ≡ completion_known completion) × (receipt_cell told.receipt ≡ completion_cell completion)
    -- An outcome that the cell refused comes back.
    pub refused : told.refused ≡ completion_refused completion

  -- A flight ends with this outcome, or hands it back.
  pub record Finishes (led : CheckedLead K J L V a b c d) (outcome : Result (Arc V Global) Fault) (told : FlightEnd K J L V a b c d)
      : Type 0 where
    -- The receipt's outcome is of the key.
    pub key : IsOf (checked_key led) told.receipt
    -- Where nothing is handed back, it is the outcome.
    pub ended : IfNone told.refused (IfSome (receipt_known told.receipt) (λ x. x.outcome ≡ outcome))
    -- An outcome that is handed back is this one.
    pub refused : IfSome told.refused (λ b. (b.value.outcome ≡ outcome) × (arc_value b.value.key ≡ checked_key led))
    -- The cell is the flight's.
    pub cell : receipt_cell told.receipt ≡ checked_cell led

  -- The ends of a local and a wide flight as that of their load, where it is known whether the wide one was given the same outcome.
  pub record Joins (local wide : FlightEnd K J L V a b c d) (same : Bool) (end : Completed K J L V a b c d) : Type 0 where
    -- The first receipt is that of the wide flight.
    pub receipt : end.receipt ≡ wide.receipt
    -- The other is that of the local one.
    pub loaded : end.loaded ≡ Some local.receipt
    -- It is exact where the outcome was the same and was taken.
    pub exact : IsTrue end.exact → IsTrue same × IsNone wide.refused
    -- It isn't where it wasn't the same, or was refused.
    pub wanting : IsFalse end.exact → IfNone wide.refused (IsFalse same)
    -- An outcome that was refused comes back, of the wide flight first.
    pub refused : MatchOption wide.refused (end.refused ≡ local.refused) (λ b. end.refused ≡ Some b)

  -- A flight ends with the outcome of another of its key, or with lack of memory.
  pub record Relays (led : CheckedLead K J L V a b c d) (receipt : Receipt K J L V a b c d) (told : FlightEnd K J L V a b c d) (same : Bool)
      : Type 0 where
    -- The receipt's outcome is of the key.
    pub key : IsOf (checked_key led) told.receipt
    -- An exact one has the other's outcome.
    pub exact : IsTrue same → IfNone told.refused (IfSome (receipt_known receipt) (λ x.
        IfSome (receipt_known told.receipt) (λ y. outcome_of y.outcome ≡ outcome_of x.outcome)))
    -- Any other has lack of memory.
    pub wanting : IsFalse same → IfNone told.refused
        (IfSome (receipt_known told.receipt) (λ x. outcome_of x.outcome ≡ Err NoMemory))
    -- A fault is told as it is.
    pub fault : IfSome (receipt_known receipt) (λ x. OnErr x.outcome (IsTrue same))
    -- The cell is the flight's.
    pub cell : receipt_cell told.receipt ≡ checked_cell led

module _ {K J L V : Type 0} {a : cache_key.Ghosts K V} {b c : _} {d : system.Ghosts J} {e : _} where
  -- The owner's answer for the flight that is led: a value of the key; or the lead of one who asked, where this holds, that the owner gave
  -- no value.
  abbrev pub AnswersFor : Type 0 → CheckedLead K J L V a b c d → Answer K J L V a b c d e → Type 0
  AnswersFor nothing led (Value answered) = (answered_lead answered ≡ led) × IsAnswer led (answered_value answered)
  AnswersFor nothing led (Nothing asked) = (asked_lead asked ≡ led) × nothing

module _ {K J L V : Type 0} {a b c d e : _} where
  -- A call that leads this flight is told by its cell, as all are who joined it; or it owes a load behind which it will be.
  abbrev pub IsToldBy : CheckedLead K J L V a b c d → Begun K J L V a b c d e → Type 0
  IsToldBy led (Known r) = receipt_cell r ≡ checked_cell led
  IsToldBy led (Load o) = IsFirstFlight o (checked_cell led)

-- A call that goes on is counted once at most.
pub record CountsOnceAtMost {L : Type 0} (old new : Pass L) : Type 0 where
  -- It is counted where it enters again.
  pub counted : (old.gets ≤ new.gets) × (new.gets ≤ old.gets + 1)
  -- The pass has as many parts as before.
  pub parts : new.parts ≡ old.parts
  -- It leads no wide flight.
  pub led : wide_leads new ≡ wide_leads old
