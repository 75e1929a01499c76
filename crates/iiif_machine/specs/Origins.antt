-- How flights become ready, and where faults come from.
use Rattle.std.specs.Prelude.{◌≡◌, ◌⊎◌, ℕ, List, ◌∷◌, ◌++◌, true, Some, Ok, Err, map, slice_get, length}
use Rattle.iiif_machine.specs.Keys.{name_of}
use Rattle.iiif_machine.specs.Types.{Value, ReadFault}
use Rattle.iiif_machine.specs.Tables.{Outcome, Place, Nowhere, Main, Peer}
use Rattle.iiif_machine.specs.Rows.{Given, Caller, In, Lead, Fallback, Parts, Ready, Flight}
use Rattle.iiif_machine.specs.Worlds.{World, learned, decided}
use Rattle.iiif_machine.specs.Steps.{Event, Want, Enter, Again, AskPeer, Serve, Take, Lose, GoLocal, Load, SourceFault, Land, Evict, Stop}
use Rattle.iiif_machine.specs.Steps.{is_open, step, run}
use Rattle.iiif_machine.specs.declared.events.Event.TheVariants as event
use Rattle.iiif_machine.specs.Sound.{facts}

-- the first fault of outcomes: what stands before it are values
abbrev pub IsFirstFault : List Outcome → ReadFault → Type 0
IsFirstFault os x = (vs : List Value) × (rest : List Outcome) × (os ≡ map (λ v. Ok v) vs ++ Err x ∷ rest)

-- the flight waits for its parts, what their calls know decides it, and this is the first fault of it
abbrev pub PartsFail : World → ℕ → ReadFault → Type 0
PartsFail w f x = (l : Lead) × (cs : List ℕ) × (os : List Outcome) ×
    (slice_get w.flights f ≡ Some (record { lead = l; stage = Parts cs })) ×
    (decided w cs ≡ Some os) × IsFirstFault os x

-- the flight waited for the local call that it made after asking in vain, and that call knows this outcome by now
abbrev pub OwnCallKnows : World → World → ℕ → Outcome → Type 0
OwnCallKnows w v f o = (l : Lead) × (c : ℕ) × (slice_get w.flights f ≡ Some (record { lead = l; stage = Fallback (Some c) })) ×
    (learned v c ≡ Some o)

abbrev pub IsValue : Outcome → Type 0
IsValue (Ok v) = Unit {0}
IsValue (Err x) = ⊥

-- what a sum's flight comes to: a value, or the first fault that a call of its parts knows
abbrev pub IsMerged : World → ℕ → Outcome → Type 0
IsMerged w f (Ok v) = Unit {0}
IsMerged w f (Err x) = PartsFail w f x

-- An event makes the flight g ready with an outcome, and its value is to be kept in a place: a value found again nowhere, a peer's by
-- the rule for peers, one that is read or merged in main. A call that enters or learns makes those ready whose own local call knows
-- then, and their values are kept nowhere: the local flight's landing kept them. No other event makes a flight ready.
abbrev pub MakesReady : World → World → ℕ → Outcome → Place → Event → Type 0
MakesReady w v g o p (Again f) = (g ≡ f) × IsValue o × (p ≡ Nowhere)
MakesReady w v g o p (Take f r) = (g ≡ f) × IsValue o × (p ≡ Peer)
MakesReady w v g o p (Load f) = (g ≡ f) × IsMerged w f o × (p ≡ Main)
MakesReady w v g o p (SourceFault f x) = (g ≡ f) × (o ≡ Err x) × (p ≡ Main)
MakesReady w v g o p (Enter c) = OwnCallKnows w v g o × (p ≡ Nowhere)
MakesReady w v g o p (Land f kept) = OwnCallKnows w v g o × (p ≡ Nowhere)
MakesReady w v g o p (Want i name q) = ⊥
MakesReady w v g o p (AskPeer f) = ⊥
MakesReady w v g o p (Serve a) = ⊥
MakesReady w v g o p (event.Reply c) = ⊥
MakesReady w v g o p (Lose f) = ⊥
MakesReady w v g o p (GoLocal f) = ⊥
MakesReady w v g o p (Evict i keys) = ⊥
MakesReady w v g o p (Stop i) = ⊥

-- a flight that is ready after an event was so before, or that event made it so
abbrev pub ReadyHasOrigin : World → Event → World → Type 0
ReadyHasOrigin w e v = (g : ℕ) (l : Lead) (o : Outcome) (p : Place) →
    slice_get v.flights g ≡ Some (record { lead = l; stage = Ready o p }) →
    (slice_get w.flights g ≡ Some (record { lead = l; stage = Ready o p })) ⊎ MakesReady w v g o p e

abbrev pub FlightsBecomeReady : Type 0
FlightsBecomeReady = (w v : World) (e : Event) → step w e ≡ Some v → ReadyHasOrigin w e v

-- where a flight's fault comes from: its own read failed; or, at its Load, it is the first that a call of its parts knows; or its own
-- local call knows it
abbrev pub IsOriginOf : World → Event → World → ℕ → ReadFault → Type 0
IsOriginOf w e v g x = (e ≡ SourceFault g x) ⊎ (((e ≡ Load g) × PartsFail w g x) ⊎ OwnCallKnows w v g (Err x))

-- a flight that is ready with a fault after an event was so before, or its fault comes so
abbrev pub FaultHasOrigin : World → Event → World → Type 0
FaultHasOrigin w e v = (g : ℕ) (l : Lead) (x : ReadFault) (p : Place) →
    slice_get v.flights g ≡ Some (record { lead = l; stage = Ready (Err x) p }) →
    (slice_get w.flights g ≡ Some (record { lead = l; stage = Ready (Err x) p })) ⊎ IsOriginOf w e v g x

abbrev pub FaultsHaveOrigins : Type 0
FaultsHaveOrigins = (w v : World) (e : Event) → step w e ≡ Some v → FaultHasOrigin w e v

-- a call that enters a flight joins one that is open at that moment, or leads a new one
abbrev pub JoinsOpen : Type 0
JoinsOpen = (w v : World) (c f : ℕ) (who : Caller) → step w (Enter c) ≡ Some v →
    slice_get v.calls c ≡ Some (record { caller = who; state = In f }) →
    ((x : Flight) × (slice_get w.flights f ≡ Some x) × (is_open x.stage ≡ true)) ⊎ (f ≡ length w.flights)

-- a fault that an event of the list gave: the read of a flight of this node, for a key of this name, failed with it
pub record IsGivenIn (es : List Event) (w : World) (g : Given) : Type 0 where
  pub place : ℕ
  pub flight : ℕ
  pub lead : Lead
  pub event : slice_get es place ≡ Some (SourceFault flight g.fault)
  pub led : slice_get (facts w).leads flight ≡ Some lead
  pub node : lead.node ≡ g.node
  pub name : name_of lead.key ≡ g.name

-- each fault that stands in the world after a list of events stood there before, or one of the events gave it
abbrev pub GivenBy : World → List Event → World → Type 0
GivenBy w es v = (i : ℕ) (g : Given) → slice_get v.given i ≡ Some g → (slice_get w.given i ≡ Some g) ⊎ IsGivenIn es v g

abbrev pub EventsGive : Type 0
EventsGive = (w v : World) (es : List Event) → run w es ≡ Some v → GivenBy w es v
