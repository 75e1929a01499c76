-- Single events, and where their changes go: a landing's value, an ask, a call, an answer; and what belongs to other nodes.
use Rattle.std.specs.Prelude.{◌≡◌, ◌↔◌, ◌⊎◌, ℕ, List, [], ◌∷◌, ◌++◌, Bool, Some, None, length, slice_get, slice_set}
use Rattle.iiif_ring.specs.Owner.{IsOwner}
use Rattle.iiif_machine.specs.Scenes.{Scene, IsProper}
use Rattle.iiif_machine.specs.Keys.{key_bytes}
use Rattle.iiif_machine.specs.Types.{Key, Picture, Resolved, Refusal}
use Rattle.iiif_machine.specs.Tables.{Class, Local, Outcome, Place, land}
use Rattle.iiif_machine.specs.Rows.{Node, ForRequest, ForPart, ForFallback, ForAsk, Caller, CallState, Fresh, Hit, In, Gone, Call}
use Rattle.iiif_machine.specs.Rows.{Lead, Fallback, Ready, Looked, Flight, Ask, RequestInfo, Answer, Refused, Waiting, Answered}
use Rattle.iiif_machine.specs.Rows.{Dropped, RequestRow}
use Rattle.iiif_machine.specs.Worlds.{World, new_world, table_at, put_table, learned, decided, collected, answer_from}
use Rattle.iiif_machine.specs.Steps.{Event, Want, Enter, Again, AskPeer, Serve, Take, Lose, GoLocal, Load, SourceFault, Land, Evict, Stop}
use Rattle.iiif_machine.specs.Steps.{step}
use Rattle.iiif_machine.specs.declared.events.Event.TheVariants as event
use Rattle.iiif_machine.specs.Sound.{facts, IsPlaced, IsSound}

-- The landing of a flight: of all tables one changes, that of the flight's node for its key; and it becomes what `land` makes of it with
-- this outcome at this place.
abbrev pub IsLanded : World → World → Lead → Outcome → Place → Bool → Type 0
IsLanded w v l o p kept = (n : Node) × (slice_get w.nodes l.node ≡ Some n) ×
    (v.nodes ≡ slice_set w.nodes l.node (put_table n l.key (land (table_at n l.key) l.key l.class l.ticket o p kept)))

-- A Land lands its flight with the outcome, and at the place, with which that was ready.
abbrev pub LandsInPlace : World → Event → World → Type 0
LandsInPlace w e v = (f : ℕ) (kept : Bool) (l : Lead) (o : Outcome) (p : Place) → e ≡ Land f kept →
    slice_get w.flights f ≡ Some (record { lead = l; stage = Ready o p }) → IsLanded w v l o p kept

abbrev pub LandsBy : Type 0
LandsBy = (w v : World) (e : Event) → step w e ≡ Some v → LandsInPlace w e v

-- One more ask: of this flight, for its key, to a node whose name owns the key on the ring of the flight's node.
abbrev pub IsAsked : World → World → ℕ → Type 0
IsAsked w v f = (l : Lead) × (n : Node) × (q : Ask) × (m : Node) ×
    (slice_get w.flights f ≡ Some (record { lead = l; stage = Looked })) × (slice_get w.nodes l.node ≡ Some n) ×
    (v.asks ≡ w.asks ++ q ∷ []) × (q.flight ≡ f) × (q.key ≡ l.key) ×
    (slice_get w.nodes q.node ≡ Some m) × IsOwner n.ring (key_bytes l.key) m.name

-- An AskPeer asks the owner of its flight's key; no other event asks.
abbrev pub AsksItsOwner : World → Event → World → Type 0
AsksItsOwner w (AskPeer f) v = IsAsked w v f
AsksItsOwner w (Want i name q) v = v.asks ≡ w.asks
AsksItsOwner w (Enter c) v = v.asks ≡ w.asks
AsksItsOwner w (Again f) v = v.asks ≡ w.asks
AsksItsOwner w (Serve a) v = v.asks ≡ w.asks
AsksItsOwner w (event.Reply c) v = v.asks ≡ w.asks
AsksItsOwner w (Take f r) v = v.asks ≡ w.asks
AsksItsOwner w (Lose f) v = v.asks ≡ w.asks
AsksItsOwner w (GoLocal f) v = v.asks ≡ w.asks
AsksItsOwner w (Load f) v = v.asks ≡ w.asks
AsksItsOwner w (SourceFault f x) v = v.asks ≡ w.asks
AsksItsOwner w (Land f kept) v = v.asks ≡ w.asks
AsksItsOwner w (Evict i keys) v = v.asks ≡ w.asks
AsksItsOwner w (Stop i) v = v.asks ≡ w.asks

abbrev pub AsksOwner : Type 0
AsksOwner = (w v : World) (e : Event) → IsPlaced w → step w e ≡ Some v → AsksItsOwner w e v

-- local exactly where the node owns the key
abbrev pub IsClassed : Node → Key → Class → Type 0
IsClassed n k c = (c ≡ Local) ↔ IsOwner n.ring (key_bytes k) n.name

-- a call of this node, of the class that the node's ring gives its key
abbrev pub IsClassedAt : World → ℕ → Caller → Type 0
IsClassedAt w i who = (n : Node) × (slice_get w.nodes i ≡ Some n) × (who.node ≡ i) × IsClassed n who.key who.class

-- The call is one that this event makes: Want for its request and Load for its flight's parts, local exactly where the node owns the key;
-- GoLocal for its flight's key and Serve for its ask's, always local. No other event makes a call.
abbrev pub MakesCall : World → Caller → Event → Type 0
MakesCall w who (Want i name q) = (who.purpose ≡ ForRequest (length w.requests)) × IsClassedAt w i who
MakesCall w who (Load f) = (who.purpose ≡ ForPart f) × ((l : Lead) × (slice_get (facts w).leads f ≡ Some l) × IsClassedAt w l.node who)
MakesCall w who (GoLocal f) = (who.purpose ≡ ForFallback f) × (who.class ≡ Local) ×
    ((l : Lead) × (slice_get (facts w).leads f ≡ Some l) × (who.node ≡ l.node) × (who.key ≡ l.key))
MakesCall w who (Serve a) = (who.purpose ≡ ForAsk a) × (who.class ≡ Local) ×
    ((q : Ask) × (slice_get w.asks a ≡ Some q) × (who.node ≡ q.node) × (who.key ≡ q.key))
MakesCall w who (Enter c) = ⊥
MakesCall w who (Again f) = ⊥
MakesCall w who (AskPeer f) = ⊥
MakesCall w who (event.Reply c) = ⊥
MakesCall w who (Take f r) = ⊥
MakesCall w who (Lose f) = ⊥
MakesCall w who (SourceFault f x) = ⊥
MakesCall w who (Land f kept) = ⊥
MakesCall w who (Evict i keys) = ⊥
MakesCall w who (Stop i) = ⊥

-- a call that stands after an event stood before it, or that event made it
abbrev pub CallHasOrigin : World → Event → World → Type 0
CallHasOrigin w e v = (c : ℕ) (who : Caller) → slice_get (facts v).callers c ≡ Some who →
    (slice_get (facts w).callers c ≡ Some who) ⊎ MakesCall w who e

abbrev pub CallsHaveOrigins : Type 0
CallsHaveOrigins = (w v : World) (e : Event) → IsPlaced w → step w e ≡ Some v → CallHasOrigin w e v

-- a call has entered: it found a value, is in a flight, or went with its node
abbrev pub HasEntered : CallState → Type 0
HasEntered Fresh = ⊥
HasEntered (Hit v) = Unit {0}
HasEntered (In f) = Unit {0}
HasEntered Gone = Unit {0}

-- A call that has entered keeps the value that it found, or its flight; or it goes, where its node stops.
abbrev pub CallsStay : World → Event → World → Type 0
CallsStay w e v = (c : ℕ) (who : Caller) (s : CallState) → HasEntered s →
    slice_get w.calls c ≡ Some (record { caller = who; state = s }) →
    (slice_get v.calls c ≡ Some (record { caller = who; state = s })) ⊎
    ((e ≡ Stop who.node) × (slice_get v.calls c ≡ Some (record { caller = who; state = Gone })))

abbrev pub EachCallStays : Type 0
EachCallStays = (w v : World) (e : Event) → step w e ≡ Some v → CallsStay w e v

-- A request that waits goes on to wait for its calls, or is answered; or it goes, where its node stops.
abbrev pub RequestsStay : World → Event → World → Type 0
RequestsStay w e v = (r : ℕ) (q : RequestInfo) (x : Resolved) (cs : List ℕ) →
    slice_get w.requests r ≡ Some (record { info = q; progress = Waiting x cs }) →
    (slice_get v.requests r ≡ Some (record { info = q; progress = Waiting x cs })) ⊎
    (((a : Answer) × (slice_get v.requests r ≡ Some (record { info = q; progress = Answered a }))) ⊎
    ((e ≡ Stop q.node) × (slice_get v.requests r ≡ Some (record { info = q; progress = Dropped }))))

abbrev pub EachRequestStays : Type 0
EachRequestStays = (w v : World) (e : Event) → step w e ≡ Some v → RequestsStay w e v

-- the request waited for calls, what they know by now decides it, and the answer is what it comes to
abbrev pub IsCollected : World → World → ℕ → RequestInfo → Answer → Type 0
IsCollected w v r q a = (p : Picture) × (x : Resolved) × (cs : List ℕ) × (os : List Outcome) ×
    (slice_get w.requests r ≡ Some (record { info = q; progress = Waiting x cs })) × (w.scene.shows q.name ≡ Some p) ×
    (decided v cs ≡ Some os) × (a ≡ answer_from w.scene p x (collected os))

-- the request came with this event, and the answer refuses it
abbrev pub IsRefusedBy : World → Event → ℕ → RequestInfo → Answer → Type 0
IsRefusedBy w e r q a = (e ≡ Want q.node q.name q.request) × (r ≡ length w.requests) × ((x : Refusal) × (a ≡ Refused x))

-- An answer that stands after an event stood before it; or it refuses the event's own request; or what the calls of its request know by
-- now decides it, and it is what that comes to: the image, or the first fault in the plan's order.
abbrev pub AnswerHasOrigin : World → Event → World → Type 0
AnswerHasOrigin w e v = (r : ℕ) (q : RequestInfo) (a : Answer) →
    slice_get v.requests r ≡ Some (record { info = q; progress = Answered a }) →
    (slice_get w.requests r ≡ Some (record { info = q; progress = Answered a })) ⊎ (IsRefusedBy w e r q a ⊎ IsCollected w v r q a)

abbrev pub AnswersHaveOrigins : Type 0
AnswersHaveOrigins = (w v : World) (e : Event) → step w e ≡ Some v → AnswerHasOrigin w e v

-- The event is one of this node: it names the node, a call or a flight of it, or an ask to it.
abbrev pub IsOfFlightAt : World → ℕ → ℕ → Type 0
IsOfFlightAt w f i = (l : Lead) × (slice_get (facts w).leads f ≡ Some l) × (l.node ≡ i)

abbrev pub IsOfCallAt : World → ℕ → ℕ → Type 0
IsOfCallAt w c i = (who : Caller) × (slice_get (facts w).callers c ≡ Some who) × (who.node ≡ i)

abbrev pub IsOfNode : World → ℕ → Event → Type 0
IsOfNode w i (Want j name q) = j ≡ i
IsOfNode w i (Enter c) = IsOfCallAt w c i
IsOfNode w i (Again f) = IsOfFlightAt w f i
IsOfNode w i (AskPeer f) = IsOfFlightAt w f i
IsOfNode w i (Serve a) = (q : Ask) × (slice_get w.asks a ≡ Some q) × (q.node ≡ i)
IsOfNode w i (event.Reply c) = IsOfCallAt w c i
IsOfNode w i (Take f r) = IsOfFlightAt w f i
IsOfNode w i (Lose f) = IsOfFlightAt w f i
IsOfNode w i (GoLocal f) = IsOfFlightAt w f i
IsOfNode w i (Load f) = IsOfFlightAt w f i
IsOfNode w i (SourceFault f x) = IsOfFlightAt w f i
IsOfNode w i (Land f kept) = IsOfFlightAt w f i
IsOfNode w i (Evict j keys) = j ≡ i
IsOfNode w i (Stop j) = j ≡ i

-- Nothing is due: what a flight or a request waits for isn't known yet.
pub record IsSettled (w : World) : Type 0 where
  pub flights : (f : ℕ) (l : Lead) (c : ℕ) → slice_get w.flights f ≡ Some (record { lead = l; stage = Fallback (Some c) }) →
      learned w c ≡ None
  pub requests : (r : ℕ) (q : RequestInfo) (x : Resolved) (cs : List ℕ) →
      slice_get w.requests r ≡ Some (record { info = q; progress = Waiting x cs }) → decided w cs ≡ None

-- Other nodes' rows stay as they are: those nodes with their tables, and their requests, calls and flights.
pub record OthersKeep (i : ℕ) (w v : World) : Type 0 where
  pub nodes : (j : ℕ) (n : Node) → ¬ (j ≡ i) → slice_get w.nodes j ≡ Some n → slice_get v.nodes j ≡ Some n
  pub requests : (r : ℕ) (q : RequestRow) → ¬ (q.info.node ≡ i) → slice_get w.requests r ≡ Some q → slice_get v.requests r ≡ Some q
  pub calls : (c : ℕ) (x : Call) → ¬ (x.caller.node ≡ i) → slice_get w.calls c ≡ Some x → slice_get v.calls c ≡ Some x
  pub flights : (f : ℕ) (x : Flight) → ¬ (x.lead.node ≡ i) → slice_get w.flights f ≡ Some x → slice_get v.flights f ≡ Some x

-- an event leaves other nodes' rows
abbrev pub KeepsOthers : World → Event → World → Type 0
KeepsOthers w e v = (i : ℕ) → IsOfNode w i e → OthersKeep i w v

-- each event does so where nothing is due
abbrev pub EachKeepsOthers : Type 0
EachKeepsOthers = (w v : World) (e : Event) → IsSound w → IsSettled w → step w e ≡ Some v → KeepsOthers w e v

-- nothing is due in a new world
abbrev pub NewIsSettled : Type 0
NewIsSettled = (s : Scene) (nodes : List Node) → IsSettled (new_world s nodes)

-- and each event leaves nothing due
abbrev pub EachStaysSettled : Type 0
EachStaysSettled = (w v : World) (e : Event) → IsProper w.scene → IsSound w → IsSettled w → step w e ≡ Some v → IsSettled v
