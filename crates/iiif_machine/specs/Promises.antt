-- The promises, of every list of events, in the images' own words.
use Rattle.std.specs.Prelude.{◌≡◌, ◌↔◌, ◌⊎◌, ℕ, suc, ◌<◌, ◌≤◌, List, [], ◌∷◌, ◌++◌, Bool, true, false, ◌||◌, Option, Some, None, Ok, Err}
use Rattle.std.specs.Prelude.{map, length, slice_get}
use Prim.Native.Nat.{zero}
use Rattle.iiif_pixel.specs.Picture.{dim_of}
use Rattle.iiif_canonical.specs.Canonical.{canonical}
use Rattle.iiif_ring.specs.Owner.{IsOwner}
use Rattle.iiif_tables.specs.Cache.{Cache}
use Rattle.iiif_tables.specs.Flights as tables
use Rattle.iiif_tables.specs.Flights.{flight_number}
use Rattle.iiif_machine.specs.Scenes.{Scene, IsProper}
use Rattle.iiif_machine.specs.Keys.{rank_of, meaning, parts_of}
use Rattle.iiif_machine.specs.Plans.{kind_of}
use Rattle.iiif_machine.specs.Images.{image}
use Rattle.iiif_machine.specs.Types.{Key, Value, Picture, Request, Refusal, Resolved, ReadFault}
use Rattle.iiif_machine.specs.Owners.{owner}
use Rattle.iiif_machine.specs.Tables.{Class, Wide, Local, Place, Outcome, Holds}
use Rattle.iiif_machine.specs.Rows.{Node, Purpose, ForRequest, ForPart, ForFallback, ForAsk, Caller, Call, Fresh, In, Lead, Stage, New}
use Rattle.iiif_machine.specs.Rows.{Looked, Asking, Fallback, Parts, Ready, Ended, Ask, Reply, RequestInfo, Answer, Refused, Image, Failed}
use Rattle.iiif_machine.specs.Rows.{Answered, Waiting, Gone, RequestRow}
use Rattle.iiif_machine.specs.Worlds.{World, new_world, version_shown, learned, all_learned, decided, collected}
use Rattle.iiif_machine.specs.Steps.{Event, Want, Enter, Again, AskPeer, Serve, Take, Lose, GoLocal, Load, SourceFault, Land, Evict, Stop}
use Rattle.iiif_machine.specs.Steps.{is_open, step, run}
use Rattle.iiif_machine.specs.declared.events.Event.TheVariants as event
use Rattle.iiif_machine.specs.Sound.{Each, Kept, facts, IsHonest, AnswerIsRight, card_of, cards, NamesNodes, IsSound}

-- a node whose tables are new
abbrev pub IsNew : Node → Type 0
IsNew n = ((l : ℕ) × (r : ℕ) × (n.tiles ≡ tables.empty_table l r)) × ((l : ℕ) × (r : ℕ) × (n.sums ≡ tables.empty_table l r))

-- P holds of the world after an event, if it was allowed
abbrev pub After : (World → Type 0) → Option World → Type 0
After P None = Unit {0}
After P (Some w) = P w

-- an answer that was given is the same
abbrev pub AnswersStay : World → World → Type 0
AnswersStay w v = (i : ℕ) (q : RequestInfo) (a : Answer) → slice_get w.requests i ≡ Some (record { info = q; progress = Answered a }) →
    slice_get v.requests i ≡ Some (record { info = q; progress = Answered a })

-- a flight that has ended has the same outcome, or none
abbrev pub EndedStay : World → World → Type 0
EndedStay w v = (f : ℕ) (l : Lead) (o : Option Outcome) → slice_get w.flights f ≡ Some (record { lead = l; stage = Ended o }) →
    slice_get v.flights f ≡ Some (record { lead = l; stage = Ended o })

abbrev pub info_of : RequestRow → RequestInfo
info_of q = q.info

-- No request, call, flight, ask or reply is taken away, and what of it never changes stays.
pub record RowsStay (w v : World) : Type 0 where
  pub infos : Kept (map info_of w.requests) (map info_of v.requests)
  pub callers : Kept (facts w).callers (facts v).callers
  pub leads : Kept (facts w).leads (facts v).leads
  pub asks : Kept w.asks v.asks
  pub replies : Kept w.replies v.replies

-- The scene and the nodes' names and rings stay, no row is taken away, a fault that was given is not taken back, and what was
-- answered, or has ended, stays so.
pub record Follows (w v : World) : Type 0 where
  pub scene : v.scene ≡ w.scene
  pub cards : cards v ≡ cards w
  pub rows : RowsStay w v
  pub given : Kept w.given v.given
  pub answers : AnswersStay w v
  pub ended : EndedStay w v

-- Each event keeps it; what was given or answered stays so.
abbrev pub EachStep : Type 0
EachStep = (w : World) (e : Event) → IsProper w.scene → IsSound w → After (λ v. Follows w v × IsSound v) (step w e)

-- So does each list of events that is allowed: what was given or answered, or has ended, is the same after all of it.
abbrev pub EachRunFollows : Type 0
EachRunFollows = (w : World) (es : List Event) → IsProper w.scene → IsSound w → After (λ v. Follows w v × IsSound v) (run w es)

-- After every list of events that is allowed it holds.
abbrev pub EachRun : Type 0
EachRun = (s : Scene) (nodes : List Node) (es : List Event) → IsProper s → Each IsNew nodes →
    Each (NamesNodes (map card_of nodes)) (map card_of nodes) →
    After IsSound (run (new_world s nodes) es)

-- Then an answered request has its image, its refusal, or a fault that was given at its node by the source of its name.
abbrev pub AnswersRight : World → Type 0
AnswersRight w = (i : ℕ) (q : RequestInfo) (a : Answer) → slice_get w.requests i ≡ Some (record { info = q; progress = Answered a }) →
    AnswerIsRight w.scene w.given q a

abbrev pub AnswersAreRight : Type 0
AnswersAreRight = (w : World) → IsSound w → AnswersRight w

-- A request that has no image, but a refusal, is answered so at once, by the event with which it comes.
abbrev pub RefusedNow : World → Event → World → Type 0
RefusedNow w e v = (i : ℕ) (name : List ℕ) (q : Request) (p : Picture) (r : Refusal) → e ≡ Want i name q → w.scene.shows name ≡ Some p →
    image w.scene p q ≡ Err r →
    slice_get v.requests (length w.requests) ≡ Some
    (record { info = record { node = i; name = name; request = q }; progress = Answered (Refused r) })

abbrev pub RefusedAtOnce : Type 0
RefusedAtOnce = (w v : World) (e : Event) → IsProper w.scene → step w e ≡ Some v → RefusedNow w e v

-- a value that is kept is its key's meaning
abbrev pub KeptRight : World → Type 0
KeptRight w = (i : ℕ) (n : Node) (k : Key) (v : Value) → slice_get w.nodes i ≡ Some n → (Holds n.tiles k v → v ≡ meaning w.scene k) ×
    (Holds n.sums k v → v ≡ meaning w.scene k)

-- what a call knows is its key's meaning, or a fault that was given at its node by the source of its key's name
abbrev pub KnownRight : World → Type 0
KnownRight w = (c : ℕ) (call : Call) (o : Outcome) → slice_get w.calls c ≡ Some call → learned w c ≡ Some o →
    IsHonest w.scene w.given call.caller.node call.caller.key o

-- a value that is replied is its key's meaning
abbrev pub RepliedRight : World → Type 0
RepliedRight w = (i : ℕ) (r : Reply) (v : Value) → slice_get w.replies i ≡ Some r → r.outcome ≡ Ok v → v ≡ meaning w.scene r.key

abbrev pub ValuesAreMeanings : Type 0
ValuesAreMeanings = (w : World) → IsSound w → KeptRight w × KnownRight w × RepliedRight w

-- whether the read of a source fails in a list of events
abbrev pub fails_read : Event → Bool
fails_read (SourceFault f e) = true
fails_read e = false

abbrev pub reads_fail : List Event → Bool
reads_fail [] = false
reads_fail (e ∷ es) = fails_read e || reads_fail es

-- where none does, no fault is given
abbrev pub OnlySourcesGive : Type 0
OnlySourcesGive = (w : World) (es : List Event) → reads_fail es ≡ false → After (λ v. v.given ≡ w.given) (run w es)

-- where no source gave a fault, no answer is one
abbrev pub NoneFailed : World → Type 0
NoneFailed w = (i : ℕ) (q : RequestInfo) (f : ReadFault) →
    ¬ (slice_get w.requests i ≡ Some (record { info = q; progress = Answered (Failed f) }))

abbrev pub NoFaultNoFailure : Type 0
NoFaultNoFailure = (w : World) → IsSound w → w.given ≡ [] → NoneFailed w

-- a flight is at a stage
abbrev pub IsAt : World → ℕ → Stage → Type 0
IsAt w f s = (l : Lead) × (slice_get w.flights f ≡ Some (record { lead = l; stage = s }))

-- a flight of a class is at a stage
abbrev pub IsOfClassAt : World → ℕ → Class → Stage → Type 0
IsOfClassAt w f c s = (l : Lead) × (slice_get w.flights f ≡ Some (record { lead = l; stage = s })) × (l.class ≡ c)

abbrev pub HasNode : World → ℕ → Type 0
HasNode w i = (n : Node) × (slice_get w.nodes i ≡ Some n)

-- a node has this number, and speaks a version
abbrev pub Speaks : World → ℕ → ℕ → Type 0
Speaks w i v = (n : Node) × (slice_get w.nodes i ≡ Some n) × (v ≤ n.version)

-- when an event is allowed
abbrev pub IsAllowed : World → Event → Type 0
IsAllowed w (Want i name q) = (p : Picture) × (w.scene.shows name ≡ Some p) × Speaks w i (version_shown p)
IsAllowed w (Enter c) = (who : Caller) × (slice_get w.calls c ≡ Some (record { caller = who; state = Fresh }))
IsAllowed w (Again f) = IsAt w f New
IsAllowed w (AskPeer f) = IsOfClassAt w f Wide Looked
IsAllowed w (Serve a) = (q : Ask) × (slice_get w.asks a ≡ Some q) × Speaks w q.node q.version
IsAllowed w (event.Reply c) = (call : Call) × (slice_get w.calls c ≡ Some call) × ((a : ℕ) × (call.caller.purpose ≡ ForAsk a)) ×
    ((o : Outcome) × (learned w c ≡ Some o))
IsAllowed w (Take f r) = (IsAt w f Asking ⊎ ((o : Option Outcome) × IsAt w f (Ended o))) ×
    ((reply : Reply) × (slice_get w.replies r ≡ Some reply))
IsAllowed w (Lose f) = IsAt w f Asking
IsAllowed w (GoLocal f) = IsAt w f (Fallback None)
IsAllowed w (Load f) = IsOfClassAt w f Local Looked ⊎
    ((cs : List ℕ) × IsOfClassAt w f Local (Parts cs) × ((os : List Outcome) × (decided w cs ≡ Some os)))
IsAllowed w (SourceFault f e) = (l : Lead) × (slice_get w.flights f ≡ Some (record { lead = l; stage = Looked })) × (l.class ≡ Local) ×
    (parts_of l.key ≡ None)
IsAllowed w (Land f kept) = (o : Outcome) × (p : Place) × IsAt w f (Ready o p)
IsAllowed w (Evict i keys) = HasNode w i
IsAllowed w (Stop i) = HasNode w i

-- There is a world after an event exactly where it is allowed.
abbrev pub AllowedExactly : Type 0
AllowedExactly = (w : World) (e : Event) → IsSound w → IsAllowed w e ↔ ((v : World) × (step w e ≡ Some v))

-- a request and its canonical form, where both are answered with images, have one image
abbrev pub FormsAgree : World → Type 0
FormsAgree w = (i j : ℕ) (q r : RequestInfo) (a b p : Picture) →
    slice_get w.requests i ≡ Some (record { info = q; progress = Answered (Image a) }) →
    slice_get w.requests j ≡ Some (record { info = r; progress = Answered (Image b) }) → r.name ≡ q.name → w.scene.shows q.name ≡ Some p →
    canonical q.request (dim_of p) (kind_of p) w.scene.limits ≡ Ok r.request → a ≡ b

abbrev pub CanonicalFormsAgree : Type 0
CanonicalFormsAgree = (w : World) → IsProper w.scene → IsSound w → FormsAgree w

-- The number of a flight: each waits only for flights of smaller numbers.
abbrev pub number_of : Lead → ℕ
number_of l = flight_number (rank_of l.key) l.class

-- the call is made by the flight, or serves an ask of it
abbrev pub IsOf : World → ℕ → Purpose → Type 0
IsOf w f (ForRequest r) = ⊥
IsOf w f (ForPart e) = e ≡ f
IsOf w f (ForFallback e) = e ≡ f
IsOf w f (ForAsk a) = (q : Ask) × (slice_get w.asks a ≡ Some q) × (q.flight ≡ f)

-- a stage waits for what this call will know
abbrev pub AwaitedAt : Stage → ℕ → Type 0
AwaitedAt New c = ⊥
AwaitedAt Looked c = ⊥
AwaitedAt Asking c = ⊥
AwaitedAt (Fallback None) c = ⊥
AwaitedAt (Fallback (Some d)) c = c ≡ d
AwaitedAt (Parts cs) c = (i : ℕ) × (slice_get cs i ≡ Some c)
AwaitedAt (Ready o p) c = ⊥
AwaitedAt (Ended o) c = ⊥

-- so does a flight at its stage
abbrev pub IsAwaited : World → ℕ → ℕ → Type 0
IsAwaited w f c = (l : Lead) × (s : Stage) × (slice_get w.flights f ≡ Some (record { lead = l; stage = s })) × AwaitedAt s c

-- The first flight waits for the second: a call that it waits for, one that it made, or one that serves an ask of it, is in the second.
pub record Waits (w : World) (f g : ℕ) : Type 0 where
  pub number : ℕ
  pub who : Caller
  pub call : slice_get w.calls number ≡ Some (record { caller = who; state = In g })
  pub for : IsAwaited w f number ⊎ IsOf w f who.purpose

-- each wait goes to a smaller number
abbrev pub WaitsGoDown : World → Type 0
WaitsGoDown w = (f g : ℕ) (l m : Lead) → Waits w f g → slice_get (facts w).leads f ≡ Some l → slice_get (facts w).leads g ≡ Some m →
    number_of m < number_of l

abbrev pub WaitsFall : Type 0
WaitsFall = (w : World) → IsSound w → WaitsGoDown w

-- the first flight waits for the second, over so many others
abbrev pub WaitsOver : World → ℕ → ℕ → ℕ → Type 0
WaitsOver w zero f g = Waits w f g
WaitsOver w (suc n) f g = (h : ℕ) × Waits w f h × WaitsOver w n h g

-- no flight waits for itself, over however many others
abbrev pub NoCircle : World → Type 0
NoCircle w = (n f : ℕ) → ¬ WaitsOver w n f f

abbrev pub NoneWaitsForItself : Type 0
NoneWaitsForItself = (w : World) → IsSound w → NoCircle w

-- calls of one flight that know anything know one outcome
abbrev pub ShareOutcomes : World → Type 0
ShareOutcomes w = (c d f : ℕ) (who that : Caller) → slice_get w.calls c ≡ Some (record { caller = who; state = In f }) →
    slice_get w.calls d ≡ Some (record { caller = that; state = In f }) → learned w c ≡ learned w d

abbrev pub OneOutcome : Type 0
OneOutcome = (w : World) → ShareOutcomes w

-- the owner that a node asks is the ring's
abbrev pub OwnerIsTheRings : Type 0
OwnerIsTheRings = (names : List (List ℕ)) (key : List ℕ) → 0 < length names → IsOwner names key (owner names key)

-- What is collected of values, and of a fault with values before it, is the values, and that fault: the first one.
abbrev pub FirstFaultCounts : Type 0
FirstFaultCounts = (values : List Value) → (collected (map (λ v. Ok v) values) ≡ Ok values)
    × ((f : ReadFault) (rest : List Outcome) → collected (map (λ v. Ok v) values ++ Err f ∷ rest) ≡ Err f)

-- Where faults aren't early, what decides is what all calls know.
abbrev pub AllDecide : Type 0
AllDecide = (w : World) (cs : List ℕ) → w.scene.faults_early ≡ false → decided w cs ≡ all_learned w cs

-- Early or not, where all calls know, it comes to what they come to.
abbrev pub EarlyIsSame : Type 0
EarlyIsSame = (w : World) (cs : List ℕ) (os : List Outcome) → all_learned w cs ≡ Some os →
    (ds : List Outcome) × (decided w cs ≡ Some ds) × (collected ds ≡ collected os)

-- Where faults are early, a call that knows a fault decides, where each before it knows a value, whatever those behind it know; and one
-- that knows nothing leaves it open.
abbrev pub FirstFaultDecides : Type 0
FirstFaultDecides = (w : World) (cs ds : List ℕ) (c : ℕ) (vs : List Value) → w.scene.faults_early ≡ true →
    all_learned w cs ≡ Some (map (λ v. Ok v) vs) →
    ((f : ReadFault) → learned w c ≡ Some (Err f) → decided w (cs ++ c ∷ ds) ≡ Some (map (λ v. Ok v) vs ++ Err f ∷ []))
    × (learned w c ≡ None → decided w (cs ++ c ∷ ds) ≡ None)

-- what is kept at each node
abbrev pub caches : World → List (Cache Key Value × Cache Key Value)
caches w = map (λ n. (n.tiles.cache, n.sums.cache)) w.nodes

-- a landing that isn't to be kept keeps nothing, and takes nothing away
abbrev pub NotKeptStays : Type 0
NotKeptStays = (w v : World) (f : ℕ) → step w (Land f false) ≡ Some v → caches v ≡ caches w

-- a reply makes no flight ready with a fault
abbrev pub NoFaultIsTaken : Type 0
NoFaultIsTaken = (w v : World) (f r g : ℕ) (l : Lead) (e : ReadFault) (p : Place) → step w (Take f r) ≡ Some v →
    slice_get v.flights g ≡ Some (record { lead = l; stage = Ready (Err e) p }) →
    slice_get w.flights g ≡ Some (record { lead = l; stage = Ready (Err e) p })

-- A node has stopped: its calls are gone, its flights have ended, none of its requests waits, and its tables hold nothing.
pub record HasStopped (i : ℕ) (w : World) : Type 0 where
  pub calls : Each (λ c. c.caller.node ≡ i → c.state ≡ Gone) w.calls
  pub flights : Each (λ fl. fl.lead.node ≡ i → is_open fl.stage ≡ false) w.flights
  pub requests : Each (λ q. q.info.node ≡ i → (r : Resolved) (cs : List ℕ) → ¬ (q.progress ≡ Waiting r cs)) w.requests
  pub tables : (n : Node) (k : Key) (v : Value) → slice_get w.nodes i ≡ Some n → ¬ (Holds n.tiles k v) × ¬ (Holds n.sums k v)

abbrev pub StopTakesAll : Type 0
StopTakesAll = (w v : World) (i : ℕ) → step w (Stop i) ≡ Some v → HasStopped i v
