-- What holds of a world at all times.
use Rattle.std.specs.Prelude.{◌≡◌, ◌<◌, ℕ, List, [], ◌∷◌, true, Some, None, Ok, Err, map, length, slice_get}
use Rattle.iiif_machine.specs.Scenes.{Scene}
use Rattle.iiif_machine.specs.Keys.{name_of, rank_of, Fits, meaning, parts_of}
use Rattle.iiif_machine.specs.Plans.{resolved, items}
use Rattle.iiif_machine.specs.Images.{image}
use Rattle.iiif_machine.specs.Types.{Key, Value, Picture}
use Rattle.iiif_machine.specs.Tables.{Class, Wide, Local, Table, Outcome, Holds, IsOpen}
use Rattle.iiif_machine.specs.Rows.{Node, Given, Purpose, ForRequest, ForPart, ForFallback, ForAsk, Caller, CallState, Fresh, Hit, In}
use Rattle.iiif_machine.specs.Rows.{Gone, Call, Lead, Stage, New, Looked, Asking, Fallback, Parts, Ready, Ended, Flight, Ask, Reply}
use Rattle.iiif_machine.specs.Rows.{RequestInfo}
use Rattle.iiif_machine.specs.Rows.{Answer, Refused, Image, Failed, Progress, Waiting, Answered, Dropped, RequestRow}
use Rattle.iiif_machine.specs.Worlds.{World, table_at, version_at}
use Rattle.iiif_machine.specs.Steps.{is_open}

-- P holds of each, which stands at the number i
abbrev pub Each : {A : Type 0} → (A → Type 0) → List A → Type 0
Each P xs = (i : ℕ) (x : _) → slice_get xs i ≡ Some x → P x

-- each stays where it is
abbrev pub Kept : {A : Type 0} → List A → List A → Type 0
Kept xs ys = (i : ℕ) (x : _) → slice_get xs i ≡ Some x → slice_get ys i ≡ Some x

-- what of the rows never changes
pub record Facts : Type 0 where
  pub callers : List Caller
  pub leads : List Lead
  pub asks : List Ask
  pub given : List Given

abbrev pub caller_of : Call → Caller
caller_of c = c.caller

abbrev pub lead_in : Flight → Lead
lead_in f = f.lead

abbrev pub facts : World → Facts
facts w = record { callers = map caller_of w.calls; leads = map lead_in w.flights; asks = w.asks; given = w.given }

-- a value is its key's meaning; a fault was given, at this node, by the source of the key's name
abbrev pub IsHonest : Scene → List Given → ℕ → Key → Outcome → Type 0
IsHonest s given node k (Ok v) = v ≡ meaning s k
IsHonest s given node k (Err f) = (i : ℕ) × (slice_get given i ≡ Some (record { node = node; name = name_of k; fault = f }))

-- these calls are of this node, and of these keys, one after another
abbrev pub AreOf : List Caller → ℕ → List ℕ → List Key → Type 0
AreOf callers node [] [] = Unit {0}
AreOf callers node [] (k ∷ ks) = ⊥
AreOf callers node (c ∷ cs) [] = ⊥
AreOf callers node (c ∷ cs) (k ∷ ks) =
    ((who : Caller) × (slice_get callers c ≡ Some who) × (who.node ≡ node) × (who.key ≡ k)) × AreOf callers node cs ks

-- A flight that asks, or has asked in vain, is wide, and its own call is of its key; the calls of a sum's parts are of its parts'
-- keys; what is ready, or has ended, is honest.
abbrev pub StageIsHonest : Scene → Facts → Lead → Stage → Type 0
StageIsHonest s a l New = Unit {0}
StageIsHonest s a l Looked = Unit {0}
StageIsHonest s a l Asking = l.class ≡ Wide
StageIsHonest s a l (Fallback None) = l.class ≡ Wide
StageIsHonest s a l (Fallback (Some c)) = (l.class ≡ Wide) × AreOf a.callers l.node (c ∷ []) (l.key ∷ [])
StageIsHonest s a l (Parts cs) = (ks : List Key) × (parts_of l.key ≡ Some ks) × AreOf a.callers l.node cs ks
StageIsHonest s a l (Ready o p) = IsHonest s a.given l.node l.key o
StageIsHonest s a l (Ended None) = Unit {0}
StageIsHonest s a l (Ended (Some o)) = IsHonest s a.given l.node l.key o

pub record FlightIsHonest (s : Scene) (a : Facts) (f : Flight) : Type 0 where
  pub fits : Fits s f.lead.key
  pub stage : StageIsHonest s a f.lead f.stage

-- a value that a call found is its key's meaning; the flight that it is in is of its node, key and class
abbrev pub StateIsHonest : Scene → Facts → Caller → CallState → Type 0
StateIsHonest s a who Fresh = Unit {0}
StateIsHonest s a who (Hit v) = v ≡ meaning s who.key
StateIsHonest s a who (In f) = (l : Lead) × (slice_get a.leads f ≡ Some l) × (l.node ≡ who.node) × (l.key ≡ who.key) × (l.class ≡ who.class)
StateIsHonest s a who Gone = Unit {0}

-- For what a call is made: a part of a flight's sum is of a lower rank; the call of a flight that asked in vain, or the one that
-- serves a flight's ask, is a local one of the same key, and that flight is wide.
abbrev pub PurposeIsRight : Facts → Caller → Purpose → Type 0
PurposeIsRight a who (ForRequest r) = Unit {0}
PurposeIsRight a who (ForPart f) = (l : Lead) × (slice_get a.leads f ≡ Some l) × (rank_of who.key < rank_of l.key)
PurposeIsRight a who (ForFallback f) = (l : Lead) × (slice_get a.leads f ≡ Some l) × (l.key ≡ who.key) × (l.class ≡ Wide) ×
    (who.class ≡ Local)
PurposeIsRight a who (ForAsk n) = (q : Ask) × (slice_get a.asks n ≡ Some q) × (q.key ≡ who.key) × (who.class ≡ Local)

pub record CallerIsRight (s : Scene) (a : Facts) (who : Caller) : Type 0 where
  pub fits : Fits s who.key
  pub purpose : PurposeIsRight a who who.purpose

pub record CallIsHonest (s : Scene) (a : Facts) (c : Call) : Type 0 where
  pub caller : CallerIsRight s a c.caller
  pub state : StateIsHonest s a c.caller c.state

-- an ask is of a wide flight, for its key, and of the key's version
pub record AskIsHonest (s : Scene) (a : Facts) (q : Ask) : Type 0 where
  pub fits : Fits s q.key
  pub flight : (l : Lead) × (slice_get a.leads q.flight ≡ Some l) × (l.key ≡ q.key) × (l.class ≡ Wide)
  pub version : q.version ≡ version_at s q.key

-- a value that is replied is its key's meaning
abbrev pub ReplyIsHonest : Scene → Reply → Type 0
ReplyIsHonest s r = (v : Value) → r.outcome ≡ Ok v → v ≡ meaning s r.key

-- a value that is kept is its key's meaning
abbrev pub TableIsHonest : Scene → Table → Type 0
TableIsHonest s t = (k : Key) (v : Value) → Holds t k v → v ≡ meaning s k

pub record NodeIsHonest (s : Scene) (n : Node) : Type 0 where
  pub tiles : TableIsHonest s n.tiles
  pub sums : TableIsHonest s n.sums

-- an answer is the image, or the refusal, or a fault that was given at this node by the source of this name
abbrev pub AnswerIsRight : Scene → List Given → RequestInfo → Answer → Type 0
AnswerIsRight s given q (Refused e) = (p : Picture) × (s.shows q.name ≡ Some p) × (image s p q.request ≡ Err e)
AnswerIsRight s given q (Image i) = (p : Picture) × (s.shows q.name ≡ Some p) × (image s p q.request ≡ Ok i)
AnswerIsRight s given q (Failed f) = (i : ℕ) × (slice_get given i ≡ Some (record { node = q.node; name = q.name; fault = f }))

-- a request that waits has the calls of its plan's items; one that is answered is answered right
abbrev pub ProgressIsHonest : Scene → Facts → RequestInfo → Progress → Type 0
ProgressIsHonest s a q (Waiting r cs) =
    (p : Picture) × (s.shows q.name ≡ Some p) × (resolved s p q.request ≡ Ok r) × AreOf a.callers q.node cs (items s q.name p r)
ProgressIsHonest s a q (Answered x) = AnswerIsRight s a.given q x
ProgressIsHonest s a q Dropped = Unit {0}

-- what is kept, known, asked, replied and answered is honest
pub record IsHonestWorld (w : World) : Type 0 where
  pub nodes : Each (NodeIsHonest w.scene) w.nodes
  pub flights : Each (FlightIsHonest w.scene (facts w)) w.flights
  pub calls : Each (CallIsHonest w.scene (facts w)) w.calls
  pub asks : Each (AskIsHonest w.scene (facts w)) w.asks
  pub replies : Each (ReplyIsHonest w.scene) w.replies
  pub requests : Each (λ q. ProgressIsHonest w.scene (facts w) q.info q.progress) w.requests

-- the flight's node has it open in its table
abbrev pub IsRegistered : List Node → Lead → Type 0
IsRegistered nodes l = (n : Node) × (slice_get nodes l.node ≡ Some n) × IsOpen (table_at n l.key) l.key l.class l.ticket

-- of one node, key and class
pub record IsSameCall (l m : Lead) : Type 0 where
  pub node : l.node ≡ m.node
  pub key : l.key ≡ m.key
  pub class : l.class ≡ m.class

-- Each open flight stands in its node's table; and no two open flights are of one node, key and class.
pub record IsApart (w : World) : Type 0 where
  pub registered : (f : ℕ) (x : Flight) → slice_get w.flights f ≡ Some x → is_open x.stage ≡ true → IsRegistered w.nodes x.lead
  pub apart : (f g : ℕ) (x y : Flight) → slice_get w.flights f ≡ Some x → slice_get w.flights g ≡ Some y → is_open x.stage ≡ true →
      is_open y.stage ≡ true →
      IsSameCall x.lead y.lead → f ≡ g

-- an open flight of the world is of this node, key and class
abbrev pub IsLed : List Flight → ℕ → Key → Class → Type 0
IsLed fs i k c = (f : ℕ) × (x : Flight) × (slice_get fs f ≡ Some x) × (is_open x.stage ≡ true) × (x.lead.node ≡ i) × (x.lead.key ≡ k) ×
    (x.lead.class ≡ c)

-- each flight that stands in a table is an open one of the world
pub record IsListed (w : World) : Type 0 where
  pub all : (i : ℕ) (n : Node) (k : Key) (c : Class) (m : ℕ) → slice_get w.nodes i ≡ Some n → IsOpen (table_at n k) k c m →
      IsLed w.flights i k c

-- what of a node never changes: its name, the names on its ring, and its version
pub record Card : Type 0 where
  pub name : List ℕ
  pub ring : List (List ℕ)
  pub version : ℕ

abbrev pub card_of : Node → Card
card_of n = record { name = n.name; ring = n.ring; version = n.version }

abbrev pub cards : World → List Card
cards w = map card_of w.nodes

-- a node has this number
abbrev pub IsThere : List Card → ℕ → Type 0
IsThere cs i = (c : Card) × (slice_get cs i ≡ Some c)

-- a ring has a name, and each name on it is a node's
abbrev pub NamesNodes : List Card → Card → Type 0
NamesNodes cs c = (0 < length c.ring) × Each (λ name. (i : ℕ) × (m : Card) × (slice_get cs i ≡ Some m) × (m.name ≡ name)) c.ring

-- the nodes of calls, flights and asks are there, and those that rings name
pub record IsPlaced (w : World) : Type 0 where
  pub rings : Each (NamesNodes (cards w)) (cards w)
  pub callers : Each (λ who. IsThere (cards w) who.node) (facts w).callers
  pub leads : Each (λ l. IsThere (cards w) l.node) (facts w).leads
  pub asks : Each (λ q. IsThere (cards w) q.node) w.asks

-- each of these calls was made for this purpose
abbrev pub AreFor : List Caller → Purpose → List ℕ → Type 0
AreFor callers p [] = Unit {0}
AreFor callers p (c ∷ cs) = ((who : Caller) × (slice_get callers c ≡ Some who) × (who.purpose ≡ p)) × AreFor callers p cs

-- the calls that a flight of this number waits for were made for it
abbrev pub StageIsOwn : List Caller → ℕ → Stage → Type 0
StageIsOwn callers f New = Unit {0}
StageIsOwn callers f Looked = Unit {0}
StageIsOwn callers f Asking = Unit {0}
StageIsOwn callers f (Fallback None) = Unit {0}
StageIsOwn callers f (Fallback (Some c)) = AreFor callers (ForFallback f) (c ∷ [])
StageIsOwn callers f (Parts cs) = AreFor callers (ForPart f) cs
StageIsOwn callers f (Ready o p) = Unit {0}
StageIsOwn callers f (Ended o) = Unit {0}

-- the calls that a request of this number waits for were made for it
abbrev pub ProgressIsOwn : List Caller → ℕ → Progress → Type 0
ProgressIsOwn callers r (Waiting x cs) = AreFor callers (ForRequest r) cs
ProgressIsOwn callers r (Answered a) = Unit {0}
ProgressIsOwn callers r Dropped = Unit {0}

-- each flight and each request waits for its own calls
pub record AwaitsItsOwn (w : World) : Type 0 where
  pub flights : (f : ℕ) (x : Flight) → slice_get w.flights f ≡ Some x → StageIsOwn (facts w).callers f x.stage
  pub requests : (r : ℕ) (x : RequestRow) → slice_get w.requests r ≡ Some x → ProgressIsOwn (facts w).callers r x.progress

-- what holds at all times
pub record IsSound (w : World) : Type 0 where
  pub honest : IsHonestWorld w
  pub apart : IsApart w
  pub listed : IsListed w
  pub placed : IsPlaced w
  pub own : AwaitsItsOwn w
