-- A world, the small changes of which all events are made, what calls know, and what comes of it.
use Rattle.std.specs.Prelude.{ℕ, suc, nat_lt, List, [], ◌∷◌, ◌++◌, if◌then◌else◌, Option, Some, None, Ok, Err, Result, map, slice_get}
use Rattle.std.specs.Prelude.{slice_set}
use Rattle.std.specs.Str.{bytes_eq}
use Rattle.iiif_machine.specs.Scenes.{Scene}
use Rattle.iiif_keys.specs.Names.{named}
use Rattle.iiif_keys.specs.Shapes.{shape_of, version_of}
use Rattle.iiif_machine.specs.Keys.{name_of, is_tile, key_bytes, derived}
use Rattle.iiif_machine.specs.Images.{assembled}
use Rattle.iiif_machine.specs.Types.{Key, Value, Resolved, Picture, ReadFault}
use Rattle.iiif_machine.specs.Owners.{owner}
use Rattle.iiif_machine.specs.Tables.{Class, Wide, Local, Table, Outcome, Nowhere}
use Rattle.iiif_machine.specs.Rows.{Node, Given, Purpose, Caller, CallState, Fresh, Hit, In, Gone, Call, Lead, Stage, New, Looked, Asking}
use Rattle.iiif_machine.specs.Rows.{Fallback, Parts, Ready, Ended, Flight, Ask, Reply, RequestInfo, Answer, Image, Failed, Progress}
use Rattle.iiif_machine.specs.Rows.{Waiting}
use Rattle.iiif_machine.specs.Rows.{Answered, Dropped, RequestRow}

-- A world: pictures and limits, nodes, the faults that sources gave, and rows. A row's number is its place; none is ever taken away.
pub record World : Type 0 where
  pub scene : Scene
  pub nodes : List Node
  pub given : List Given
  pub requests : List RequestRow
  pub calls : List Call
  pub flights : List Flight
  pub asks : List Ask
  pub replies : List Reply

-- a world in which nothing has happened
abbrev pub new_world : Scene → List Node → World
new_world s nodes = record { scene = s; nodes = nodes; given = []; requests = []; calls = []; flights = []; asks = []; replies = [] }

-- go on with what is there, else not now
infixl 10 ◌>>=◌
abbrev pub ◌>>=◌ : {A B : Type 0} → Option A → (A → Option B) → Option B
None >>= f = None
(Some x) >>= f = f x

-- the node's table for the key: that of tiles, or that of sums
abbrev pub table_at : Node → Key → Table
table_at n k = if is_tile k then n.tiles else n.sums

abbrev pub put_table : Node → Key → Table → Node
put_table n k t = if is_tile k then record n { tiles = t } else record n { sums = t }

-- a node as it is from now on; likewise a flight's stage, and a call's state
abbrev pub with_node : World → ℕ → Node → World
with_node w i n = record w { nodes = slice_set w.nodes i n }

abbrev pub with_stage : World → ℕ → Lead → Stage → World
with_stage w f l s = record w { flights = slice_set w.flights f (record { lead = l; stage = s }) }

abbrev pub with_state : World → ℕ → Caller → CallState → World
with_state w c who s = record w { calls = slice_set w.calls c (record { caller = who; state = s }) }

-- calls that are made, one after another; likewise a flight, an ask, a reply, a fault that is given, and a request
abbrev pub fresh : Caller → Call
fresh who = record { caller = who; state = Fresh }

abbrev pub with_calls : World → List Caller → World
with_calls w whos = record w { calls = w.calls ++ map fresh whos }

abbrev pub with_flight : World → Lead → World
with_flight w l = record w { flights = w.flights ++ record { lead = l; stage = New } ∷ [] }

abbrev pub with_ask : World → Ask → World
with_ask w a = record w { asks = w.asks ++ a ∷ [] }

abbrev pub with_reply : World → Reply → World
with_reply w r = record w { replies = w.replies ++ r ∷ [] }

abbrev pub with_given : World → Given → World
with_given w g = record w { given = w.given ++ g ∷ [] }

abbrev pub with_request : World → RequestInfo → Progress → World
with_request w q p = record w { requests = w.requests ++ record { info = q; progress = p } ∷ [] }

-- the version of the messages that carry parts of a picture: by the bits of its samples
abbrev pub version_shown : Picture → ℕ
version_shown p = version_of (shape_of p).depth

-- the version of the messages that carry a key: that of its image
unfoldable pub version_at : Scene → Key → ℕ
version_at s k = version_shown (named s.shows (name_of k))

-- the node, where it speaks a version: its own, or one before it
abbrev pub speaker : Node → ℕ → Option Node
speaker n v = if nat_lt n.version v then None else Some n

-- the name of a key's owner, as a node's ring has it
unfoldable pub owner_of : Node → Key → List ℕ
owner_of n k = owner n.ring (key_bytes k)

-- the class of a node's call: local for a key that the node owns
abbrev pub class_at : Node → Key → Class
class_at n k = if bytes_eq (owner_of n k) n.name then Local else Wide

-- the call that a node makes of a key
abbrev pub call_for : ℕ → Node → Purpose → Key → Caller
call_for node n p k = record { node = node; key = k; class = class_at n k; purpose = p }

-- the numbers of as many calls, made one after another
abbrev pub numbers : {A : Type 0} → ℕ → List A → List ℕ
numbers n [] = []
numbers n (x ∷ xs) = n ∷ numbers (suc n) xs

-- the outcome of a flight that has ended
abbrev pub outcome_of : Stage → Option Outcome
outcome_of New = None
outcome_of Looked = None
outcome_of Asking = None
outcome_of (Fallback c) = None
outcome_of (Parts cs) = None
outcome_of (Ready o p) = None
outcome_of (Ended o) = o

-- what a call knows: nothing, or the value that it found, or the outcome of its flight
abbrev pub known_by : List Flight → CallState → Option Outcome
known_by fs Fresh = None
known_by fs (Hit v) = Some (Ok v)
known_by fs (In f) = do
  fl ← slice_get fs f
  outcome_of fl.stage
known_by fs Gone = None

abbrev pub learned : World → ℕ → Option Outcome
learned w c = do
  call ← slice_get w.calls c
  known_by w.flights call.state

-- what all of some calls know
abbrev pub all_learned : World → List ℕ → Option (List Outcome)
all_learned w [] = Some []
all_learned w (c ∷ cs) = do
  o ← learned w c
  os ← all_learned w cs
  Some (o ∷ os)

-- What the first of some calls know: up to one that knows a fault, where each before it knows a value; or values, where all know these.
abbrev pub or_more : Outcome → Option (List Outcome) → Option (List Outcome)
or_more (Err f) rest = Some (Err f ∷ [])
or_more (Ok v) rest = do
  os ← rest
  Some (Ok v ∷ os)

abbrev pub learned_to_fault : World → List ℕ → Option (List Outcome)
learned_to_fault w [] = Some []
learned_to_fault w (c ∷ cs) = do
  o ← learned w c
  or_more o (learned_to_fault w cs)

-- What decides what comes of some calls: what all of them know. Where faults are early, what they know up to the first fault does.
abbrev pub decided : World → List ℕ → Option (List Outcome)
decided w cs = if w.scene.faults_early then learned_to_fault w cs else all_learned w cs

-- the values, or the first fault
abbrev pub or_fault : Outcome → Result (List Value) ReadFault → Result (List Value) ReadFault
or_fault (Err f) rest = Err f
or_fault (Ok v) (Err f) = Err f
or_fault (Ok v) (Ok vs) = Ok (v ∷ vs)

abbrev pub collected : List Outcome → Result (List Value) ReadFault
collected [] = Ok []
collected (o ∷ os) = or_fault o (collected os)

-- what a sum's parts come to
abbrev pub outcome_from : Scene → Key → Result (List Value) ReadFault → Outcome
outcome_from s k (Ok vs) = Ok (derived s k vs)
outcome_from s k (Err f) = Err f

-- what a request's items come to
abbrev pub answer_from : Scene → Picture → Resolved → Result (List Value) ReadFault → Answer
answer_from s p r (Ok vs) = Image (assembled s p r vs)
answer_from s p r (Err f) = Failed f

-- A wide flight whose own local call knows is ready. Nothing is kept: the local flight's landing was.
abbrev pub ready_with : Stage → Option Outcome → Stage
ready_with s None = s
ready_with s (Some o) = Ready o Nowhere

abbrev pub resumed_stage : World → Stage → Stage
resumed_stage w New = New
resumed_stage w Looked = Looked
resumed_stage w Asking = Asking
resumed_stage w (Fallback None) = Fallback None
resumed_stage w (Fallback (Some c)) = ready_with (Fallback (Some c)) (learned w c)
resumed_stage w (Parts cs) = Parts cs
resumed_stage w (Ready o p) = Ready o p
resumed_stage w (Ended o) = Ended o

abbrev pub resumed : World → Flight → Flight
resumed w fl = record { lead = fl.lead; stage = resumed_stage w fl.stage }

-- A request is answered once what its calls know decides it.
abbrev pub answered_with : World → RequestInfo → Resolved → List ℕ → Option Picture → Option (List Outcome) → Progress
answered_with w q r cs (Some p) (Some os) = Answered (answer_from w.scene p r (collected os))
answered_with w q r cs (Some p) None = Waiting r cs
answered_with w q r cs None (Some os) = Waiting r cs
answered_with w q r cs None None = Waiting r cs

abbrev pub progressed : World → RequestInfo → Progress → Progress
progressed w q (Waiting r cs) = answered_with w q r cs (w.scene.shows q.name) (decided w cs)
progressed w q (Answered a) = Answered a
progressed w q Dropped = Dropped

abbrev pub answered : World → RequestRow → RequestRow
answered w q = record { info = q.info; progress = progressed w q.info q.progress }

-- the world once each flight and each request has seen what calls know by now
abbrev pub settled : World → World
settled w = record w { flights = map (resumed w) w.flights; requests = map (answered w) w.requests }

-- the answers, by the requests' numbers: none where a request waits, or went with its node
abbrev pub answer_in : Progress → Option Answer
answer_in (Waiting r cs) = None
answer_in (Answered a) = Some a
answer_in Dropped = None

abbrev pub answers : World → List (Option Answer)
answers w = map (λ q. answer_in q.progress) w.requests
