-- What each event does to a world. None: it is not allowed now, or names what isn't there.
use Rattle.std.specs.Prelude.{ℕ, List, [], ◌∷◌, Bool, true, false, ◌==◌, ◌&&◌, if◌then◌else◌, Option, Some, None, Ok, Err, Result, map}
use Rattle.std.specs.Prelude.{length, slice_get, position}
use Rattle.std.specs.Str.{bytes_eq}
use Rattle.iiif_tables.specs.Flights.{same_class}
use Rattle.iiif_machine.specs.Keys.{name_of, key_eq, parts_of, meaning}
use Rattle.iiif_machine.specs.Plans.{resolved, items}
use Rattle.iiif_machine.specs.Types.{Key, Value, Resolved, Refusal, Picture, ReadFault}
use Rattle.iiif_machine.specs.Tables.{Class, Wide, Local, Table, Outcome, Nowhere, Main, Peer, Entered, finds, joins, leads, enter, again}
use Rattle.iiif_machine.specs.Tables.{land, evicted, emptied}
use Rattle.iiif_machine.specs.Rows.{Node, Purpose, ForRequest, ForPart, ForFallback, ForAsk, Caller, CallState, Fresh, Hit, In, Gone, Call}
use Rattle.iiif_machine.specs.Rows.{Lead, Stage, New, Looked, Asking, Fallback, Parts, Ready, Ended, Flight, Ask, Reply, RequestInfo}
use Rattle.iiif_machine.specs.Rows.{Refused}
use Rattle.iiif_machine.specs.Rows.{Progress, Waiting, Answered, Dropped, RequestRow}
use Rattle.iiif_machine.specs.Worlds.{World, ◌>>=◌, table_at, put_table, with_node, with_stage, with_state, with_calls, with_flight}
use Rattle.iiif_machine.specs.Worlds.{with_ask, with_reply, with_given, with_request, version_shown, version_at, speaker, owner_of}
use Rattle.iiif_machine.specs.Worlds.{call_for, numbers, learned, decided, collected, outcome_from, settled}
use Rattle.iiif_machine.specs.declared.events.Event.TheVariants as event
pub use Rattle.iiif_machine.specs.declared.events.Event.{Event}
pub use Rattle.iiif_machine.specs.declared.events.Event.TheVariants.{Want, Enter, Again, AskPeer, Serve, Take, Lose, GoLocal, Load}
pub use Rattle.iiif_machine.specs.declared.events.Event.TheVariants.{SourceFault, Land, Evict, Stop}

-- Want: a new request, at a node that speaks the version of its image. It is refused, and answered so; or it waits for a call for each item
-- of its plan.
abbrev pub after_want : World → Node → Picture → RequestInfo → Result Resolved Refusal → World
after_want w n p q (Err e) = with_request w q (Answered (Refused e))
after_want w n p q (Ok r) =
    let keys = items w.scene q.name p r in
    with_calls (with_request w q (Waiting r (numbers (length w.calls) keys)))
    (map (call_for q.node n (ForRequest (length w.requests))) keys)

-- whether a flight is open, and whether it is one of a call's node, key and class
abbrev pub is_open : Stage → Bool
is_open (Ended o) = false
is_open New = true
is_open Looked = true
is_open Asking = true
is_open (Fallback c) = true
is_open (Parts cs) = true
is_open (Ready o p) = true

abbrev pub is_open_for : Caller → Flight → Bool
is_open_for who fl = is_open fl.stage && (fl.lead.node == who.node && (key_eq fl.lead.key who.key && same_class fl.lead.class who.class))

abbrev pub lead_of : Caller → ℕ → Lead
lead_of who ticket = record { node = who.node; key = who.key; class = who.class; ticket = ticket }

-- Enter: the call finds a value, joins the open flight of its node, key and class, or leads a new one.
abbrev pub after_meeting : World → ℕ → Caller → Node → Entered × Table → Option World
after_meeting w c who n (finds v, t) = Some (settled (with_state (with_node w who.node (put_table n who.key t)) c who (Hit v)))
after_meeting w c who n (joins, t) = do
  f ← position (is_open_for who) w.flights
  Some (with_state (with_node w who.node (put_table n who.key t)) c who (In f))
after_meeting w c who n (leads m, t) =
    Some (with_state (with_flight (with_node w who.node (put_table n who.key t)) (lead_of who m)) c who (In (length w.flights)))

abbrev pub after_enter : World → ℕ → Caller → Node → CallState → Option World
after_enter w c who n Fresh = after_meeting w c who n (enter (table_at n who.key) who.key who.class)
after_enter w c who n (Hit v) = None
after_enter w c who n (In f) = None
after_enter w c who n Gone = None

-- Again: the leader of a new flight looks in the table again.
abbrev pub stage_found : Option Value → Stage
stage_found None = Looked
stage_found (Some v) = Ready (Ok v) Nowhere

abbrev pub after_look : World → ℕ → Lead → Node → (Option Value) × Table → World
after_look w f l n r = with_stage (with_node w l.node (put_table n l.key r.1)) f l (stage_found r.0)

abbrev pub after_again : World → ℕ → Lead → Node → Stage → Option World
after_again w f l n New = Some (after_look w f l n (again (table_at n l.key) l.key l.class l.ticket))
after_again w f l n Looked = None
after_again w f l n Asking = None
after_again w f l n (Fallback c) = None
after_again w f l n (Parts cs) = None
after_again w f l n (Ready o p) = None
after_again w f l n (Ended o) = None

-- AskPeer: a wide flight asks the node that owns its key, by a message of the key's version.
abbrev pub after_ask_peer : World → ℕ → Lead → Node → Class → Stage → Option World
after_ask_peer w f l n Wide Looked = do
  o ← position (λ m. bytes_eq m.name (owner_of n l.key)) w.nodes
  Some (with_ask (with_stage w f l Asking) (record { node = o; key = l.key; flight = f; version = version_at w.scene l.key }))
after_ask_peer w f l n c s = None

-- Serve: the asked node, where it speaks the ask's version, serves the ask by a call of the local class, which asks no other node.
abbrev pub caller_serving : ℕ → Ask → Caller
caller_serving a q = record { node = q.node; key = q.key; class = Local; purpose = ForAsk a }

-- Reply: a call that serves an ask replies what it knows.
abbrev pub after_reply : World → ℕ → Caller → Purpose → Option World
after_reply w c who (ForAsk a) = do
  o ← learned w c
  Some (with_reply w (record { key = who.key; outcome = o }))
after_reply w c who (ForRequest r) = None
after_reply w c who (ForPart f) = None
after_reply w c who (ForFallback f) = None

-- Take: a value of its own key makes a flight that asks ready; with any other reply it goes on alone. An ended flight stays as it is.
abbrev pub stage_taken : Key → Key → Outcome → Stage
stage_taken k q (Err f) = Fallback None
stage_taken k q (Ok v) = if key_eq q k then Ready (Ok v) Peer else Fallback None

abbrev pub after_take : World → ℕ → Lead → Reply → Stage → Option World
after_take w f l r Asking = Some (with_stage w f l (stage_taken l.key r.key r.outcome))
after_take w f l r (Ended o) = Some w
after_take w f l r New = None
after_take w f l r Looked = None
after_take w f l r (Fallback c) = None
after_take w f l r (Parts cs) = None
after_take w f l r (Ready o p) = None

-- Lose: the ask gets no reply.
abbrev pub after_lose : World → ℕ → Lead → Stage → Option World
after_lose w f l Asking = Some (with_stage w f l (Fallback None))
after_lose w f l s = None

-- GoLocal: a flight that asked in vain makes a local call of its own key.
abbrev pub after_go_local : World → ℕ → Lead → Stage → Option World
after_go_local w f l (Fallback None) =
    Some (with_calls (with_stage w f l (Fallback (Some (length w.calls))))
    (record { node = l.node; key = l.key; class = Local; purpose = ForFallback f } ∷ []))
after_go_local w f l s = None

-- Load: a tile is read from its source; a sum asks its parts, and merges them once what its calls know decides it.
abbrev pub after_begin : World → ℕ → Lead → Node → Option (List Key) → World
after_begin w f l n None = with_stage w f l (Ready (Ok (meaning w.scene l.key)) Main)
after_begin w f l n (Some ks) = with_calls (with_stage w f l (Parts (numbers (length w.calls) ks))) (map (call_for l.node n (ForPart f)) ks)

abbrev pub after_load : World → ℕ → Lead → Node → Class → Stage → Option World
after_load w f l n Local Looked = Some (after_begin w f l n (parts_of l.key))
after_load w f l n Local (Parts cs) = do
  os ← decided w cs
  Some (with_stage w f l (Ready (outcome_from w.scene l.key (collected os)) Main))
after_load w f l n c s = None

-- SourceFault: the read of a tile fails.
abbrev pub after_fault : World → ℕ → Lead → ReadFault → Class → Option (List Key) → Stage → Option World
after_fault w f l e Local None Looked =
    Some (with_stage (with_given w (record { node = l.node; name = name_of l.key; fault = e })) f l (Ready (Err e) Main))
after_fault w f l e c ks s = None

-- Land: a flight that is ready ends, and its calls know.
abbrev pub after_land : World → ℕ → Lead → Node → Bool → Stage → Option World
after_land w f l n kept (Ready o p) =
    Some (settled (with_stage (with_node w l.node (put_table n l.key (land (table_at n l.key) l.key l.class l.ticket o p kept))) f l
    (Ended (Some o))))
after_land w f l n kept s = None

-- Evict: entries of these keys go; keys that aren't kept are skipped.
abbrev pub node_without : Node → List Key → Node
node_without n ks = record n { tiles = evicted n.tiles ks; sums = evicted n.sums ks }

-- Stop: the node's tables begin anew, its open flights end without an outcome, its calls and its unanswered requests go.
abbrev pub stage_stopped : Stage → Stage
stage_stopped (Ended o) = Ended o
stage_stopped s = Ended None

abbrev pub flight_stopped : ℕ → Flight → Flight
flight_stopped i fl = if fl.lead.node == i then record { lead = fl.lead; stage = stage_stopped fl.stage } else fl

abbrev pub call_stopped : ℕ → Call → Call
call_stopped i c = if c.caller.node == i then record { caller = c.caller; state = Gone } else c

abbrev pub progress_stopped : Progress → Progress
progress_stopped (Waiting r cs) = Dropped
progress_stopped (Answered a) = Answered a
progress_stopped Dropped = Dropped

abbrev pub request_stopped : ℕ → RequestRow → RequestRow
request_stopped i q = if q.info.node == i then record { info = q.info; progress = progress_stopped q.progress } else q

abbrev pub after_stop : World → ℕ → Node → World
after_stop w i n = record (with_node w i (record n { tiles = emptied n.tiles; sums = emptied n.sums })) {
  flights = map (flight_stopped i) w.flights;
  calls = map (call_stopped i) w.calls;
  requests = map (request_stopped i) w.requests;
}

-- one event
unfoldable pub step : World → Event → Option World
step w (Want node name request) = do
  n ← slice_get w.nodes node
  p ← w.scene.shows name
  speaks ← speaker n (version_shown p)
  Some (after_want w n p (record { node = node; name = name; request = request }) (resolved w.scene p request))
step w (Enter c) = do
  call ← slice_get w.calls c
  n ← slice_get w.nodes call.caller.node
  after_enter w c call.caller n call.state
step w (Again f) = do
  fl ← slice_get w.flights f
  n ← slice_get w.nodes fl.lead.node
  after_again w f fl.lead n fl.stage
step w (AskPeer f) = do
  fl ← slice_get w.flights f
  n ← slice_get w.nodes fl.lead.node
  after_ask_peer w f fl.lead n fl.lead.class fl.stage
step w (Serve a) = do
  q ← slice_get w.asks a
  n ← slice_get w.nodes q.node
  speaks ← speaker n q.version
  Some (with_calls w (caller_serving a q ∷ []))
step w (event.Reply c) = do
  call ← slice_get w.calls c
  after_reply w c call.caller call.caller.purpose
step w (Take f r) = do
  fl ← slice_get w.flights f
  reply ← slice_get w.replies r
  after_take w f fl.lead reply fl.stage
step w (Lose f) = do
  fl ← slice_get w.flights f
  after_lose w f fl.lead fl.stage
step w (GoLocal f) = do
  fl ← slice_get w.flights f
  after_go_local w f fl.lead fl.stage
step w (Load f) = do
  fl ← slice_get w.flights f
  n ← slice_get w.nodes fl.lead.node
  after_load w f fl.lead n fl.lead.class fl.stage
step w (SourceFault f e) = do
  fl ← slice_get w.flights f
  after_fault w f fl.lead e fl.lead.class (parts_of fl.lead.key) fl.stage
step w (Land f kept) = do
  fl ← slice_get w.flights f
  n ← slice_get w.nodes fl.lead.node
  after_land w f fl.lead n kept fl.stage
step w (Evict node keys) = do
  n ← slice_get w.nodes node
  Some (with_node w node (node_without n keys.items))
step w (Stop node) = do
  n ← slice_get w.nodes node
  Some (after_stop w node n)

-- a list of events, one after another: the world after it, if each was allowed
unfoldable pub run : World → List Event → Option World
run w [] = Some w
run w (e ∷ es) = do
  v ← step w e
  run v es
