-- What is found where an event is done, and the world that it makes: all ways in which `step` goes on.
use Rattle.std.proofs.Common.{◌≡◌, ℕ, List, [], ◌∷◌, map, length, Bool, Option, Some, None, Ok, Err, refl, subst}
use Rattle.std.specs.Prelude.{slice_get, position}
use Rattle.std.specs.Str.{bytes_eq}
use Rattle.std.proofs.lemmas.Option.{none-some, same_Some}
use Rattle.iiif_machine.specs.Keys.{name_of, parts_of, meaning}
use Rattle.iiif_machine.specs.Plans.{resolved}
use Rattle.iiif_machine.specs.Types.{Key, Value, Picture, Request, ReadFault}
use Rattle.iiif_machine.specs.Tables.{Class, Wide, Local, Outcome, Place, Main, Entered, finds, joins, leads, enter, again, land}
use Rattle.iiif_machine.specs.Rows.{Node, Purpose, ForRequest, ForPart, ForFallback, ForAsk, Caller, CallState, Fresh, Hit, In, Gone}
use Rattle.iiif_machine.specs.Rows.{Lead, Stage, New, Looked, Asking, Fallback, Parts, Ready, Ended, Ask, Reply}
use Rattle.iiif_machine.specs.Worlds.{World, version_shown, version_at, speaker, owner_of, call_for, numbers, table_at, put_table}
use Rattle.iiif_machine.specs.Worlds.{with_node, with_stage, with_state, with_calls, with_flight, with_ask, with_reply, with_given, learned}
use Rattle.iiif_machine.specs.Worlds.{decided, collected, outcome_from, settled}
use Rattle.iiif_machine.specs.Steps.{Event, Want, Enter, Again, AskPeer, Serve, Take, Lose, GoLocal, Load, SourceFault, Land, Evict, Stop}
use Rattle.iiif_machine.specs.Steps.{after_want, is_open_for, lead_of, after_meeting, after_enter, after_look, after_again, after_ask_peer}
use Rattle.iiif_machine.specs.Steps.{caller_serving, after_reply, stage_taken, after_take, after_lose, after_go_local, after_begin}
use Rattle.iiif_machine.specs.Steps.{after_load, after_fault, after_land, node_without, after_stop, step}
use Rattle.iiif_machine.specs.declared.events.Event.TheVariants as event
use Rattle.iiif_machine.specs.Promises.{After}
use Rattle.iiif_machine.proofs.Learning.{bind_inv}

-- a flight is there, at this stage; and so a call, and a node
abbrev pub Flies : World → ℕ → Lead → Stage → Type 0
Flies w f l s = slice_get w.flights f ≡ Some (record { lead = l; stage = s })

abbrev pub Calls : World → ℕ → Caller → CallState → Type 0
Calls w c who s = slice_get w.calls c ≡ Some (record { caller = who; state = s })

abbrev pub Stands : World → ℕ → Node → Type 0
Stands w i n = slice_get w.nodes i ≡ Some n

-- the node as a call's entry leaves it
abbrev pub entered_node : Node → Caller → Node
entered_node n who = put_table n who.key (enter (table_at n who.key) who.key who.class).1

abbrev pub met_by : Node → Caller → Entered
met_by n who = (enter (table_at n who.key) who.key who.class).0

abbrev pub landed_node : Node → Lead → Outcome → Place → Bool → Node
landed_node n l o p kept = put_table n l.key (land (table_at n l.key) l.key l.class l.ticket o p kept)

pub data Does (w : World) : Event → World → Type 0 where
  wanted : (i : ℕ) (name : _) (q : Request) (n : Node) (p : Picture) → Stands w i n → w.scene.shows name ≡ Some p →
      Does w (Want i name q) (after_want w n p (record { node = i; name = name; request = q }) (resolved w.scene p q))
  found : (c : ℕ) (who : Caller) (n : Node) (x : Value) → Calls w c who Fresh → Stands w who.node n → met_by n who ≡ finds x →
      Does w (Enter c) (settled (with_state (with_node w who.node (entered_node n who)) c who (Hit x)))
  joined : (c : ℕ) (who : Caller) (n : Node) (f : ℕ) → Calls w c who Fresh → Stands w who.node n → met_by n who ≡ joins →
      position (is_open_for who) w.flights ≡ Some f → Does w (Enter c) (with_state (with_node w who.node (entered_node n who)) c who (In f))
  led : (c : ℕ) (who : Caller) (n : Node) (m : ℕ) → Calls w c who Fresh → Stands w who.node n → met_by n who ≡ leads m →
      Does w (Enter c) (with_state (with_flight (with_node w who.node (entered_node n who)) (lead_of who m)) c who (In (length w.flights)))
  looked : (f : ℕ) (l : Lead) (n : Node) → Flies w f l New → Stands w l.node n →
      Does w (Again f) (after_look w f l n (again (table_at n l.key) l.key l.class l.ticket))
  asked : (f : ℕ) (l : Lead) (n : Node) (o : ℕ) → Flies w f l Looked → Stands w l.node n → l.class ≡ Wide →
      position (λ m. bytes_eq m.name (owner_of n l.key)) w.nodes ≡ Some o →
      Does w (AskPeer f) (with_ask (with_stage w f l Asking)
      (record { node = o; key = l.key; flight = f; version = version_at w.scene l.key }))
  served : (a : ℕ) (q : Ask) (n : Node) → slice_get w.asks a ≡ Some q → Stands w q.node n →
      Does w (Serve a) (with_calls w (caller_serving a q ∷ []))
  replied : (c : ℕ) (who : Caller) (s : CallState) (a : ℕ) (o : Outcome) → Calls w c who s → who.purpose ≡ ForAsk a → learned w c ≡ Some o →
      Does w (event.Reply c) (with_reply w (record { key = who.key; outcome = o }))
  taken : (f r : ℕ) (l : Lead) (x : Reply) → Flies w f l Asking → slice_get w.replies r ≡ Some x →
      Does w (Take f r) (with_stage w f l (stage_taken l.key x.key x.outcome))
  late : (f r : ℕ) (l : Lead) (o : Option Outcome) → Flies w f l (Ended o) → Does w (Take f r) w
  lost : (f : ℕ) (l : Lead) → Flies w f l Asking → Does w (Lose f) (with_stage w f l (Fallback None))
  gone_local : (f : ℕ) (l : Lead) → Flies w f l (Fallback None) →
      Does w (GoLocal f) (with_calls (with_stage w f l (Fallback (Some (length w.calls))))
      (record { node = l.node; key = l.key; class = Local; purpose = ForFallback f } ∷ []))
  read : (f : ℕ) (l : Lead) (n : Node) → Flies w f l Looked → Stands w l.node n → l.class ≡ Local → parts_of l.key ≡ None →
      Does w (Load f) (with_stage w f l (Ready (Ok (meaning w.scene l.key)) Main))
  split : (f : ℕ) (l : Lead) (n : Node) (ks : List Key) → Flies w f l Looked → Stands w l.node n → l.class ≡ Local →
      parts_of l.key ≡ Some ks →
      Does w (Load f) (with_calls (with_stage w f l (Parts (numbers (length w.calls) ks))) (map (call_for l.node n (ForPart f)) ks))
  merged : (f : ℕ) (l : Lead) (cs : List ℕ) (os : List Outcome) → Flies w f l (Parts cs) → l.class ≡ Local → decided w cs ≡ Some os →
      Does w (Load f) (with_stage w f l (Ready (outcome_from w.scene l.key (collected os)) Main))
  failed : (f : ℕ) (x : ReadFault) (l : Lead) → Flies w f l Looked → l.class ≡ Local → parts_of l.key ≡ None →
      Does w (SourceFault f x) (with_stage (with_given w (record { node = l.node; name = name_of l.key; fault = x })) f l
      (Ready (Err x) Main))
  landed : (f : ℕ) (kept : Bool) (l : Lead) (n : Node) (o : Outcome) (p : Place) → Flies w f l (Ready o p) → Stands w l.node n →
      Does w (Land f kept) (settled (with_stage (with_node w l.node (landed_node n l o p kept)) f l (Ended (Some o))))
  evicted : (i : ℕ) (keys : _) (n : Node) → Stands w i n → Does w (Evict i keys) (with_node w i (node_without n keys.items))
  stopped : (i : ℕ) (n : Node) → Stands w i n → Does w (Stop i) (after_stop w i n)

met : (w v : World) (c : ℕ) (who : Caller) (n : Node) (x : Entered) → Calls w c who Fresh → Stands w who.node n → met_by n who ≡ x →
    after_meeting w c who n (x, (enter (table_at n who.key) who.key who.class).1) ≡ Some v → Does w (Enter c) v
met w v c who n (finds x) at there is h = subst (Does w (Enter c)) (same_Some _ v h) (found c who n x at there is)
met w v c who n joins at there is h =
    let f = bind_inv (position (is_open_for who) w.flights) _ v h in
    subst (Does w (Enter c)) (same_Some _ v f.2) (joined c who n f.0 at there is f.1)
met w v c who n (leads m) at there is h = subst (Does w (Enter c)) (same_Some _ v h) (led c who n m at there is)

entering : (w v : World) (c : ℕ) (who : Caller) (n : Node) (s : CallState) → Calls w c who s → Stands w who.node n →
    after_enter w c who n s ≡ Some v → Does w (Enter c) v
entering w v c who n Fresh at there h = met w v c who n (met_by n who) at there refl h
entering w v c who n (Hit x) at there h = absurd (none-some v h)
entering w v c who n (In f) at there h = absurd (none-some v h)
entering w v c who n Gone at there h = absurd (none-some v h)

looking : (w v : World) (f : ℕ) (l : Lead) (n : Node) (s : Stage) → Flies w f l s → Stands w l.node n → after_again w f l n s ≡ Some v →
    Does w (Again f) v
looking w v f l n New at there h = subst (Does w (Again f)) (same_Some _ v h) (looked f l n at there)
looking w v f l n Looked at there h = absurd (none-some v h)
looking w v f l n Asking at there h = absurd (none-some v h)
looking w v f l n (Fallback c) at there h = absurd (none-some v h)
looking w v f l n (Parts cs) at there h = absurd (none-some v h)
looking w v f l n (Ready o p) at there h = absurd (none-some v h)
looking w v f l n (Ended o) at there h = absurd (none-some v h)

asking : (w v : World) (f : ℕ) (l : Lead) (n : Node) (c : Class) (s : Stage) → Flies w f l s → Stands w l.node n → l.class ≡ c →
    after_ask_peer w f l n c s ≡ Some v → Does w (AskPeer f) v
asking w v f l n Wide Looked at there is h =
    let o = bind_inv (position (λ m. bytes_eq m.name (owner_of n l.key)) w.nodes) _ v h in
    subst (Does w (AskPeer f)) (same_Some _ v o.2) (asked f l n o.0 at there is o.1)
asking w v f l n Local s at there is h = absurd (none-some v h)
asking w v f l n Wide New at there is h = absurd (none-some v h)
asking w v f l n Wide Asking at there is h = absurd (none-some v h)
asking w v f l n Wide (Fallback c) at there is h = absurd (none-some v h)
asking w v f l n Wide (Parts cs) at there is h = absurd (none-some v h)
asking w v f l n Wide (Ready o p) at there is h = absurd (none-some v h)
asking w v f l n Wide (Ended o) at there is h = absurd (none-some v h)

replying : (w v : World) (c : ℕ) (who : Caller) (s : CallState) (p : Purpose) → Calls w c who s → who.purpose ≡ p →
    after_reply w c who p ≡ Some v → Does w (event.Reply c) v
replying w v c who s (ForAsk a) at is h =
    let o = bind_inv (learned w c) _ v h in
    subst (Does w (event.Reply c)) (same_Some _ v o.2) (replied c who s a o.0 at is o.1)
replying w v c who s (ForRequest r) at is h = absurd (none-some v h)
replying w v c who s (ForPart f) at is h = absurd (none-some v h)
replying w v c who s (ForFallback f) at is h = absurd (none-some v h)

taking : (w v : World) (f r : ℕ) (l : Lead) (x : Reply) (s : Stage) → Flies w f l s → slice_get w.replies r ≡ Some x →
    after_take w f l x s ≡ Some v → Does w (Take f r) v
taking w v f r l x Asking at there h = subst (Does w (Take f r)) (same_Some _ v h) (taken f r l x at there)
taking w v f r l x (Ended o) at there h = subst (Does w (Take f r)) (same_Some _ v h) (late f r l o at)
taking w v f r l x New at there h = absurd (none-some v h)
taking w v f r l x Looked at there h = absurd (none-some v h)
taking w v f r l x (Fallback c) at there h = absurd (none-some v h)
taking w v f r l x (Parts cs) at there h = absurd (none-some v h)
taking w v f r l x (Ready o p) at there h = absurd (none-some v h)

losing : (w v : World) (f : ℕ) (l : Lead) (s : Stage) → Flies w f l s → after_lose w f l s ≡ Some v → Does w (Lose f) v
losing w v f l Asking at h = subst (Does w (Lose f)) (same_Some _ v h) (lost f l at)
losing w v f l s at h = absurd (none-some v h)

going : (w v : World) (f : ℕ) (l : Lead) (s : Stage) → Flies w f l s → after_go_local w f l s ≡ Some v → Does w (GoLocal f) v
going w v f l (Fallback None) at h = subst (Does w (GoLocal f)) (same_Some _ v h) (gone_local f l at)
going w v f l (Fallback (Some c)) at h = absurd (none-some v h)
going w v f l New at h = absurd (none-some v h)
going w v f l Looked at h = absurd (none-some v h)
going w v f l Asking at h = absurd (none-some v h)
going w v f l (Parts cs) at h = absurd (none-some v h)
going w v f l (Ready o p) at h = absurd (none-some v h)
going w v f l (Ended o) at h = absurd (none-some v h)

beginning : (w v : World) (f : ℕ) (l : Lead) (n : Node) (x : Option (List Key)) → Flies w f l Looked → Stands w l.node n → l.class ≡ Local →
    parts_of l.key ≡ x → Some (after_begin w f l n x) ≡ Some v → Does w (Load f) v
beginning w v f l n None at there is parts h = subst (Does w (Load f)) (same_Some _ v h) (read f l n at there is parts)
beginning w v f l n (Some ks) at there is parts h = subst (Does w (Load f)) (same_Some _ v h) (split f l n ks at there is parts)

loading : (w v : World) (f : ℕ) (l : Lead) (n : Node) (c : Class) (s : Stage) → Flies w f l s → Stands w l.node n → l.class ≡ c →
    after_load w f l n c s ≡ Some v → Does w (Load f) v
loading w v f l n Local Looked at there is h = beginning w v f l n (parts_of l.key) at there is refl h
loading w v f l n Local (Parts cs) at there is h =
    let os = bind_inv (decided w cs) _ v h in
    subst (Does w (Load f)) (same_Some _ v os.2) (merged f l cs os.0 at is os.1)
loading w v f l n Wide s at there is h = absurd (none-some v h)
loading w v f l n Local New at there is h = absurd (none-some v h)
loading w v f l n Local Asking at there is h = absurd (none-some v h)
loading w v f l n Local (Fallback c) at there is h = absurd (none-some v h)
loading w v f l n Local (Ready o p) at there is h = absurd (none-some v h)
loading w v f l n Local (Ended o) at there is h = absurd (none-some v h)

failing : (w v : World) (f : ℕ) (x : ReadFault) (l : Lead) (c : Class) (y : Option (List Key)) (s : Stage) → Flies w f l s → l.class ≡ c →
    parts_of l.key ≡ y → after_fault w f l x c y s ≡ Some v → Does w (SourceFault f x) v
failing w v f x l Local None Looked at is parts h = subst (Does w (SourceFault f x)) (same_Some _ v h) (failed f x l at is parts)
failing w v f x l Wide y s at is parts h = absurd (none-some v h)
failing w v f x l Local (Some ks) s at is parts h = absurd (none-some v h)
failing w v f x l Local None New at is parts h = absurd (none-some v h)
failing w v f x l Local None Asking at is parts h = absurd (none-some v h)
failing w v f x l Local None (Fallback c) at is parts h = absurd (none-some v h)
failing w v f x l Local None (Parts cs) at is parts h = absurd (none-some v h)
failing w v f x l Local None (Ready o p) at is parts h = absurd (none-some v h)
failing w v f x l Local None (Ended o) at is parts h = absurd (none-some v h)

landing : (w v : World) (f : ℕ) (kept : Bool) (l : Lead) (n : Node) (s : Stage) → Flies w f l s → Stands w l.node n →
    after_land w f l n kept s ≡ Some v → Does w (Land f kept) v
landing w v f kept l n (Ready o p) at there h = subst (Does w (Land f kept)) (same_Some _ v h) (landed f kept l n o p at there)
landing w v f kept l n New at there h = absurd (none-some v h)
landing w v f kept l n Looked at there h = absurd (none-some v h)
landing w v f kept l n Asking at there h = absurd (none-some v h)
landing w v f kept l n (Fallback c) at there h = absurd (none-some v h)
landing w v f kept l n (Parts cs) at there h = absurd (none-some v h)
landing w v f kept l n (Ended o) at there h = absurd (none-some v h)

pub does : (w v : World) (e : Event) → step w e ≡ Some v → Does w e v
unfolding step
does w v (Want i name q) h =
    let n = bind_inv (slice_get w.nodes i) _ v h in
    let p = bind_inv (w.scene.shows name) _ v n.2 in
    let m = bind_inv (speaker n.0 (version_shown p.0)) _ v p.2 in
    subst (Does w (Want i name q)) (same_Some _ v m.2) (wanted i name q n.0 p.0 n.1 p.1)
does w v (Enter c) h =
    let x = bind_inv (slice_get w.calls c) _ v h in
    let n = bind_inv (slice_get w.nodes x.0.caller.node) _ v x.2 in
    entering w v c x.0.caller n.0 x.0.state x.1 n.1 n.2
does w v (Again f) h =
    let x = bind_inv (slice_get w.flights f) _ v h in
    let n = bind_inv (slice_get w.nodes x.0.lead.node) _ v x.2 in
    looking w v f x.0.lead n.0 x.0.stage x.1 n.1 n.2
does w v (AskPeer f) h =
    let x = bind_inv (slice_get w.flights f) _ v h in
    let n = bind_inv (slice_get w.nodes x.0.lead.node) _ v x.2 in
    asking w v f x.0.lead n.0 x.0.lead.class x.0.stage x.1 n.1 refl n.2
does w v (Serve a) h =
    let q = bind_inv (slice_get w.asks a) _ v h in
    let n = bind_inv (slice_get w.nodes q.0.node) _ v q.2 in
    let m = bind_inv (speaker n.0 q.0.version) _ v n.2 in
    subst (Does w (Serve a)) (same_Some _ v m.2) (served a q.0 n.0 q.1 n.1)
does w v (event.Reply c) h =
    let x = bind_inv (slice_get w.calls c) _ v h in
    replying w v c x.0.caller x.0.state x.0.caller.purpose x.1 refl x.2
does w v (Take f r) h =
    let x = bind_inv (slice_get w.flights f) _ v h in
    let y = bind_inv (slice_get w.replies r) _ v x.2 in
    taking w v f r x.0.lead y.0 x.0.stage x.1 y.1 y.2
does w v (Lose f) h = let x = bind_inv (slice_get w.flights f) _ v h in losing w v f x.0.lead x.0.stage x.1 x.2
does w v (GoLocal f) h = let x = bind_inv (slice_get w.flights f) _ v h in going w v f x.0.lead x.0.stage x.1 x.2
does w v (Load f) h =
    let x = bind_inv (slice_get w.flights f) _ v h in
    let n = bind_inv (slice_get w.nodes x.0.lead.node) _ v x.2 in
    loading w v f x.0.lead n.0 x.0.lead.class x.0.stage x.1 n.1 refl n.2
does w v (SourceFault f e) h =
    let x = bind_inv (slice_get w.flights f) _ v h in
    failing w v f e x.0.lead x.0.lead.class (parts_of x.0.lead.key) x.0.stage x.1 refl refl x.2
does w v (Land f kept) h =
    let x = bind_inv (slice_get w.flights f) _ v h in
    let n = bind_inv (slice_get w.nodes x.0.lead.node) _ v x.2 in
    landing w v f kept x.0.lead n.0 x.0.stage x.1 n.1 n.2
does w v (Evict i keys) h =
    let n = bind_inv (slice_get w.nodes i) _ v h in
    subst (Does w (Evict i keys)) (same_Some _ v n.2) (evicted i keys n.0 n.1)
does w v (Stop i) h =
    let n = bind_inv (slice_get w.nodes i) _ v h in
    subst (Does w (Stop i)) (same_Some _ v n.2) (stopped i n.0 n.1)

after_all : (P : World → Type 0) (x : Option World) → ((v : World) → x ≡ Some v → P v) → After P x
after_all P None h = tt
after_all P (Some v) h = h v refl

-- what holds of each world that an event makes
pub after_does : (w : World) (e : Event) (P : World → Type 0) → ((v : World) → Does w e v → P v) → After P (step w e)
after_does w e P h = after_all P (step w e) (λ v is. h v (does w v e is))
