-- Each flight that stands in a table is an open one of the world; so a call may enter once.
use Rattle.std.proofs.Common.{◌≡◌, ℕ, zero, suc, ◌+◌, ◌<◌, ◌≤◌, List, [], ◌∷◌, ◌++◌, map, length, Bool, true, false, Option, Some, None}
use Rattle.std.proofs.Common.{Result, Ok, Err, ◌⊎◌, inl, inr, refl, sym, ap, subst, ◌∙◌, ⊎_elim, if◌then◌else◌, arith}
use Rattle.std.specs.Prelude.{slice_get, slice_set, position, cond, ◌==◌, ◌&&◌, nat_eq}
use Rattle.std.specs.List.{position_or_len}
use Rattle.std.proofs.lemmas.Option.{none-some, slice_get_within, get_or_from_slice_get, same_Some}
use Rattle.std.proofs.lemmas.Bool.{cases_lt, lt-ltb, ne_eqb}
use Rattle.std.proofs.lemmas.List.Sums.{fails_before_first}
use Rattle.iiif_machine.specs.Keys.{is_tile, key_eq, parts_of}
use Rattle.iiif_machine.specs.Plans.{resolved}
use Rattle.iiif_machine.proofs.Lists.{get_left, get_map}
use Rattle.iiif_machine.proofs.KeyParts.{eq_same, key_same}
use Rattle.iiif_machine.specs.Types.{Key, Value, Resolved, Refusal, Picture, ReadFault}
use Rattle.iiif_machine.specs.Worlds.{owner_of}
use Rattle.std.specs.Str.{bytes_eq}
use Rattle.iiif_machine.specs.Tables.{Class, Wide, Local, Table, Outcome, Peer, IsOpen, Entered, finds, joins, leads, enter, again, land}
use Rattle.iiif_machine.specs.Tables.{emptied}
use Rattle.iiif_machine.specs.Rows.{Node, Purpose, ForRequest, ForPart, ForFallback, ForAsk, Caller, CallState, Fresh, Hit, In, Gone, Lead}
use Rattle.iiif_machine.specs.Rows.{Stage, New, Looked, Asking, Fallback, Parts, Ready, Ended, Flight, Reply, RequestInfo}
use Rattle.iiif_machine.specs.Worlds.{World, ◌>>=◌, version_shown, version_at, speaker, table_at, put_table, with_node, with_stage}
use Rattle.iiif_machine.specs.Worlds.{with_state, with_flight, with_ask, with_reply, learned, decided, collected, outcome_from}
use Rattle.iiif_machine.specs.Worlds.{settled, resumed, resumed_stage, ready_with}
use Rattle.iiif_machine.specs.Steps.{Event, Want, Enter, Again, AskPeer, Serve, Take, Lose, GoLocal, Load, SourceFault, Land, Evict, Stop}
use Rattle.iiif_machine.specs.Steps.{after_want, is_open, is_open_for, lead_of, after_meeting, after_enter, stage_found, after_again}
use Rattle.iiif_machine.specs.Steps.{after_ask_peer, after_reply, stage_taken, after_take, after_lose, after_go_local, after_begin}
use Rattle.iiif_machine.specs.Steps.{after_load, after_fault, after_land, node_without, stage_stopped, flight_stopped, after_stop, step}
use Rattle.iiif_machine.specs.declared.events.Event.TheVariants as event
use Rattle.iiif_tables.specs.Flights.{same_class}
use Rattle.iiif_tables.proofs.FlightLaws.{same_class_refl}
use Rattle.iiif_machine.specs.Sound.{IsApart, IsLed, IsListed}
use Rattle.iiif_machine.specs.Promises.{After}
use Rattle.iiif_machine.proofs.Lists.{get_end}
use Rattle.iiif_machine.proofs.Registers.{set_found}
use Rattle.iiif_machine.proofs.Opened.{enter_only, joins_open, again_only, land_only, evicted_only, emptied_only}
use Rattle.iiif_machine.proofs.Learning.{after_bind}

-- lists

set_apart : {A : Type 0} (xs : List A) (i j : ℕ) (x y : A) → slice_get (slice_set xs i y) j ≡ Some x → ((j ≡ i) × (x ≡ y)) ⊎
    ((j ≡ i → ⊥) × (slice_get xs j ≡ Some x))
set_apart [] i j x y h = absurd (none-some x h)
set_apart (z ∷ xs) zero zero x y h = inl (refl, sym (same_Some y x h))
set_apart (z ∷ xs) zero (suc j) x y h = inr (λ e. omega arith, h)
set_apart (z ∷ xs) (suc i) zero x y h = inr (λ e. omega arith, h)
set_apart (z ∷ xs) (suc i) (suc j) x y h = ⊎_elim
    (λ (e : (j ≡ i) × (x ≡ y)). inl (ap suc e.0, e.1))
    (λ (e : (j ≡ i → ⊥) × (slice_get xs j ≡ Some x)). inr (λ d. e.0 (omega arith), e.1))
    (set_apart xs i j x y h)

pub position_there : {A : Type 0} (p : A → Bool) (xs : List A) (i : ℕ) (x : A) → slice_get xs i ≡ Some x → p x ≡ true → (j : ℕ) ×
    (position p xs ≡ Some j)
position_there p xs i x at is = ⊎_elim
    (λ (less : position_or_len p xs < length xs).
    (position_or_len p xs, ap (λ b. cond b (Some (position_or_len p xs)) None) (lt-ltb _ _ less)))
    (λ (past : length xs ≤ position_or_len p xs).
    let within = slice_get_within xs i x at in
    let fails = fails_before_first p xs i x (omega arith) in
    let same = get_or_from_slice_get xs i x x at in
    absurd (true_false (p x) is (ap p (sym same) ∙ fails)))
    (cases_lt (position_or_len p xs) (length xs))
  where
    true_false : (b : Bool) → b ≡ true → b ≡ false → ⊥
    true_false b e f = cc

-- an open flight of xs is one of ys
abbrev OpenTo : List Flight → List Flight → Type 0
OpenTo xs ys = (f : ℕ) (x : Flight) → slice_get xs f ≡ Some x → is_open x.stage ≡ true →
    (y : Flight) × (slice_get ys f ≡ Some y) × (is_open y.stage ≡ true) × (y.lead ≡ x.lead)

to_same : (xs : List Flight) → OpenTo xs xs
to_same xs f x at o = (x, at, o, refl)

to_set : (xs : List Flight) (f : ℕ) (l : Lead) (old new : Stage) → slice_get xs f ≡ Some (record { lead = l; stage = old }) →
    is_open new ≡ true →
    OpenTo xs (slice_set xs f (record { lead = l; stage = new }))
to_set xs f l old new there will g x at o =
    let made : Flight = record { lead = l; stage = new } in
    ⊎_elim
    (λ (e : (g ≡ f) × (slice_get (slice_set xs f made) g ≡ Some made)).
    let same : x ≡ record { lead = l; stage = old } =
    same_Some x (record { lead = l; stage = old }) (sym at ∙ ap (slice_get xs) e.0 ∙ there) in
    (made, e.1, will, sym (ap (λ (z : Flight). z.lead) same)))
    (λ (e : slice_get (slice_set xs f made) g ≡ Some x). (x, e, o, refl))
    (set_found xs f g x made at)

stays_open : (w : World) (x : Stage) → is_open x ≡ true → is_open (resumed_stage w x) ≡ true
stays_open w New o = refl
stays_open w Looked o = refl
stays_open w Asking o = refl
stays_open w (Fallback None) o = refl
stays_open w (Fallback (Some c)) o = ready_open (learned w c)
  where
    ready_open : (x : Option Outcome) → is_open (ready_with (Fallback (Some c)) x) ≡ true
    ready_open None = refl
    ready_open (Some y) = refl
stays_open w (Parts cs) o = refl
stays_open w (Ready x p) o = refl
stays_open w (Ended x) o = o

to_resumed : (w : World) (xs : List Flight) → OpenTo xs (map (resumed w) xs)
to_resumed w xs f x at o = (resumed w x, get_map (resumed w) xs f x at, stays_open w x.stage o, refl)

led_to : (xs ys : List Flight) (i : ℕ) (k : Key) (c : Class) → OpenTo xs ys → IsLed xs i k c → IsLed ys i k c
led_to xs ys i k c to h =
    let y = to h.0 h.1 h.2 h.3 in
    (h.0, y.0, y.1, y.2, ap (λ (l : Lead). l.node) y.3 ∙ h.4, ap (λ (l : Lead). l.key) y.3 ∙ h.5, ap (λ (l : Lead). l.class) y.3 ∙ h.6)

listed_by : (w v : World) → OpenTo w.flights v.flights →
    ((i : ℕ) (n : Node) (q : Key) (d : Class) (m : ℕ) → slice_get v.nodes i ≡ Some n → IsOpen (table_at n q) q d m → IsLed w.flights i q d)
    → IsListed v
listed_by w v to back = record { all = λ i n q d m at o. led_to w.flights v.flights i q d to (back i n q d m at o) }

listed_same : (w v : World) → v.flights ≡ w.flights → v.nodes ≡ w.nodes → IsListed w → IsListed v
listed_same w v e f h = listed_by w v (subst (λ xs. OpenTo w.flights xs) (sym e) (to_same w.flights))
    (λ i n q d m at o. h.all i n q d m (subst (λ ns. slice_get ns i ≡ Some n) f at) o)

listed_stage : (w v : World) (f : ℕ) (l : Lead) (old new : Stage) → slice_get w.flights f ≡ Some (record { lead = l; stage = old }) →
    is_open new ≡ true →
    v.flights ≡ slice_set w.flights f (record { lead = l; stage = new }) → v.nodes ≡ w.nodes → IsListed w → IsListed v
listed_stage w v f l old new at will e g h =
    listed_by w v (subst (λ xs. OpenTo w.flights xs) (sym e) (to_set w.flights f l old new at will))
    (λ i n q d m there o. h.all i n q d m (subst (λ ns. slice_get ns i ≡ Some n) g there) o)

listed_settled : (w : World) → IsListed w → IsListed (settled w)
listed_settled w h = listed_by w (settled w) (to_resumed w w.flights) h.all

-- tables

split : (n : Node) (t : Table) (b c : Bool) (P : Table → Type 0) →
    P (if c then (if b then record n { tiles = t } else record n { sums = t }).tiles else
    (if b then record n { tiles = t } else record n { sums = t }).sums) →
    (P t × ((if b then n.tiles else n.sums) ≡ (if c then n.tiles else n.sums))) ⊎ ((b ≡ c → ⊥) × P (if c then n.tiles else n.sums))
split n t true true P h = inl (h, refl)
split n t true false P h = inr (λ e. cc, h)
split n t false true P h = inr (λ e. cc, h)
split n t false false P h = inl (h, refl)

-- what is open after a table was put back: in that table, or in another as before
abbrev PutCases : List Node → ℕ → Node → Key → Table → ℕ → Key → Class → ℕ → Type 0
PutCases nodes i n k t j q d m =
    ((j ≡ i) × IsOpen t q d m × (table_at n k ≡ table_at n q))
    ⊎ ((j ≡ i → is_tile k ≡ is_tile q → ⊥) × (o : Node) × (slice_get nodes j ≡ Some o) × IsOpen (table_at o q) q d m)

put_cases : (nodes : List Node) (i : ℕ) (n : Node) (k : Key) (t : Table) (j : ℕ) (u : Node) (q : Key) (d : Class) (m : ℕ) →
    slice_get nodes i ≡ Some n →
    slice_get (slice_set nodes i (put_table n k t)) j ≡ Some u → IsOpen (table_at u q) q d m → PutCases nodes i n k t j q d m
put_cases nodes i n k t j u q d m there at o = ⊎_elim
    (λ (e : (j ≡ i) × (u ≡ put_table n k t)).
    let is : IsOpen (table_at (put_table n k t) q) q d m = subst (λ (z : Node). IsOpen (table_at z q) q d m) e.1 o in
    ⊎_elim
    (λ (s : IsOpen t q d m × (table_at n k ≡ table_at n q)). inl (e.0, s.0, s.1))
    (λ (s : (is_tile k ≡ is_tile q → ⊥) × IsOpen (table_at n q) q d m). inr (λ _ g. s.0 g, n, ap (slice_get nodes) e.0 ∙ there, s.1))
    (split n t (is_tile k) (is_tile q) (λ z. IsOpen z q d m) is))
    (λ (e : (j ≡ i → ⊥) × (slice_get nodes j ≡ Some u)). inr (λ g _. e.0 g, u, e.1, o))
    (set_apart nodes i j u (put_table n k t) at)

-- a table is put back in which no other flight is open
listed_table : (w : World) (i : ℕ) (n : Node) (k : Key) (t : Table) → slice_get w.nodes i ≡ Some n →
    ((q : Key) (d : Class) (m : ℕ) → IsOpen t q d m → IsOpen (table_at n k) q d m) →
    IsListed w → IsListed (with_node w i (put_table n k t))
listed_table w i n k t there back h = record {
  all = λ j u q d m at o. ⊎_elim
      (λ (s : (j ≡ i) × IsOpen t q d m × (table_at n k ≡ table_at n q)).
      h.all j n q d m (ap (slice_get w.nodes) s.0 ∙ there) (subst (λ z. IsOpen z q d m) s.2 (back q d m s.1)))
      (λ (s : (j ≡ i → is_tile k ≡ is_tile q → ⊥) × (o : Node) × (slice_get w.nodes j ≡ Some o) × IsOpen (table_at o q) q d m).
      h.all j s.1 q d m s.2 s.3)
      (put_cases w.nodes i n k t j u q d m there at o);
}

-- Enter

entered_listed : (w : World) (c : ℕ) (who : Caller) (n : Node) (x : Entered) (t : Table) → IsListed w →
    slice_get w.nodes who.node ≡ Some n →
    enter (table_at n who.key) who.key who.class ≡ (x, t) → After IsListed (after_meeting w c who n (x, t))
entered_listed w c who n (finds v) t h there e =
    let v1 = with_node w who.node (put_table n who.key t) in
    let h1 = listed_table w who.node n who.key t there (λ q d m o. ⊎_elim
    (λ (s : IsOpen (table_at n who.key) q d m). s)
    (λ (s : (who.key ≡ q) × (who.class ≡ d) × (finds v ≡ leads ((table_at n who.key).book.leads + 1))). absurd (not_found v _ s.2))
    (enter_only (table_at n who.key) t who.key q who.class d m (finds v) e o)) h in
    listed_settled (with_state v1 c who (Hit v)) (listed_same v1 (with_state v1 c who (Hit v)) refl refl h1)
  where
    not_found : (v : Value) (n : ℕ) → finds v ≡ leads n → ⊥
    not_found v n e = cc
entered_listed w c who n joins t h there e =
    let v1 = with_node w who.node (put_table n who.key t) in
    let h1 = listed_table w who.node n who.key t there (λ q d m o. ⊎_elim
    (λ (s : IsOpen (table_at n who.key) q d m). s)
    (λ (s : (who.key ≡ q) × (who.class ≡ d) × (joins ≡ leads ((table_at n who.key).book.leads + 1))). absurd (not_joined _ s.2))
    (enter_only (table_at n who.key) t who.key q who.class d m joins e o)) h in
    after_bind IsListed (position (is_open_for who) w.flights) (λ f. Some (with_state v1 c who (In f)))
    (λ f _. listed_same v1 (with_state v1 c who (In f)) refl refl h1)
  where
    not_joined : (n : ℕ) → joins ≡ leads n → ⊥
    not_joined n e = cc
entered_listed w c who n (leads a) t h there e =
    let l = lead_of who a in
    let made : Flight = record { lead = l; stage = New } in
    let flights = w.flights ++ made ∷ [] in
    record {
      all = λ j u q d m at o. ⊎_elim
          (λ (s : (j ≡ who.node) × IsOpen t q d m × (table_at n who.key ≡ table_at n q)). ⊎_elim
          (λ (r : IsOpen (table_at n who.key) q d m).
          old (h.all j n q d m (ap (slice_get w.nodes) s.0 ∙ there) (subst (λ z. IsOpen z q d m) s.2 r)))
          (λ (r : (who.key ≡ q) × (who.class ≡ d) × (leads a ≡ leads ((table_at n who.key).book.leads + 1))).
          (length w.flights, made, get_end w.flights made [], refl, sym s.0, r.0, r.1))
          (enter_only (table_at n who.key) t who.key q who.class d m (leads a) e s.1))
          (λ (s : (j ≡ who.node → is_tile who.key ≡ is_tile q → ⊥) × (o : Node) × (slice_get w.nodes j ≡ Some o) ×
          IsOpen (table_at o q) q d m). old (h.all j s.1 q d m s.2 s.3))
          (put_cases w.nodes who.node n who.key t j u q d m there at o);
    }
  where
    old : {i : ℕ} {q : Key} {d : Class} → IsLed w.flights i q d →
        IsLed (w.flights ++ record { lead = lead_of who a; stage = New } ∷ []) i q d
    old r = (r.0, r.1, get_left w.flights _ r.0 r.1 r.2, r.3, r.4, r.5, r.6)

entering_listed : (w : World) (c : ℕ) (who : Caller) (n : Node) (x : CallState) → IsListed w → slice_get w.nodes who.node ≡ Some n →
    After IsListed (after_enter w c who n x)
entering_listed w c who n Fresh h there =
    let r = enter (table_at n who.key) who.key who.class in
    entered_listed w c who n r.0 r.1 h there refl
entering_listed w c who n (Hit v) h there = tt
entering_listed w c who n (In f) h there = tt
entering_listed w c who n Gone h there = tt

-- Again

found_open : (x : Option Value) → is_open (stage_found x) ≡ true
found_open None = refl
found_open (Some v) = refl

looking_listed : (w : World) (f : ℕ) (l : Lead) (n : Node) (x : Stage) → IsListed w →
    slice_get w.flights f ≡ Some (record { lead = l; stage = x }) →
    slice_get w.nodes l.node ≡ Some n → After IsListed (after_again w f l n x)
looking_listed w f l n New h at there =
    let r = again (table_at n l.key) l.key l.class l.ticket in
    let v1 = with_node w l.node (put_table n l.key r.1) in
    let h1 = listed_table w l.node n l.key r.1 there (λ q d m o. again_only (table_at n l.key) l.key q l.class d l.ticket m o) h in
    listed_stage v1 (with_stage v1 f l (stage_found r.0)) f l New (stage_found r.0) at (found_open r.0) refl refl h1
looking_listed w f l n Looked h at there = tt
looking_listed w f l n Asking h at there = tt
looking_listed w f l n (Fallback c) h at there = tt
looking_listed w f l n (Parts cs) h at there = tt
looking_listed w f l n (Ready o p) h at there = tt
looking_listed w f l n (Ended o) h at there = tt

-- the events that change no table

asking_listed : (w : World) (f : ℕ) (l : Lead) (n : Node) (c : Class) (x : Stage) → IsListed w →
    slice_get w.flights f ≡ Some (record { lead = l; stage = x }) → After IsListed (after_ask_peer w f l n c x)
asking_listed w f l n Wide Looked h at =
    after_bind IsListed (position (λ m. bytes_eq m.name (owner_of n l.key)) w.nodes)
    (λ o. Some (with_ask (with_stage w f l Asking) (record { node = o; key = l.key; flight = f; version = version_at w.scene l.key })))
    (λ o _. listed_stage w _ f l Looked Asking at refl refl refl h)
asking_listed w f l n Local x h at = tt
asking_listed w f l n Wide New h at = tt
asking_listed w f l n Wide Asking h at = tt
asking_listed w f l n Wide (Fallback c) h at = tt
asking_listed w f l n Wide (Parts cs) h at = tt
asking_listed w f l n Wide (Ready o p) h at = tt
asking_listed w f l n Wide (Ended o) h at = tt

replying_listed : (w : World) (c : ℕ) (who : Caller) (x : Purpose) → IsListed w → After IsListed (after_reply w c who x)
replying_listed w c who (ForAsk a) h = after_bind IsListed (learned w c) (λ o. Some (with_reply w (record { key = who.key; outcome = o })))
    (λ o _. listed_same w _ refl refl h)
replying_listed w c who (ForRequest r) h = tt
replying_listed w c who (ForPart f) h = tt
replying_listed w c who (ForFallback f) h = tt

taken_open : (k q : Key) (o : Outcome) → is_open (stage_taken k q o) ≡ true
taken_open k q (Err f) = refl
taken_open k q (Ok v) = elim (key_eq q k) as (λ b. is_open (if b then Ready (Ok v) Peer else Fallback None) ≡ true)
    [ true ↦ refl | false ↦ refl ]

taking_listed : (w : World) (f : ℕ) (l : Lead) (r : Reply) (x : Stage) → IsListed w →
    slice_get w.flights f ≡ Some (record { lead = l; stage = x }) → After IsListed (after_take w f l r x)
taking_listed w f l r Asking h at = listed_stage w (with_stage w f l (stage_taken l.key r.key r.outcome)) f l Asking
    (stage_taken l.key r.key r.outcome) at (taken_open l.key r.key r.outcome) refl refl h
taking_listed w f l r (Ended o) h at = h
taking_listed w f l r New h at = tt
taking_listed w f l r Looked h at = tt
taking_listed w f l r (Fallback c) h at = tt
taking_listed w f l r (Parts cs) h at = tt
taking_listed w f l r (Ready o p) h at = tt

losing_listed : (w : World) (f : ℕ) (l : Lead) (x : Stage) → IsListed w → slice_get w.flights f ≡ Some (record { lead = l; stage = x }) →
    After IsListed (after_lose w f l x)
losing_listed w f l Asking h at = listed_stage w (with_stage w f l (Fallback None)) f l Asking (Fallback None) at refl refl refl h
losing_listed w f l x h at = tt

going_local_listed : (w : World) (f : ℕ) (l : Lead) (x : Stage) → IsListed w →
    slice_get w.flights f ≡ Some (record { lead = l; stage = x }) → After IsListed (after_go_local w f l x)
going_local_listed w f l (Fallback None) h at = listed_stage w _ f l (Fallback None) (Fallback (Some (length w.calls))) at refl refl refl h
going_local_listed w f l (Fallback (Some c)) h at = tt
going_local_listed w f l New h at = tt
going_local_listed w f l Looked h at = tt
going_local_listed w f l Asking h at = tt
going_local_listed w f l (Parts cs) h at = tt
going_local_listed w f l (Ready o p) h at = tt
going_local_listed w f l (Ended o) h at = tt

begun_listed : (w : World) (f : ℕ) (l : Lead) (n : Node) (x : Option (List Key)) → IsListed w →
    slice_get w.flights f ≡ Some (record { lead = l; stage = Looked }) → IsListed (after_begin w f l n x)
begun_listed w f l n None h at = listed_stage w (after_begin w f l n None) f l Looked _ at refl refl refl h
begun_listed w f l n (Some ks) h at = listed_stage w (after_begin w f l n (Some ks)) f l Looked _ at refl refl refl h

loading_listed : (w : World) (f : ℕ) (l : Lead) (n : Node) (c : Class) (x : Stage) → IsListed w →
    slice_get w.flights f ≡ Some (record { lead = l; stage = x }) → After IsListed (after_load w f l n c x)
loading_listed w f l n Local Looked h at = begun_listed w f l n (parts_of l.key) h at
loading_listed w f l n Local (Parts cs) h at =
    after_bind IsListed (decided w cs) (λ os. Some (with_stage w f l (Ready (outcome_from w.scene l.key (collected os)) _)))
    (λ os _. listed_stage w _ f l (Parts cs) _ at refl refl refl h)
loading_listed w f l n Wide x h at = tt
loading_listed w f l n Local New h at = tt
loading_listed w f l n Local Asking h at = tt
loading_listed w f l n Local (Fallback c) h at = tt
loading_listed w f l n Local (Ready o p) h at = tt
loading_listed w f l n Local (Ended o) h at = tt

failing_listed : (w : World) (f : ℕ) (l : Lead) (e : ReadFault) (c : Class) (y : Option (List Key)) (x : Stage) → IsListed w →
    slice_get w.flights f ≡ Some (record { lead = l; stage = x }) → After IsListed (after_fault w f l e c y x)
failing_listed w f l e Local None Looked h at = listed_stage w _ f l Looked _ at refl refl refl h
failing_listed w f l e Wide y x h at = tt
failing_listed w f l e Local (Some ks) x h at = tt
failing_listed w f l e Local None New h at = tt
failing_listed w f l e Local None Asking h at = tt
failing_listed w f l e Local None (Fallback c) h at = tt
failing_listed w f l e Local None (Parts cs) h at = tt
failing_listed w f l e Local None (Ready o p) h at = tt
failing_listed w f l e Local None (Ended o) h at = tt

-- Land

-- the flight that ends is another
still_led : (w : World) (f : ℕ) (l : Lead) (old new : Stage) (i : ℕ) (q : Key) (d : Class) →
    slice_get w.flights f ≡ Some (record { lead = l; stage = old }) →
    (l.node ≡ i → l.key ≡ q → l.class ≡ d → ⊥) → IsLed w.flights i q d →
    IsLed (slice_set w.flights f (record { lead = l; stage = new })) i q d
still_led w f l old new i q d at apart r =
    let made : Flight = record { lead = l; stage = new } in
    ⊎_elim
    (λ (e : (r.0 ≡ f) × (slice_get (slice_set w.flights f made) r.0 ≡ Some made)).
    let same : r.1 ≡ record { lead = l; stage = old } =
    same_Some r.1 (record { lead = l; stage = old }) (sym r.2 ∙ ap (slice_get w.flights) e.0 ∙ at) in
    let lead : l ≡ r.1.lead = sym (ap (λ (z : Flight). z.lead) same) in
    absurd (apart (ap (λ (z : Lead). z.node) lead ∙ r.4) (ap (λ (z : Lead). z.key) lead ∙ r.5) (ap (λ (z : Lead). z.class) lead ∙ r.6)))
    (λ (e : slice_get (slice_set w.flights f made) r.0 ≡ Some r.1). (r.0, r.1, e, r.3, r.4, r.5, r.6))
    (set_found w.flights f r.0 r.1 made r.2)

landing_listed : (w : World) (f : ℕ) (l : Lead) (n : Node) (kept : Bool) (x : Stage) → IsApart w → IsListed w →
    slice_get w.flights f ≡ Some (record { lead = l; stage = x }) →
    slice_get w.nodes l.node ≡ Some n → After IsListed (after_land w f l n kept x)
landing_listed w f l n kept (Ready o p) a h at there =
    let t = table_at n l.key in
    let u = land t l.key l.class l.ticket o p kept in
    let v = with_stage (with_node w l.node (put_table n l.key u)) f l (Ended (Some o)) in
    let reg = a.registered f (record { lead = l; stage = Ready o p }) at refl in
    let node : reg.0 ≡ n = same_Some reg.0 n (sym reg.1 ∙ there) in
    let lead : IsOpen t l.key l.class l.ticket = subst (λ (z : Node). IsOpen (table_at z l.key) l.key l.class l.ticket) node reg.2 in
    let h1 : IsListed v = record {
      all = λ j z q d m place is. ⊎_elim
          (λ (s : (j ≡ l.node) × IsOpen u q d m × (table_at n l.key ≡ table_at n q)).
          let only = land_only t l.key q l.class d l.ticket m o p kept lead s.1 in
          still_led w f l (Ready o p) (Ended (Some o)) j q d at (λ _ k c. only.1 k c)
          (h.all j n q d m (ap (slice_get w.nodes) s.0 ∙ there) (subst (λ y. IsOpen y q d m) s.2 only.0)))
          (λ (s : (j ≡ l.node → is_tile l.key ≡ is_tile q → ⊥) × (y : Node) × (slice_get w.nodes j ≡ Some y) × IsOpen (table_at y q) q d m).
          still_led w f l (Ready o p) (Ended (Some o)) j q d at (λ i k _. s.0 (sym i) (ap is_tile k)) (h.all j s.1 q d m s.2 s.3))
          (put_cases w.nodes l.node n l.key u j z q d m there place is);
    } in
    listed_settled v h1
landing_listed w f l n kept New a h at there = tt
landing_listed w f l n kept Looked a h at there = tt
landing_listed w f l n kept Asking a h at there = tt
landing_listed w f l n kept (Fallback c) a h at there = tt
landing_listed w f l n kept (Parts cs) a h at there = tt
landing_listed w f l n kept (Ended o) a h at there = tt

-- Evict, Stop

lost_only : (n : Node) (ks : List Key) (b : Bool) (q : Key) (d : Class) (m : ℕ) →
    IsOpen (if b then (node_without n ks).tiles else (node_without n ks).sums) q d m → IsOpen (if b then n.tiles else n.sums) q d m
lost_only n ks true q d m o = evicted_only n.tiles ks q d m o
lost_only n ks false q d m o = evicted_only n.sums ks q d m o

evicted_listed : (w : World) (i : ℕ) (n : Node) (ks : List Key) → IsListed w → slice_get w.nodes i ≡ Some n →
    IsListed (with_node w i (node_without n ks))
evicted_listed w i n ks h there = record {
  all = λ j u q d m at o. ⊎_elim
      (λ (e : (j ≡ i) × (u ≡ node_without n ks)).
      let is : IsOpen (table_at (node_without n ks) q) q d m = subst (λ (z : Node). IsOpen (table_at z q) q d m) e.1 o in
      h.all j n q d m (ap (slice_get w.nodes) e.0 ∙ there) (lost_only n ks (is_tile q) q d m is))
      (λ (e : (j ≡ i → ⊥) × (slice_get w.nodes j ≡ Some u)). h.all j u q d m e.1 o)
      (set_apart w.nodes i j u (node_without n ks) at);
}

abbrev empty_node : Node → Node
empty_node n = record n { tiles = emptied n.tiles; sums = emptied n.sums }

empty_only : (n : Node) (b : Bool) (q : Key) (d : Class) (m : ℕ) → IsOpen (if b then (empty_node n).tiles else (empty_node n).sums) q d m →
    ⊥
empty_only n true q d m o = emptied_only n.tiles q d m o
empty_only n false q d m o = emptied_only n.sums q d m o

halted_not : (x : Flight) (b : Bool) → b ≡ false → (if b then record { lead = x.lead; stage = stage_stopped x.stage } else x) ≡ x
halted_not x true e = absurd cc
halted_not x false e = refl

stopped_listed : (w : World) (i : ℕ) (n : Node) → IsListed w → IsListed (after_stop w i n)
stopped_listed w i n h = record {
  all = λ j u q d m at o. ⊎_elim
      (λ (e : (j ≡ i) × (u ≡ empty_node n)). absurd
      (empty_only n (is_tile q) q d m (subst (λ (z : Node). IsOpen (table_at z q) q d m) e.1 o)))
      (λ (e : (j ≡ i → ⊥) × (slice_get w.nodes j ≡ Some u)).
      let r = h.all j u q d m e.1 o in
      let far : (r.1.lead.node == i) ≡ false = ne_eqb r.1.lead.node i (λ s. e.0 (sym r.4 ∙ s)) in
      let same : flight_stopped i r.1 ≡ r.1 = halted_not r.1 (r.1.lead.node == i) far in
      (r.0, r.1, get_map (flight_stopped i) w.flights r.0 r.1 r.2 ∙ ap Some same, r.3, r.4, r.5, r.6))
      (set_apart w.nodes i j u (empty_node n) at);
}

wanted_listed : (w : World) (n : Node) (p : Picture) (q : RequestInfo) (x : Result Resolved Refusal) → IsListed w →
    IsListed (after_want w n p q x)
wanted_listed w n p q (Err e) h = listed_same w (after_want w n p q (Err e)) refl refl h
wanted_listed w n p q (Ok r) h = listed_same w (after_want w n p q (Ok r)) refl refl h

pub step_listed : (w : World) (e : Event) → IsApart w → IsListed w → After IsListed (step w e)
unfolding step
step_listed w (Want node name request) a h =
    after_bind IsListed (slice_get w.nodes node) _
    (λ n at. after_bind IsListed (w.scene.shows name) _ (λ p shown. after_bind IsListed (speaker n (version_shown p)) _ (λ m speaks.
    wanted_listed w n p (record { node = node; name = name; request = request }) (resolved w.scene p request) h)))
step_listed w (Enter c) a h =
    after_bind IsListed (slice_get w.calls c) _
    (λ call at. after_bind IsListed (slice_get w.nodes call.caller.node) _
    (λ n there. entering_listed w c call.caller n call.state h there))
step_listed w (Again f) a h =
    after_bind IsListed (slice_get w.flights f) _
    (λ fl at. after_bind IsListed (slice_get w.nodes fl.lead.node) _ (λ n there. looking_listed w f fl.lead n fl.stage h at there))
step_listed w (AskPeer f) a h =
    after_bind IsListed (slice_get w.flights f) _
    (λ fl at. after_bind IsListed (slice_get w.nodes fl.lead.node) _
    (λ n there. asking_listed w f fl.lead n fl.lead.class fl.stage h at))
step_listed w (Serve k) a h = after_bind IsListed (slice_get w.asks k) _
    (λ q at. after_bind IsListed (slice_get w.nodes q.node) _
    (λ n there. after_bind IsListed (speaker n q.version) _ (λ m speaks. listed_same w _ refl refl h)))
step_listed w (event.Reply c) a h = after_bind IsListed (slice_get w.calls c) _
    (λ call at. replying_listed w c call.caller call.caller.purpose h)
step_listed w (Take f r) a h =
    after_bind IsListed (slice_get w.flights f) _
    (λ fl at. after_bind IsListed (slice_get w.replies r) _ (λ reply there. taking_listed w f fl.lead reply fl.stage h at))
step_listed w (Lose f) a h = after_bind IsListed (slice_get w.flights f) _ (λ fl at. losing_listed w f fl.lead fl.stage h at)
step_listed w (GoLocal f) a h = after_bind IsListed (slice_get w.flights f) _ (λ fl at. going_local_listed w f fl.lead fl.stage h at)
step_listed w (Load f) a h =
    after_bind IsListed (slice_get w.flights f) _
    (λ fl at. after_bind IsListed (slice_get w.nodes fl.lead.node) _
    (λ n there. loading_listed w f fl.lead n fl.lead.class fl.stage h at))
step_listed w (SourceFault f e) a h =
    after_bind IsListed (slice_get w.flights f) _ (λ fl at. failing_listed w f fl.lead e fl.lead.class (parts_of fl.lead.key) fl.stage h at)
step_listed w (Land f kept) a h =
    after_bind IsListed (slice_get w.flights f) _
    (λ fl at. after_bind IsListed (slice_get w.nodes fl.lead.node) _
    (λ n there. landing_listed w f fl.lead n kept fl.stage a h at there))
step_listed w (Evict node keys) a h = after_bind IsListed (slice_get w.nodes node) _ (λ n at. evicted_listed w node n keys.items h at)
step_listed w (Stop node) a h = after_bind IsListed (slice_get w.nodes node) _ (λ n at. stopped_listed w node n h)

-- so a call that has not entered may enter

is_for : (who : Caller) (x : Flight) → is_open x.stage ≡ true → x.lead.node ≡ who.node → x.lead.key ≡ who.key → x.lead.class ≡ who.class →
    is_open_for who x ≡ true
is_for who x o node k c =
    all_true (is_open x.stage) (x.lead.node == who.node) (key_eq x.lead.key who.key) (same_class x.lead.class who.class) o
    (subst (λ n. nat_eq n who.node ≡ true) (sym node) (eq_same who.node))
    (subst (λ q. key_eq q who.key ≡ true) (sym k) (key_same who.key))
    (subst (λ d. same_class d who.class ≡ true) (sym c) (same_class_refl who.class))
  where
    all_true : (a b c d : Bool) → a ≡ true → b ≡ true → c ≡ true → d ≡ true → (a && (b && (c && d))) ≡ true
    all_true a b c d p q r s = ap (λ x. x && (b && (c && d))) p ∙ ap (λ x. x && (c && d)) q ∙ ap (λ x. x && d) r ∙ s

pub entered_there : (w : World) (c : ℕ) (who : Caller) (n : Node) (x : Entered) (t : Table) → IsListed w →
    slice_get w.nodes who.node ≡ Some n →
    enter (table_at n who.key) who.key who.class ≡ (x, t) → (v : World) × (after_meeting w c who n (x, t) ≡ Some v)
entered_there w c who n (finds v) t h there e = (settled (with_state (with_node w who.node (put_table n who.key t)) c who (Hit v)), refl)
entered_there w c who n (leads m) t h there e =
    (with_state (with_flight (with_node w who.node (put_table n who.key t)) (lead_of who m)) c who (In (length w.flights)), refl)
entered_there w c who n joins t h there e =
    let o = joins_open (table_at n who.key) t who.key who.class e in
    let r = h.all who.node n who.key who.class o.0 there o.1 in
    let f = position_there (is_open_for who) w.flights r.0 r.1 r.2 (is_for who r.1 r.3 r.4 r.5 r.6) in (
      with_state (with_node w who.node (put_table n who.key t)) c who (In f.0),
      ap (λ (y : Option ℕ). y >>= (λ f. Some (with_state (with_node w who.node (put_table n who.key t)) c who (In f)))) f.1,
    )
