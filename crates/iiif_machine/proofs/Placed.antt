-- Each event leaves ended flights, names and rings as they are, and makes calls, flights and asks of nodes that are there.
use Rattle.std.proofs.Common.{◌≡◌, ℕ, List, [], ◌∷◌, ◌++◌, map, length, Bool, true, false, Option, Some, None, Result, Ok, Err, refl, sym}
use Rattle.std.proofs.Common.{ap, subst, ◌∙◌, ⊎_elim, if◌then◌else◌}
use Rattle.std.specs.Prelude.{slice_get, slice_set, position, ◌==◌}
use Rattle.std.specs.Str.{bytes_eq}
use Rattle.std.proofs.lemmas.Option.{same_Some}
use Rattle.std.proofs.lemmas.List.{map-append}
use Rattle.iiif_machine.specs.Keys.{is_tile, parts_of}
use Rattle.iiif_machine.specs.Plans.{resolved, items}
use Rattle.iiif_machine.proofs.Lists.{get_left, get_map}
use Rattle.iiif_machine.specs.Types.{Key, ReadFault, Picture, Resolved, Refusal}
use Rattle.iiif_machine.specs.Tables.{Class, Wide, Local, Table, Outcome, Entered, finds, joins, leads, enter, again}
use Rattle.iiif_machine.specs.Rows.{Node, Purpose, ForRequest, ForPart, ForFallback, ForAsk, Caller, CallState, Fresh, Hit, In, Gone, Lead}
use Rattle.iiif_machine.specs.Rows.{Stage, New, Looked, Asking, Fallback, Parts, Ready, Ended, Flight, Ask, Reply, RequestInfo}
use Rattle.iiif_machine.specs.Worlds.{World, version_shown, version_at, speaker, owner_of, table_at, put_table, with_node, with_stage}
use Rattle.iiif_machine.specs.Worlds.{with_state, with_calls, with_flight, with_ask, with_reply, call_for, learned, decided, collected}
use Rattle.iiif_machine.specs.Worlds.{outcome_from, resumed, settled}
use Rattle.iiif_machine.specs.Steps.{Want, Enter, Again, AskPeer, Serve, Take, Lose, GoLocal, Load, SourceFault, Land, Evict, Stop}
use Rattle.iiif_machine.specs.Steps.{after_want, is_open, is_open_for, lead_of, after_meeting, after_enter, stage_found, after_again}
use Rattle.iiif_machine.specs.Steps.{after_ask_peer, caller_serving, after_reply, stage_taken, after_take, after_lose, after_go_local}
use Rattle.iiif_machine.specs.Steps.{after_begin, after_load, after_fault, after_land, node_without, flight_stopped, call_stopped}
use Rattle.iiif_machine.specs.Steps.{after_stop, step}
use Rattle.iiif_machine.specs.declared.events.Event.TheVariants as event
use Rattle.iiif_machine.specs.Sound.{Each, facts, caller_of, lead_in, Card, card_of, cards, IsThere, NamesNodes, IsPlaced}
use Rattle.iiif_machine.specs.Promises.{EndedStay, After}
use Rattle.iiif_machine.proofs.Words.{Stays, StepsStayPlaced}
use Rattle.iiif_machine.proofs.Lists.{each_append, each_map, each_one, map_set, map_same, position_found}
use Rattle.iiif_machine.proofs.Changes.{callers_more}
use Rattle.iiif_machine.proofs.Registers.{set_found}
use Rattle.iiif_machine.proofs.Stops.{lead_by, caller_by}
use Rattle.iiif_machine.proofs.Learning.{after_bind}

abbrev CallersThere : World → List Caller → Type 0
CallersThere w = Each (λ who. IsThere (cards w) who.node)

abbrev LeadsThere : World → List Lead → Type 0
LeadsThere w = Each (λ l. IsThere (cards w) l.node)

abbrev AsksThere : World → List Ask → Type 0
AsksThere w = Each (λ q. IsThere (cards w) q.node)

stays_by : (w v : World) → cards v ≡ cards w → EndedStay w v → CallersThere w (facts v).callers → LeadsThere w (facts v).leads →
    AsksThere w v.asks → IsPlaced w → Stays w v
stays_by w v e ended callers owners asks h =
    record {
      ended = ended;
      cards = e;
      placed = record {
        rings = rings_by (cards w) (cards v) (sym e) h.rings;
        callers = λ i x at. there_by (cards w) (cards v) x.node (sym e) (callers i x at);
        leads = λ i x at. there_by (cards w) (cards v) x.node (sym e) (owners i x at);
        asks = λ i x at. there_by (cards w) (cards v) x.node (sym e) (asks i x at);
      };
    }
  where
    there_by : (cs ds : List Card) (i : ℕ) → cs ≡ ds → IsThere cs i → IsThere ds i
    there_by cs ds i e h = subst (λ xs. IsThere xs i) e h

    rings_by : (cs ds : List Card) → cs ≡ ds → Each (NamesNodes cs) cs → Each (NamesNodes ds) ds
    rings_by cs ds e h = subst (λ xs. Each (NamesNodes xs) xs) e h

there : (w : World) (i : ℕ) (n : Node) → slice_get w.nodes i ≡ Some n → IsThere (cards w) i
there w i n at = (card_of n, get_map card_of w.nodes i n at)

each_kept : {A : Type 0} (P : A → Type 0) (xs ys : List A) → ys ≡ xs → Each P xs → Each P ys
each_kept P xs ys e h = subst (λ zs. Each P zs) (sym e) h

-- a table is put back
card_put : (n : Node) (t : Table) (b : Bool) → card_of (if b then record n { tiles = t } else record n { sums = t }) ≡ card_of n
card_put n t true = refl
card_put n t false = refl

cards_put : (w : World) (i : ℕ) (n : Node) (k : Key) (t : Table) → slice_get w.nodes i ≡ Some n →
    cards (with_node w i (put_table n k t)) ≡ cards w
cards_put w i n k t at = map_set card_of w.nodes i n (put_table n k t) at (card_put n t (is_tile k))

-- an open flight goes on
ended_set : (xs : List Flight) (g : ℕ) (m : Lead) (old new : Stage) → slice_get xs g ≡ Some (record { lead = m; stage = old }) →
    is_open old ≡ true →
    (f : ℕ) (l : Lead) (o : Option Outcome) → slice_get xs f ≡ Some (record { lead = l; stage = Ended o }) →
    slice_get (slice_set xs g (record { lead = m; stage = new })) f ≡ Some (record { lead = l; stage = Ended o })
ended_set xs g m old new at is f l o there =
    let was : Flight = record { lead = m; stage = old } in
    let row : Flight = record { lead = l; stage = Ended o } in
    ⊎_elim
    (λ (e : (f ≡ g) × (slice_get (slice_set xs g (record { lead = m; stage = new })) f ≡ Some (record { lead = m; stage = new }))).
    let same : was ≡ row = same_Some was row (sym at ∙ ap (slice_get xs) (sym e.0) ∙ there) in
    let closed : is_open old ≡ false = ap (λ (z : Flight). is_open z.stage) same in
    absurd cc)
    (λ (e : slice_get (slice_set xs g (record { lead = m; stage = new })) f ≡ Some row). e)
    (set_found xs g f row (record { lead = m; stage = new }) there)

leads_set : (xs : List Flight) (g : ℕ) (m : Lead) (old new : Stage) → slice_get xs g ≡ Some (record { lead = m; stage = old }) →
    map lead_in (slice_set xs g (record { lead = m; stage = new })) ≡ map lead_in xs
leads_set xs g m old new at = map_set lead_in xs g (record { lead = m; stage = old }) (record { lead = m; stage = new }) at refl

-- what changes one stage, and perhaps makes calls of nodes that are there
stage_stays : (w v : World) (g : ℕ) (m : Lead) (old new : Stage) → slice_get w.flights g ≡ Some (record { lead = m; stage = old }) →
    is_open old ≡ true →
    v.flights ≡ slice_set w.flights g (record { lead = m; stage = new }) → cards v ≡ cards w → CallersThere w (facts v).callers →
    v.asks ≡ w.asks → IsPlaced w → Stays w v
stage_stays w v g m old new at is flights same callers asks h =
    stays_by w v same
    (λ f l o there. subst (λ fs. slice_get fs f ≡ Some (record { lead = l; stage = Ended o })) (sym flights)
    (ended_set w.flights g m old new at is f l o there))
    callers
    (each_kept (λ l. IsThere (cards w) l.node) (facts w).leads (facts v).leads
    (ap (map lead_in) flights ∙ leads_set w.flights g m old new at) h.leads)
    (each_kept (λ q. IsThere (cards w) q.node) w.asks v.asks asks h.asks) h

-- what changes no flight
flights_stay : (w v : World) → v.flights ≡ w.flights → cards v ≡ cards w → CallersThere w (facts v).callers → v.asks ≡ w.asks → IsPlaced w →
    Stays w v
flights_stay w v flights same callers asks h =
    stays_by w v same (λ f l o there. subst (λ fs. slice_get fs f ≡ Some (record { lead = l; stage = Ended o })) (sym flights) there)
    callers
    (each_kept (λ l. IsThere (cards w) l.node) (facts w).leads (facts v).leads (ap (map lead_in) flights) h.leads)
    (each_kept (λ q. IsThere (cards w) q.node) w.asks v.asks asks h.asks) h

calls_there : (w u : World) (whos : List Caller) → u.calls ≡ w.calls → CallersThere w whos → IsPlaced w →
    CallersThere w (facts (with_calls u whos)).callers
calls_there w u whos same each h =
    each_kept (λ who. IsThere (cards w) who.node) ((facts u).callers ++ whos) (facts (with_calls u whos)).callers (callers_more u whos)
    (each_append (λ who. IsThere (cards w) who.node) (facts u).callers whos
    (each_kept (λ who. IsThere (cards w) who.node) (facts w).callers (facts u).callers (ap (map caller_of) same) h.callers) each)

made_there : (w : World) (i : ℕ) (n : Node) (p : Purpose) (ks : List Key) → IsThere (cards w) i → CallersThere w (map (call_for i n p) ks)
made_there w i n p ks is = each_map (λ (k : Key). IsThere (cards w) i) (λ who. IsThere (cards w) who.node) (call_for i n p) ks (λ k h. h)
    (λ j k at. is)

-- Want

wanted_stays : (w : World) (n : Node) (p : Picture) (q : RequestInfo) (x : Result Resolved Refusal) → slice_get w.nodes q.node ≡ Some n →
    IsPlaced w → Stays w (after_want w n p q x)
wanted_stays w n p q (Err e) at h = flights_stay w (after_want w n p q (Err e)) refl refl h.callers refl h
wanted_stays w n p q (Ok r) at h =
    let keys = items w.scene q.name p r in
    let whos = map (call_for q.node n (ForRequest (length w.requests))) keys in
    flights_stay w (after_want w n p q (Ok r)) refl refl
    (calls_there w w whos refl (made_there w q.node n (ForRequest (length w.requests)) keys (there w q.node n at)) h) refl h

-- Enter

callers_set : (w : World) (c : ℕ) (who : Caller) (old new : CallState) → slice_get w.calls c ≡ Some (record { caller = who; state = old }) →
    IsPlaced w →
    CallersThere w (map caller_of (slice_set w.calls c (record { caller = who; state = new })))
callers_set w c who old new at h =
    each_kept (λ z. IsThere (cards w) z.node) (facts w).callers _
    (map_set caller_of w.calls c (record { caller = who; state = old }) (record { caller = who; state = new }) at refl) h.callers

entered_stays : (w : World) (c : ℕ) (who : Caller) (n : Node) (x : Entered) (t : Table) →
    slice_get w.calls c ≡ Some (record { caller = who; state = Fresh }) →
    slice_get w.nodes who.node ≡ Some n → IsPlaced w → After (Stays w) (after_meeting w c who n (x, t))
entered_stays w c who n (finds v) t at is h =
    let u = with_state (with_node w who.node (put_table n who.key t)) c who (Hit v) in
    stays_by w (settled u) (cards_put w who.node n who.key t is)
    (λ f l o there. get_map (resumed u) w.flights f (record { lead = l; stage = Ended o }) there)
    (callers_set w c who Fresh (Hit v) at h)
    (each_kept (λ l. IsThere (cards w) l.node) (facts w).leads (facts (settled u)).leads
    (map_same lead_in (resumed u) w.flights (λ f. refl)) h.leads) h.asks h
entered_stays w c who n joins t at is h =
    after_bind (Stays w) (position (is_open_for who) w.flights)
    (λ f. Some (with_state (with_node w who.node (put_table n who.key t)) c who (In f))) (λ f at_f.
    flights_stay w (with_state (with_node w who.node (put_table n who.key t)) c who (In f)) refl (cards_put w who.node n who.key t is)
    (callers_set w c who Fresh (In f) at h) refl h)
entered_stays w c who n (leads m) t at is h =
    let l = lead_of who m in
    let row : Flight = record { lead = l; stage = New } in
    let v = with_state (with_flight (with_node w who.node (put_table n who.key t)) l) c who (In (length w.flights)) in
    stays_by w v (cards_put w who.node n who.key t is)
    (λ f k o there. get_left w.flights (row ∷ []) f (record { lead = k; stage = Ended o }) there)
    (callers_set w c who Fresh (In (length w.flights)) at h)
    (each_kept (λ l. IsThere (cards w) l.node) ((facts w).leads ++ l ∷ []) (facts v).leads (map-append lead_in w.flights (row ∷ []))
    (each_append (λ l. IsThere (cards w) l.node) (facts w).leads (l ∷ []) h.leads
    (each_one (λ l. IsThere (cards w) l.node) l (there w who.node n is)))) h.asks h

entering_stays : (w : World) (c : ℕ) (who : Caller) (n : Node) (x : CallState) →
    slice_get w.calls c ≡ Some (record { caller = who; state = x }) →
    slice_get w.nodes who.node ≡ Some n → IsPlaced w → After (Stays w) (after_enter w c who n x)
entering_stays w c who n Fresh at is h =
    let r = enter (table_at n who.key) who.key who.class in
    entered_stays w c who n r.0 r.1 at is h
entering_stays w c who n (Hit v) at is h = tt
entering_stays w c who n (In f) at is h = tt
entering_stays w c who n Gone at is h = tt

-- Again

looking_stays : (w : World) (f : ℕ) (l : Lead) (n : Node) (x : Stage) → slice_get w.flights f ≡ Some (record { lead = l; stage = x }) →
    slice_get w.nodes l.node ≡ Some n →
    IsPlaced w → After (Stays w) (after_again w f l n x)
looking_stays w f l n New at is h =
    let r = again (table_at n l.key) l.key l.class l.ticket in
    stage_stays w _ f l New (stage_found r.0) at refl refl (cards_put w l.node n l.key r.1 is) h.callers refl h
looking_stays w f l n Looked at is h = tt
looking_stays w f l n Asking at is h = tt
looking_stays w f l n (Fallback c) at is h = tt
looking_stays w f l n (Parts cs) at is h = tt
looking_stays w f l n (Ready o p) at is h = tt
looking_stays w f l n (Ended o) at is h = tt

-- AskPeer

asking_stays : (w : World) (f : ℕ) (l : Lead) (n : Node) (c : Class) (x : Stage) →
    slice_get w.flights f ≡ Some (record { lead = l; stage = x }) → IsPlaced w →
    After (Stays w) (after_ask_peer w f l n c x)
asking_stays w f l n Wide Looked at h =
    after_bind (Stays w) (position (λ m. bytes_eq m.name (owner_of n l.key)) w.nodes)
    (λ o. Some (with_ask (with_stage w f l Asking) (record { node = o; key = l.key; flight = f; version = version_at w.scene l.key })))
    (λ o found.
    let q : Ask = record { node = o; key = l.key; flight = f; version = version_at w.scene l.key } in
    let m = position_found (λ m. bytes_eq m.name (owner_of n l.key)) w.nodes o found in
    stays_by w (with_ask (with_stage w f l Asking) q) refl (ended_set w.flights f l Looked Asking at refl) h.callers
    (each_kept (λ l. IsThere (cards w) l.node) (facts w).leads _ (leads_set w.flights f l Looked Asking at) h.leads)
    (each_append (λ q. IsThere (cards w) q.node) w.asks (q ∷ []) h.asks (each_one (λ q. IsThere (cards w) q.node) q (there w o m.0 m.1))) h)
asking_stays w f l n Local x at h = tt
asking_stays w f l n Wide New at h = tt
asking_stays w f l n Wide Asking at h = tt
asking_stays w f l n Wide (Fallback c) at h = tt
asking_stays w f l n Wide (Parts cs) at h = tt
asking_stays w f l n Wide (Ready o p) at h = tt
asking_stays w f l n Wide (Ended o) at h = tt

-- Reply

replying_stays : (w : World) (c : ℕ) (who : Caller) (x : Purpose) → IsPlaced w → After (Stays w) (after_reply w c who x)
replying_stays w c who (ForAsk a) h =
    after_bind (Stays w) (learned w c) (λ o. Some (with_reply w (record { key = who.key; outcome = o })))
    (λ o knows. flights_stay w _ refl refl h.callers refl h)
replying_stays w c who (ForRequest r) h = tt
replying_stays w c who (ForPart f) h = tt
replying_stays w c who (ForFallback f) h = tt

-- Take, Lose

taking_stays : (w : World) (f : ℕ) (l : Lead) (r : Reply) (x : Stage) → slice_get w.flights f ≡ Some (record { lead = l; stage = x }) →
    IsPlaced w → After (Stays w) (after_take w f l r x)
taking_stays w f l r Asking at h = stage_stays w _ f l Asking (stage_taken l.key r.key r.outcome) at refl refl refl h.callers refl h
taking_stays w f l r (Ended o) at h = flights_stay w w refl refl h.callers refl h
taking_stays w f l r New at h = tt
taking_stays w f l r Looked at h = tt
taking_stays w f l r (Fallback c) at h = tt
taking_stays w f l r (Parts cs) at h = tt
taking_stays w f l r (Ready o p) at h = tt

losing_stays : (w : World) (f : ℕ) (l : Lead) (x : Stage) → slice_get w.flights f ≡ Some (record { lead = l; stage = x }) → IsPlaced w →
    After (Stays w) (after_lose w f l x)
losing_stays w f l Asking at h = stage_stays w _ f l Asking (Fallback None) at refl refl refl h.callers refl h
losing_stays w f l x at h = tt

-- GoLocal

lead_there : (w : World) (f : ℕ) (l : Lead) (x : Stage) → slice_get w.flights f ≡ Some (record { lead = l; stage = x }) → IsPlaced w →
    IsThere (cards w) l.node
lead_there w f l x at h = h.leads f l (get_map lead_in w.flights f (record { lead = l; stage = x }) at)

going_local_stays : (w : World) (f : ℕ) (l : Lead) (x : Stage) → slice_get w.flights f ≡ Some (record { lead = l; stage = x }) →
    IsPlaced w → After (Stays w) (after_go_local w f l x)
going_local_stays w f l (Fallback None) at h =
    let who : Caller = record { node = l.node; key = l.key; class = Local; purpose = ForFallback f } in
    let new = Fallback (Some (length w.calls)) in
    stage_stays w _ f l (Fallback None) new at refl refl refl
    (calls_there w (with_stage w f l new) (who ∷ []) refl
    (each_one (λ z. IsThere (cards w) z.node) who (lead_there w f l (Fallback None) at h)) h) refl h
going_local_stays w f l (Fallback (Some c)) at h = tt
going_local_stays w f l New at h = tt
going_local_stays w f l Looked at h = tt
going_local_stays w f l Asking at h = tt
going_local_stays w f l (Parts cs) at h = tt
going_local_stays w f l (Ready o p) at h = tt
going_local_stays w f l (Ended o) at h = tt

-- Load, SourceFault

begun_stays : (w : World) (f : ℕ) (l : Lead) (n : Node) (x : Option (List Key)) →
    slice_get w.flights f ≡ Some (record { lead = l; stage = Looked }) → IsPlaced w → Stays w (after_begin w f l n x)
begun_stays w f l n None at h = stage_stays w (after_begin w f l n None) f l Looked _ at refl refl refl h.callers refl h
begun_stays w f l n (Some ks) at h =
    stage_stays w (after_begin w f l n (Some ks)) f l Looked _ at refl refl refl
    (calls_there w w (map (call_for l.node n (ForPart f)) ks) refl (made_there w l.node n (ForPart f) ks (lead_there w f l Looked at h)) h)
    refl h

loading_stays : (w : World) (f : ℕ) (l : Lead) (n : Node) (c : Class) (x : Stage) →
    slice_get w.flights f ≡ Some (record { lead = l; stage = x }) → IsPlaced w →
    After (Stays w) (after_load w f l n c x)
loading_stays w f l n Local Looked at h = begun_stays w f l n (parts_of l.key) at h
loading_stays w f l n Local (Parts cs) at h =
    after_bind (Stays w) (decided w cs) (λ os. Some (with_stage w f l (Ready (outcome_from w.scene l.key (collected os)) _)))
    (λ os _. stage_stays w _ f l (Parts cs) _ at refl refl refl h.callers refl h)
loading_stays w f l n Wide x at h = tt
loading_stays w f l n Local New at h = tt
loading_stays w f l n Local Asking at h = tt
loading_stays w f l n Local (Fallback c) at h = tt
loading_stays w f l n Local (Ready o p) at h = tt
loading_stays w f l n Local (Ended o) at h = tt

failing_stays : (w : World) (f : ℕ) (l : Lead) (e : ReadFault) (c : Class) (y : Option (List Key)) (x : Stage) →
    slice_get w.flights f ≡ Some (record { lead = l; stage = x }) →
    IsPlaced w → After (Stays w) (after_fault w f l e c y x)
failing_stays w f l e Local None Looked at h = stage_stays w _ f l Looked _ at refl refl refl h.callers refl h
failing_stays w f l e Wide y x at h = tt
failing_stays w f l e Local (Some ks) x at h = tt
failing_stays w f l e Local None New at h = tt
failing_stays w f l e Local None Asking at h = tt
failing_stays w f l e Local None (Fallback c) at h = tt
failing_stays w f l e Local None (Parts cs) at h = tt
failing_stays w f l e Local None (Ready o p) at h = tt
failing_stays w f l e Local None (Ended o) at h = tt

-- Land

landing_stays : (w : World) (f : ℕ) (l : Lead) (n : Node) (kept : Bool) (x : Stage) →
    slice_get w.flights f ≡ Some (record { lead = l; stage = x }) →
    slice_get w.nodes l.node ≡ Some n → IsPlaced w → After (Stays w) (after_land w f l n kept x)
landing_stays w f l n kept (Ready o p) at is h =
    let u = with_stage (with_node w l.node (put_table n l.key _)) f l (Ended (Some o)) in
    stays_by w (settled u) (cards_put w l.node n l.key _ is)
    (λ g m r there. get_map (resumed u) u.flights g (record { lead = m; stage = Ended r })
    (ended_set w.flights f l (Ready o p) (Ended (Some o)) at refl g m r there))
    h.callers
    (each_kept (λ l. IsThere (cards w) l.node) (facts w).leads (facts (settled u)).leads
    (map_same lead_in (resumed u) u.flights (λ f. refl) ∙ leads_set w.flights f l (Ready o p) (Ended (Some o)) at) h.leads) h.asks h
landing_stays w f l n kept New at is h = tt
landing_stays w f l n kept Looked at is h = tt
landing_stays w f l n kept Asking at is h = tt
landing_stays w f l n kept (Fallback c) at is h = tt
landing_stays w f l n kept (Parts cs) at is h = tt
landing_stays w f l n kept (Ended o) at is h = tt

-- Evict, Stop

node_stays : (w : World) (i : ℕ) (n m : Node) → slice_get w.nodes i ≡ Some n → card_of m ≡ card_of n → IsPlaced w →
    Stays w (with_node w i m)
node_stays w i n m at same h = flights_stay w (with_node w i m) refl (map_set card_of w.nodes i n m at same) h.callers refl h

abbrev ended_row : Lead → Option Outcome → Flight
ended_row l o = record { lead = l; stage = Ended o }

ended_by : (l : Lead) (o : Option Outcome) (b : Bool) → (if b then ended_row l o else ended_row l o) ≡ ended_row l o
ended_by l o true = refl
ended_by l o false = refl

stopped_stays : (w : World) (i : ℕ) (n : Node) → slice_get w.nodes i ≡ Some n → IsPlaced w → Stays w (after_stop w i n)
stopped_stays w i n at h =
    let v = after_stop w i n in
    stays_by w v (map_set card_of w.nodes i n _ at refl)
    (λ f l o there. get_map (flight_stopped i) w.flights f (record { lead = l; stage = Ended o }) there ∙
    ap Some (ended_by l o (l.node == i)))
    (each_kept (λ who. IsThere (cards w) who.node) (facts w).callers (facts v).callers
    (map_same caller_of (call_stopped i) w.calls (λ c. caller_by c (c.caller.node == i))) h.callers)
    (each_kept (λ l. IsThere (cards w) l.node) (facts w).leads (facts v).leads
    (map_same lead_in (flight_stopped i) w.flights (λ fl. lead_by fl (fl.lead.node == i))) h.leads) h.asks h

pub step_placed : StepsStayPlaced
unfolding step
step_placed w (Want node name request) h =
    after_bind (Stays w) (slice_get w.nodes node) _
    (λ n at. after_bind (Stays w) (w.scene.shows name) _ (λ p shown. after_bind (Stays w) (speaker n (version_shown p)) _ (λ m speaks.
    wanted_stays w n p (record { node = node; name = name; request = request }) (resolved w.scene p request) at h)))
step_placed w (Enter c) h =
    after_bind (Stays w) (slice_get w.calls c) _
    (λ call at. after_bind (Stays w) (slice_get w.nodes call.caller.node) _
    (λ n is. entering_stays w c call.caller n call.state at is h))
step_placed w (Again f) h =
    after_bind (Stays w) (slice_get w.flights f) _
    (λ fl at. after_bind (Stays w) (slice_get w.nodes fl.lead.node) _ (λ n is. looking_stays w f fl.lead n fl.stage at is h))
step_placed w (AskPeer f) h =
    after_bind (Stays w) (slice_get w.flights f) _
    (λ fl at. after_bind (Stays w) (slice_get w.nodes fl.lead.node) _ (λ n is. asking_stays w f fl.lead n fl.lead.class fl.stage at h))
step_placed w (Serve a) h =
    after_bind (Stays w) (slice_get w.asks a) _
    (λ q at. after_bind (Stays w) (slice_get w.nodes q.node) _
    (λ n is. after_bind (Stays w) (speaker n q.version) _ (λ m speaks. flights_stay w _ refl refl
    (calls_there w w (caller_serving a q ∷ []) refl (each_one (λ z. IsThere (cards w) z.node) (caller_serving a q) (h.asks a q at)) h) refl
    h)))
step_placed w (event.Reply c) h = after_bind (Stays w) (slice_get w.calls c) _
    (λ call at. replying_stays w c call.caller call.caller.purpose h)
step_placed w (Take f r) h =
    after_bind (Stays w) (slice_get w.flights f) _
    (λ fl at. after_bind (Stays w) (slice_get w.replies r) _ (λ reply is. taking_stays w f fl.lead reply fl.stage at h))
step_placed w (Lose f) h = after_bind (Stays w) (slice_get w.flights f) _ (λ fl at. losing_stays w f fl.lead fl.stage at h)
step_placed w (GoLocal f) h = after_bind (Stays w) (slice_get w.flights f) _ (λ fl at. going_local_stays w f fl.lead fl.stage at h)
step_placed w (Load f) h =
    after_bind (Stays w) (slice_get w.flights f) _
    (λ fl at. after_bind (Stays w) (slice_get w.nodes fl.lead.node) _ (λ n is. loading_stays w f fl.lead n fl.lead.class fl.stage at h))
step_placed w (SourceFault f e) h =
    after_bind (Stays w) (slice_get w.flights f) _ (λ fl at. failing_stays w f fl.lead e fl.lead.class (parts_of fl.lead.key) fl.stage at h)
step_placed w (Land f kept) h =
    after_bind (Stays w) (slice_get w.flights f) _
    (λ fl at. after_bind (Stays w) (slice_get w.nodes fl.lead.node) _ (λ n is. landing_stays w f fl.lead n kept fl.stage at is h))
step_placed w (Evict node keys) h = after_bind (Stays w) (slice_get w.nodes node) _
    (λ n at. node_stays w node n (node_without n keys.items) at refl h)
step_placed w (Stop node) h = after_bind (Stays w) (slice_get w.nodes node) _ (λ n at. stopped_stays w node n at h)
