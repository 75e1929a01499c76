-- Each event keeps what holds of the world.
use Rattle.std.proofs.Common.{◌≡◌, ℕ, List, [], ◌∷◌, map, length, Bool, true, false, Option, Some, None, Result, Ok, Err, refl, sym, ap}
use Rattle.std.proofs.Common.{subst, ◌∙◌, if◌then◌else◌}
use Rattle.std.specs.Prelude.{slice_get, position, ◌==◌, ◌<◌}
use Rattle.std.proofs.lemmas.Bool.{eqb-true, and_parts}
use Rattle.iiif_machine.specs.Keys.{name_of, rank_of, Fits, meaning, parts_of, key_eq}
use Rattle.iiif_machine.specs.Plans.{items, resolved}
use Rattle.iiif_machine.proofs.Lists.{get_left, each_of_all, get_map}
use Rattle.iiif_machine.specs.Types.{Key, Value, Resolved, Refusal, Picture, ReadFault}
use Rattle.iiif_machine.specs.Worlds.{owner_of}
use Rattle.std.specs.Str.{bytes_eq}
use Rattle.iiif_machine.proofs.Words.{SubjectLaws}
use Rattle.iiif_machine.specs.Tables.{Class, Wide, Local, Table, Outcome, Main, Peer, Entered, finds, joins, leads, enter, again, land}
use Rattle.iiif_machine.proofs.Words.{TableLaws}
use Rattle.iiif_machine.specs.Rows.{Node, Given, Purpose, ForRequest, ForPart, ForFallback, ForAsk, Caller, CallState, Fresh, Hit, In}
use Rattle.iiif_machine.specs.Rows.{Gone, Lead, Stage, New, Looked, Asking, Fallback, Parts, Ready, Ended, Ask, Reply, RequestInfo, Refused}
use Rattle.iiif_machine.specs.Rows.{Progress, Waiting, Answered}
use Rattle.iiif_machine.specs.Worlds.{World, version_at, table_at, put_table, with_node, with_stage, with_state, with_calls, with_flight}
use Rattle.iiif_machine.specs.Worlds.{with_ask, with_reply, with_given, with_request, call_for, numbers, learned, decided, collected}
use Rattle.iiif_machine.specs.Worlds.{outcome_from}
use Rattle.iiif_machine.specs.Steps.{after_want, is_open, is_open_for, lead_of, after_meeting, after_enter, stage_found, after_again}
use Rattle.iiif_machine.specs.Steps.{after_ask_peer, after_reply, stage_taken, after_take, after_lose, after_go_local, after_begin}
use Rattle.iiif_machine.specs.Steps.{after_load, after_fault, after_land}
use Rattle.iiif_tables.proofs.TableLaws.{class_is}
use Rattle.iiif_machine.specs.Sound.{CallerIsRight, facts, lead_in, IsHonest, StageIsHonest, ReplyIsHonest, NodeIsHonest, IsHonestWorld}
use Rattle.iiif_machine.specs.Promises.{After}
use Rattle.iiif_machine.proofs.Words.{Next}
use Rattle.iiif_machine.proofs.Lists.{kept_same, each_map, each_one, get_end, position_found}
use Rattle.iiif_machine.proofs.Changes.{later_stage, node_set, stage_set, state_set, calls_add, flight_add, ask_add, reply_add, given_add}
use Rattle.iiif_machine.proofs.Changes.{request_add, new_calls, new_call, new_lead}
use Rattle.iiif_machine.proofs.Learning.{learned_honest, gathered, merged_honest, after_bind}
use Rattle.iiif_machine.proofs.Nodes.{put_honest, table_honest, enter_honest, again_honest, land_honest, value_honest}
use Rattle.iiif_machine.proofs.Settling.{settled_honest, next_by, next_settled}

abbrev Kept_by : World → Option World → Type 0
Kept_by w x = After (Next w) x

-- Want

next_request : (w u : World) (q : RequestInfo) (p : Progress) → u.scene ≡ w.scene → u.given ≡ w.given → u.requests ≡ w.requests →
    IsHonestWorld (with_request u q p) → Next w (with_request u q p)
next_request w u q p a b c h = record {
  follows = record {
    scene = a;
    given = kept_same w.given u.given b;
    answers = λ i info x at. get_left u.requests (record { info = q; progress = p } ∷ []) i _
        (subst (λ rs. slice_get rs i ≡ Some (record { info = info; progress = Answered x })) (sym c) at);
  };
  honest = h;
}

pub wanted_kept : (w : World) (n : Node) (p : Picture) (q : RequestInfo) (x : Result Resolved Refusal) → SubjectLaws w.scene →
    IsHonestWorld w →
    w.scene.shows q.name ≡ Some p →
    resolved w.scene p q.request ≡ x → Next w (after_want w n p q x)
wanted_kept w n p q (Err e) laws h shown is = next_request w w q (Answered (Refused e)) refl refl refl
    (request_add w q (Answered (Refused e)) h (p, shown, laws.refused q.name p q.request e shown is))
wanted_kept w n p q (Ok r) laws h shown is =
    let s = w.scene in
    let keys = items s q.name p r in
    let purpose = ForRequest (length w.requests) in
    let whos = map (call_for q.node n purpose) keys in
    let fit = each_map (Fits s) (CallerIsRight s (facts w)) (call_for q.node n purpose) keys (λ k f. record { fits = f; purpose = tt })
    (each_of_all (Fits s) keys (laws.items_fit q.name p q.request r shown is)) in
    next_request w (with_calls w whos) q (Waiting r (numbers (length w.calls) keys)) refl refl refl
    (request_add (with_calls w whos) q (Waiting r (numbers (length w.calls) keys)) (calls_add w whos h fit)
    (p, shown, is, new_calls w q.node n purpose keys))

-- Enter

pub entered_kept : (w : World) (c : ℕ) (who : Caller) (n : Node) (x : Entered) (t : Table) → SubjectLaws w.scene → TableLaws →
    IsHonestWorld w →
    slice_get w.calls c ≡ Some (record { caller = who; state = Fresh }) → NodeIsHonest w.scene n →
    enter (table_at n who.key) who.key who.class ≡ (x, t) →
    Kept_by w (after_meeting w c who n (x, t))
entered_kept w c who n (finds v) t laws tables h at node e =
    let s = w.scene in
    let before = table_honest s n who.key node in
    let v1 = with_node w who.node (put_table n who.key t) in
    let h1 = node_set w who.node (put_table n who.key t) h
    (put_honest s n who.key t node (enter_honest tables s _ t who.key who.class (finds v) e before)) in
    next_settled w (with_state v1 c who (Hit v)) refl refl refl (settled_honest (with_state v1 c who (Hit v)) laws
    (state_set v1 c who Fresh (Hit v) at h1 (before who.key v (tables.found _ t who.key who.class v e))))
entered_kept w c who n joins t laws tables h at node e =
    let s = w.scene in
    let before = table_honest s n who.key node in
    let v1 = with_node w who.node (put_table n who.key t) in
    let h1 = node_set w who.node (put_table n who.key t) h
    (put_honest s n who.key t node (enter_honest tables s _ t who.key who.class joins e before)) in
    after_bind (Next w) (position (is_open_for who) w.flights) (λ f. Some (with_state v1 c who (In f))) (λ f at_f.
    let there = position_found (is_open_for who) w.flights f at_f in
    let fl = there.0 in
    let first = and_parts (is_open fl.stage) _ there.2 in
    let second = and_parts (fl.lead.node == who.node) _ first.1 in
    let third = and_parts (key_eq fl.lead.key who.key) _ second.1 in
    next_by w {v = with_state v1 c who (In f)} refl refl refl (state_set v1 c who Fresh (In f) at h1 (
      fl.lead,
      get_map lead_in w.flights f fl there.1,
      eqb-true fl.lead.node who.node second.0,
      laws.same_key fl.lead.key who.key third.0,
      class_is fl.lead.class who.class third.1,
    )))
entered_kept w c who n (leads m) t laws tables h at node e =
    let s = w.scene in
    let before = table_honest s n who.key node in
    let v1 = with_node w who.node (put_table n who.key t) in
    let h1 = node_set w who.node (put_table n who.key t) h
    (put_honest s n who.key t node (enter_honest tables s _ t who.key who.class (leads m) e before)) in
    let l = lead_of who m in
    let h2 = flight_add v1 l h1 (h.calls c _ at).caller.fits in
    next_by w {v = with_state (with_flight v1 l) c who (In (length w.flights))} refl refl refl
    (state_set (with_flight v1 l) c who Fresh (In (length w.flights)) at h2 (l, new_lead v1 l, refl, refl, refl))

pub entering_kept : (w : World) (c : ℕ) (who : Caller) (n : Node) (x : CallState) → SubjectLaws w.scene → TableLaws → IsHonestWorld w →
    slice_get w.calls c ≡ Some (record { caller = who; state = x }) → NodeIsHonest w.scene n → Kept_by w (after_enter w c who n x)
entering_kept w c who n Fresh laws tables h at node =
    let r = enter (table_at n who.key) who.key who.class in
    entered_kept w c who n r.0 r.1 laws tables h at node refl
entering_kept w c who n (Hit v) laws tables h at node = tt
entering_kept w c who n (In f) laws tables h at node = tt
entering_kept w c who n Gone laws tables h at node = tt

-- Again

found_honest : (w : World) (l : Lead) (x : Option Value) → ((v : Value) → x ≡ Some v → v ≡ meaning w.scene l.key) →
    StageIsHonest w.scene (facts w) l (stage_found x)
found_honest w l None is = tt
found_honest w l (Some v) is = is v refl

pub looking_kept : (w : World) (f : ℕ) (l : Lead) (n : Node) (x : Stage) → TableLaws → IsHonestWorld w →
    slice_get w.flights f ≡ Some (record { lead = l; stage = x }) → NodeIsHonest w.scene n → Kept_by w (after_again w f l n x)
looking_kept w f l n New tables h at node =
    let s = w.scene in
    let t = table_at n l.key in
    let r = again t l.key l.class l.ticket in
    let before = table_honest s n l.key node in
    let v1 = with_node w l.node (put_table n l.key r.1) in
    let h1 = node_set w l.node (put_table n l.key r.1) h
    (put_honest s n l.key r.1 node (again_honest tables s t l.key l.class l.ticket before)) in
    next_by w {v = with_stage v1 f l (stage_found r.0)} refl refl refl (stage_set v1 f l New (stage_found r.0) at h1
    (found_honest v1 l r.0 (λ v e. before l.key v
    (tables.again_found t r.1 l.key l.class l.ticket v (ap (λ (x : Option Value). (x, r.1)) e)))))
looking_kept w f l n Looked tables h at node = tt
looking_kept w f l n Asking tables h at node = tt
looking_kept w f l n (Fallback c) tables h at node = tt
looking_kept w f l n (Parts cs) tables h at node = tt
looking_kept w f l n (Ready o p) tables h at node = tt
looking_kept w f l n (Ended o) tables h at node = tt

-- AskPeer

pub asking_kept : (w : World) (f : ℕ) (l : Lead) (n : Node) (c : Class) (x : Stage) → l.class ≡ c → IsHonestWorld w →
    slice_get w.flights f ≡ Some (record { lead = l; stage = x }) → Kept_by w (after_ask_peer w f l n c x)
asking_kept w f l n Wide Looked e h at =
    after_bind (Next w) (position (λ m. bytes_eq m.name (owner_of n l.key)) w.nodes)
    (λ o. Some (with_ask (with_stage w f l Asking) (record { node = o; key = l.key; flight = f; version = version_at w.scene l.key })))
    (λ o _.
    let v1 = with_stage w f l Asking in
    let q : Ask = record { node = o; key = l.key; flight = f; version = version_at w.scene l.key } in
    let h1 = stage_set w f l Looked Asking at h e in
    next_by w {v = with_ask v1 q} refl refl refl (ask_add v1 q h1 (record {
      fits = (h.flights f _ at).fits;
      flight = (l, (later_stage w f l Looked Asking at).leads f l (get_map lead_in w.flights f _ at), refl, e);
      version = refl;
    })))
asking_kept w f l n Local x e h at = tt
asking_kept w f l n Wide New e h at = tt
asking_kept w f l n Wide Asking e h at = tt
asking_kept w f l n Wide (Fallback c) e h at = tt
asking_kept w f l n Wide (Parts cs) e h at = tt
asking_kept w f l n Wide (Ready o p) e h at = tt
asking_kept w f l n Wide (Ended o) e h at = tt

-- Reply

pub replying_kept : (w : World) (c : ℕ) (who : Caller) (x : Purpose) → IsHonestWorld w → slice_get (facts w).callers c ≡ Some who →
    Kept_by w (after_reply w c who x)
replying_kept w c who (ForAsk a) h at =
    after_bind (Next w) (learned w c) (λ o. Some (with_reply w (record { key = who.key; outcome = o })))
    (λ o knows. next_by w {v = with_reply w (record { key = who.key; outcome = o })} refl refl refl
    (reply_add w (record { key = who.key; outcome = o }) h
    (value_honest w.scene w.given who.node who.key o (learned_honest w c who o h at knows))))
replying_kept w c who (ForRequest r) h at = tt
replying_kept w c who (ForPart f) h at = tt
replying_kept w c who (ForFallback f) h at = tt

-- Take

taken_by : (w : World) (l : Lead) (q : Key) (v : Value) (b : Bool) → l.class ≡ Wide → (b ≡ true → q ≡ l.key) → v ≡ meaning w.scene q →
    StageIsHonest w.scene (facts w) l (if b then Ready (Ok v) Peer else Fallback None)
taken_by w l q v true wide same is = is ∙ ap (meaning w.scene) (same refl)
taken_by w l q v false wide same is = wide

taken_honest : (w : World) (l : Lead) (q : Key) (o : Outcome) → l.class ≡ Wide → SubjectLaws w.scene →
    ((v : Value) → o ≡ Ok v → v ≡ meaning w.scene q) →
    StageIsHonest w.scene (facts w) l (stage_taken l.key q o)
taken_honest w l q (Err f) wide laws is =
    let alone : StageIsHonest w.scene (facts w) l (Fallback None) = wide in
    alone
taken_honest w l q (Ok v) wide laws is = taken_by w l q v (key_eq q l.key) wide (laws.same_key q l.key) (is v refl)

pub taking_kept : (w : World) (f : ℕ) (l : Lead) (r : Reply) (x : Stage) → SubjectLaws w.scene → IsHonestWorld w →
    slice_get w.flights f ≡ Some (record { lead = l; stage = x }) →
    ReplyIsHonest w.scene r → Kept_by w (after_take w f l r x)
taking_kept w f l r Asking laws h at is =
    next_by w {v = with_stage w f l (stage_taken l.key r.key r.outcome)} refl refl refl
    (stage_set w f l Asking (stage_taken l.key r.key r.outcome) at h (taken_honest w l r.key r.outcome (h.flights f _ at).stage laws is))
taking_kept w f l r (Ended o) laws h at is = next_by w {v = w} refl refl refl h
taking_kept w f l r New laws h at is = tt
taking_kept w f l r Looked laws h at is = tt
taking_kept w f l r (Fallback c) laws h at is = tt
taking_kept w f l r (Parts cs) laws h at is = tt
taking_kept w f l r (Ready o p) laws h at is = tt

-- Lose

pub losing_kept : (w : World) (f : ℕ) (l : Lead) (x : Stage) → IsHonestWorld w →
    slice_get w.flights f ≡ Some (record { lead = l; stage = x }) → Kept_by w (after_lose w f l x)
losing_kept w f l Asking h at = next_by w {v = with_stage w f l (Fallback None)} refl refl refl
    (stage_set w f l Asking (Fallback None) at h (h.flights f _ at).stage)
losing_kept w f l x h at = tt

-- GoLocal

pub going_local_kept : (w : World) (f : ℕ) (l : Lead) (x : Stage) → IsHonestWorld w →
    slice_get w.flights f ≡ Some (record { lead = l; stage = x }) → Kept_by w (after_go_local w f l x)
going_local_kept w f l (Fallback None) h at =
    let who : Caller = record { node = l.node; key = l.key; class = Local; purpose = ForFallback f } in
    let v1 = with_calls w (who ∷ []) in
    let row = h.flights f _ at in
    let right : CallerIsRight w.scene (facts w) who =
    record { fits = row.fits; purpose = (l, get_map lead_in w.flights f _ at, refl, row.stage, refl) } in
    let h1 = calls_add w (who ∷ []) h (each_one (CallerIsRight w.scene (facts w)) who right) in
    next_by w {v = with_stage v1 f l (Fallback (Some (length w.calls)))} refl refl refl
    (stage_set v1 f l (Fallback None) (Fallback (Some (length w.calls))) at h1 (row.stage, ((who, new_call w who, refl, refl), tt)))
going_local_kept w f l (Fallback (Some c)) h at = tt
going_local_kept w f l New h at = tt
going_local_kept w f l Looked h at = tt
going_local_kept w f l Asking h at = tt
going_local_kept w f l (Parts cs) h at = tt
going_local_kept w f l (Ready o p) h at = tt
going_local_kept w f l (Ended o) h at = tt

-- Load

pub begun_kept : (w : World) (f : ℕ) (l : Lead) (n : Node) (x : Option (List Key)) → SubjectLaws w.scene → IsHonestWorld w →
    slice_get w.flights f ≡ Some (record { lead = l; stage = Looked }) → parts_of l.key ≡ x → Next w (after_begin w f l n x)
begun_kept w f l n None laws h at e = next_by w {v = after_begin w f l n None} refl refl refl
    (stage_set w f l Looked (Ready (Ok (meaning w.scene l.key)) Main) at h refl)
begun_kept w f l n (Some ks) laws h at e =
    let s = w.scene in
    let make = call_for l.node n (ForPart f) in
    let whos = map make ks in
    let fits = each_of_all (Fits s) ks (laws.parts_fit l.key ks e (h.flights f _ at).fits) in
    let below = each_of_all (λ q. rank_of q < rank_of l.key) ks (laws.parts_below l.key ks e) in
    let fit = each_map (λ q. Fits s q × (rank_of q < rank_of l.key)) (CallerIsRight s (facts w)) make ks
    (λ k is. record { fits = is.0; purpose = (l, get_map lead_in w.flights f _ at, is.1) }) (λ i k there. (fits i k there, below i k there))
    in
    let h1 = calls_add w whos h fit in
    next_by w {v = after_begin w f l n (Some ks)} refl refl refl
    (stage_set (with_calls w whos) f l Looked (Parts (numbers (length w.calls) ks)) at h1 (ks, e, new_calls w l.node n (ForPart f) ks))

pub loading_kept : (w : World) (f : ℕ) (l : Lead) (n : Node) (c : Class) (x : Stage) → SubjectLaws w.scene → IsHonestWorld w →
    slice_get w.flights f ≡ Some (record { lead = l; stage = x }) → Kept_by w (after_load w f l n c x)
loading_kept w f l n Local Looked laws h at = begun_kept w f l n (parts_of l.key) laws h at refl
loading_kept w f l n Local (Parts cs) laws h at =
    after_bind (Next w) (decided w cs) (λ os. Some (with_stage w f l (Ready (outcome_from w.scene l.key (collected os)) Main)))
    (λ os knows.
    let row = h.flights f _ at in
    let is = row.stage in
    let ks = is.0 in
    let named = each_of_all (λ q. name_of q ≡ name_of l.key) ks (laws.parts_named l.key ks is.1) in
    next_by w {v = with_stage w f l (Ready (outcome_from w.scene l.key (collected os)) Main)} refl refl refl
    (stage_set w f l (Parts cs) (Ready (outcome_from w.scene l.key (collected os)) Main) at h
    (merged_honest w.scene w.given l.node l.key ks (collected os) (laws.derived_is l.key ks is.1 row.fits)
    (gathered w l.node (name_of l.key) cs ks os h is.2 named knows))))
loading_kept w f l n Wide x laws h at = tt
loading_kept w f l n Local New laws h at = tt
loading_kept w f l n Local Asking laws h at = tt
loading_kept w f l n Local (Fallback c) laws h at = tt
loading_kept w f l n Local (Ready o p) laws h at = tt
loading_kept w f l n Local (Ended o) laws h at = tt

-- SourceFault

pub failing_kept : (w : World) (f : ℕ) (l : Lead) (e : ReadFault) (c : Class) (y : Option (List Key)) (x : Stage) → IsHonestWorld w →
    slice_get w.flights f ≡ Some (record { lead = l; stage = x }) → Kept_by w (after_fault w f l e c y x)
failing_kept w f l e Local None Looked h at =
    let g : Given = record { node = l.node; name = name_of l.key; fault = e } in
    record {
      follows = record { scene = refl; given = get_left w.given (g ∷ []); answers = λ i q a h. h };
      honest = stage_set (with_given w g) f l Looked (Ready (Err e) Main) at (given_add w g h) (length w.given, get_end w.given g []);
    }
failing_kept w f l e Wide y x h at = tt
failing_kept w f l e Local (Some ks) x h at = tt
failing_kept w f l e Local None New h at = tt
failing_kept w f l e Local None Asking h at = tt
failing_kept w f l e Local None (Fallback c) h at = tt
failing_kept w f l e Local None (Parts cs) h at = tt
failing_kept w f l e Local None (Ready o p) h at = tt
failing_kept w f l e Local None (Ended o) h at = tt

-- Land

pub landing_kept : (w : World) (f : ℕ) (l : Lead) (n : Node) (kept : Bool) (x : Stage) → SubjectLaws w.scene → TableLaws → IsHonestWorld w →
    slice_get w.flights f ≡ Some (record { lead = l; stage = x }) → NodeIsHonest w.scene n → Kept_by w (after_land w f l n kept x)
landing_kept w f l n kept (Ready o p) laws tables h at node =
    let s = w.scene in
    let t = table_at n l.key in
    let is : IsHonest s w.given l.node l.key o = (h.flights f _ at).stage in
    let u = land t l.key l.class l.ticket o p kept in
    let v1 = with_node w l.node (put_table n l.key u) in
    let h1 = node_set w l.node (put_table n l.key u) h
    (put_honest s n l.key u node (land_honest tables s t l.key l.class l.ticket o p kept (value_honest s w.given l.node l.key o is)
    (table_honest s n l.key node))) in
    next_settled w (with_stage v1 f l (Ended (Some o))) refl refl refl
    (settled_honest (with_stage v1 f l (Ended (Some o))) laws (stage_set v1 f l (Ready o p) (Ended (Some o)) at h1 is))
landing_kept w f l n kept New laws tables h at node = tt
landing_kept w f l n kept Looked laws tables h at node = tt
landing_kept w f l n kept Asking laws tables h at node = tt
landing_kept w f l n kept (Fallback c) laws tables h at node = tt
landing_kept w f l n kept (Parts cs) laws tables h at node = tt
landing_kept w f l n kept (Ended o) laws tables h at node = tt
