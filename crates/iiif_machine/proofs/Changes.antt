-- Each small change keeps what holds of the world.
use Rattle.std.proofs.Common.{◌≡◌, ℕ, suc, List, [], ◌∷◌, ◌++◌, map, length, append_assoc, Some, refl, sym, ap, subst, ◌∙◌}
use Rattle.std.specs.Prelude.{slice_get}
use Rattle.std.proofs.lemmas.List.{length-map, map-append}
use Rattle.iiif_machine.specs.Keys.{Fits}
use Rattle.iiif_machine.proofs.Lists.{get_left}
use Rattle.iiif_machine.specs.Types.{Key}
use Rattle.iiif_machine.specs.Rows.{Node, Given, Purpose, Caller, CallState, Lead, Stage, New, Ask, Reply, RequestInfo, Progress}
use Rattle.iiif_machine.specs.Rows.{RequestRow}
use Rattle.iiif_machine.specs.Worlds.{World, with_node, with_stage, with_state, with_calls, with_flight, with_ask, with_reply, with_given}
use Rattle.iiif_machine.specs.Worlds.{with_request, fresh, call_for, numbers}
use Rattle.iiif_machine.specs.Sound.{Each, facts, caller_of, lead_in, AreOf, StageIsHonest, FlightIsHonest, StateIsHonest, CallIsHonest}
use Rattle.iiif_machine.specs.Sound.{CallerIsRight, ProgressIsHonest, IsHonestWorld, NodeIsHonest, AskIsHonest, ReplyIsHonest}
use Rattle.iiif_machine.proofs.Words.{Later}
use Rattle.iiif_machine.proofs.Lists.{get_end, each_one, each_append, each_set, each_map, map_set, kept_same, kept_more}
use Rattle.iiif_machine.proofs.Growth.{flights_later, calls_later, requests_later, asks_later, stage_later, state_later, caller_later}

pub node_set : (w : World) (i : ℕ) (n : Node) → IsHonestWorld w → NodeIsHonest w.scene n → IsHonestWorld (with_node w i n)
node_set w i n h is = record {
  nodes = each_set (NodeIsHonest w.scene) w.nodes i n h.nodes is;
  flights = h.flights;
  calls = h.calls;
  asks = h.asks;
  replies = h.replies;
  requests = h.requests;
}

pub later_stage : (w : World) (f : ℕ) (l : Lead) (old new : Stage) → slice_get w.flights f ≡ Some (record { lead = l; stage = old }) →
    Later (facts w) (facts (with_stage w f l new))
later_stage w f l old new at = record {
  callers = λ i x h. h;
  leads = kept_same _ _ (map_set lead_in w.flights f (record { lead = l; stage = old }) (record { lead = l; stage = new }) at refl);
  asks = λ i x h. h;
  given = λ i x h. h;
}

pub stage_set : (w : World) (f : ℕ) (l : Lead) (old new : Stage) → slice_get w.flights f ≡ Some (record { lead = l; stage = old }) →
    IsHonestWorld w → StageIsHonest w.scene (facts w) l new → IsHonestWorld (with_stage w f l new)
stage_set w f l old new at h is =
    let v = with_stage w f l new in
    let s = w.scene in
    let later = later_stage w f l old new at in
    let row : FlightIsHonest s (facts v) (record { lead = l; stage = new }) =
    record { fits = (h.flights f _ at).fits; stage = stage_later s (facts w) (facts v) l new later is } in
    record {
      nodes = h.nodes;
      flights = each_set (FlightIsHonest s (facts v)) w.flights f (record { lead = l; stage = new })
          (flights_later s (facts w) (facts v) w.flights later h.flights) row;
      calls = calls_later s (facts w) (facts v) w.calls later h.calls;
      asks = asks_later s (facts w) (facts v) w.asks later h.asks;
      replies = h.replies;
      requests = requests_later s (facts w) (facts v) w.requests later h.requests;
    }

later_state : (w : World) (c : ℕ) (who : Caller) (old new : CallState) → slice_get w.calls c ≡ Some (record { caller = who; state = old }) →
    Later (facts w) (facts (with_state w c who new))
later_state w c who old new at = record {
  callers = kept_same _ _ (map_set caller_of w.calls c (record { caller = who; state = old }) (record { caller = who; state = new }) at
      refl);
  leads = λ i x h. h;
  asks = λ i x h. h;
  given = λ i x h. h;
}

pub state_set : (w : World) (c : ℕ) (who : Caller) (old new : CallState) →
    slice_get w.calls c ≡ Some (record { caller = who; state = old }) →
    IsHonestWorld w → StateIsHonest w.scene (facts w) who new → IsHonestWorld (with_state w c who new)
state_set w c who old new at h is =
    let v = with_state w c who new in
    let s = w.scene in
    let later = later_state w c who old new at in
    let row : CallIsHonest s (facts v) (record { caller = who; state = new }) =
    record {
      caller = caller_later s (facts w) (facts v) who later (h.calls c _ at).caller;
      state =
          state_later s (facts w) (facts v) who new later is;
    } in
    record {
      nodes = h.nodes;
      flights = flights_later s (facts w) (facts v) w.flights later h.flights;
      calls = each_set (CallIsHonest s (facts v)) w.calls c (record { caller = who; state = new })
          (calls_later s (facts w) (facts v) w.calls later h.calls) row;
      asks = asks_later s (facts w) (facts v) w.asks later h.asks;
      replies = h.replies;
      requests = requests_later s (facts w) (facts v) w.requests later h.requests;
    }

pub calls_add : (w : World) (whos : List Caller) → IsHonestWorld w → Each (CallerIsRight w.scene (facts w)) whos →
    IsHonestWorld (with_calls w whos)
calls_add w whos h fit =
    let v = with_calls w whos in
    let s = w.scene in
    let later : Later (facts w) (facts v) = record
    { callers = kept_more caller_of w.calls (map fresh whos); leads = λ i x h. h; asks = λ i x h. h; given = λ i x h. h } in
    record {
      nodes = h.nodes;
      flights = flights_later s (facts w) (facts v) w.flights later h.flights;
      calls = each_append (CallIsHonest s (facts v)) w.calls (map fresh whos) (calls_later s (facts w) (facts v) w.calls later h.calls)
          (each_map (CallerIsRight s (facts w)) (CallIsHonest s (facts v)) fresh whos
          (λ who is. record { caller = caller_later s (facts w) (facts v) who later is; state = tt }) fit);
      asks = asks_later s (facts w) (facts v) w.asks later h.asks;
      replies = h.replies;
      requests = requests_later s (facts w) (facts v) w.requests later h.requests;
    }

pub flight_add : (w : World) (l : Lead) → IsHonestWorld w → Fits w.scene l.key → IsHonestWorld (with_flight w l)
flight_add w l h fit =
    let v = with_flight w l in
    let s = w.scene in
    let later : Later (facts w) (facts v) = record
    { callers = λ i x h. h; leads = kept_more lead_in w.flights _; asks = λ i x h. h; given = λ i x h. h } in
    record {
      nodes = h.nodes;
      flights = each_append (FlightIsHonest s (facts v)) w.flights _ (flights_later s (facts w) (facts v) w.flights later h.flights)
          (each_one (FlightIsHonest s (facts v)) (record { lead = l; stage = New }) (record { fits = fit; stage = tt }));
      calls = calls_later s (facts w) (facts v) w.calls later h.calls;
      asks = asks_later s (facts w) (facts v) w.asks later h.asks;
      replies = h.replies;
      requests = requests_later s (facts w) (facts v) w.requests later h.requests;
    }

pub ask_add : (w : World) (q : Ask) → IsHonestWorld w → AskIsHonest w.scene (facts w) q → IsHonestWorld (with_ask w q)
ask_add w q h is =
    let v = with_ask w q in
    let s = w.scene in
    let later : Later (facts w) (facts v) = record
    { callers = λ i x h. h; leads = λ i x h. h; asks = get_left w.asks (q ∷ []); given = λ i x h. h } in
    record {
      nodes = h.nodes;
      flights = flights_later s (facts w) (facts v) w.flights later h.flights;
      calls = calls_later s (facts w) (facts v) w.calls later h.calls;
      asks = asks_later s (facts w) (facts v) (w.asks ++ q ∷ []) later
          (each_append (AskIsHonest s (facts w)) w.asks (q ∷ []) h.asks (each_one (AskIsHonest s (facts w)) q is));
      replies = h.replies;
      requests = requests_later s (facts w) (facts v) w.requests later h.requests;
    }

pub reply_add : (w : World) (r : Reply) → IsHonestWorld w → ReplyIsHonest w.scene r → IsHonestWorld (with_reply w r)
reply_add w r h is = record {
  nodes = h.nodes;
  flights = h.flights;
  calls = h.calls;
  asks = h.asks;
  replies = each_append (ReplyIsHonest w.scene) w.replies (r ∷ []) h.replies (each_one (ReplyIsHonest w.scene) r is);
  requests = h.requests;
}

pub given_add : (w : World) (g : Given) → IsHonestWorld w → IsHonestWorld (with_given w g)
given_add w g h =
    let v = with_given w g in
    let s = w.scene in
    let later : Later (facts w) (facts v) = record
    { callers = λ i x h. h; leads = λ i x h. h; asks = λ i x h. h; given = get_left w.given (g ∷ []) } in
    record {
      nodes = h.nodes;
      flights = flights_later s (facts w) (facts v) w.flights later h.flights;
      calls = calls_later s (facts w) (facts v) w.calls later h.calls;
      asks = asks_later s (facts w) (facts v) w.asks later h.asks;
      replies = h.replies;
      requests = requests_later s (facts w) (facts v) w.requests later h.requests;
    }

pub request_add : (w : World) (q : RequestInfo) (p : Progress) → IsHonestWorld w → ProgressIsHonest w.scene (facts w) q p →
    IsHonestWorld (with_request w q p)
request_add w q p h is =
    let s = w.scene in
    let P = λ (x : RequestRow). ProgressIsHonest s (facts w) x.info x.progress in
    record {
      nodes = h.nodes;
      flights = h.flights;
      calls = h.calls;
      asks = h.asks;
      replies = h.replies;
      requests = each_append P w.requests _ h.requests (each_one P (record { info = q; progress = p }) is);
    }

-- calls that are made one after another are of their keys

pub length_more : {A : Type 0} (xs : List A) (y : A) → length (xs ++ y ∷ []) ≡ suc (length xs)
length_more [] y = refl
length_more (x ∷ xs) y = ap suc (length_more xs y)

are_of_new : (before : List Caller) (node : ℕ) (n : Node) (p : Purpose) (ks : List Key) →
    AreOf (before ++ map (call_for node n p) ks) node (numbers (length before) ks) ks
are_of_new before node n p [] = tt
are_of_new before node n p (k ∷ ks) =
    let who = call_for node n p k in
    let rest = map (call_for node n p) ks in
    let more = are_of_new (before ++ who ∷ []) node n p ks in
    let moved : AreOf (before ++ who ∷ rest) node (numbers (length (before ++ who ∷ [])) ks) ks =
    subst (λ cs. AreOf cs node (numbers (length (before ++ who ∷ [])) ks) ks) (append_assoc before (who ∷ []) rest) more in (
      (who, get_end before who rest, refl, refl),
      subst (λ m. AreOf (before ++ who ∷ rest) node (numbers m ks) ks) (length_more before who) moved,
    )

map_fresh : (whos : List Caller) → map caller_of (map fresh whos) ≡ whos
map_fresh [] = refl
map_fresh (who ∷ whos) = ap (λ vs. who ∷ vs) (map_fresh whos)

pub callers_more : (w : World) (whos : List Caller) → (facts (with_calls w whos)).callers ≡ (facts w).callers ++ whos
callers_more w whos = map-append caller_of w.calls (map fresh whos) ∙ ap (λ vs. map caller_of w.calls ++ vs) (map_fresh whos)

pub new_calls : (w : World) (node : ℕ) (n : Node) (p : Purpose) (ks : List Key) →
    AreOf (facts (with_calls w (map (call_for node n p) ks))).callers node (numbers (length w.calls) ks) ks
new_calls w node n p ks =
    let whos = map (call_for node n p) ks in
    let all : AreOf ((facts w).callers ++ whos) node (numbers (length (facts w).callers) ks) ks =
    are_of_new (facts w).callers node n p ks in
    let numbered : AreOf ((facts w).callers ++ whos) node (numbers (length w.calls) ks) ks =
    subst (λ m. AreOf ((facts w).callers ++ whos) node (numbers m ks) ks) (length-map w.calls caller_of) all in
    subst (λ cs. AreOf cs node (numbers (length w.calls) ks) ks) (sym (callers_more w whos)) numbered

pub new_call : (w : World) (who : Caller) → slice_get (facts (with_calls w (who ∷ []))).callers (length w.calls) ≡ Some who
new_call w who =
    subst (λ cs. slice_get cs (length w.calls) ≡ Some who) (sym (callers_more w (who ∷ [])))
    (subst (λ m. slice_get ((facts w).callers ++ who ∷ []) m ≡ Some who) (length-map w.calls caller_of) (get_end (facts w).callers who []))

pub new_lead : (w : World) (l : Lead) → slice_get (facts (with_flight w l)).leads (length w.flights) ≡ Some l
new_lead w l =
    subst (λ cs. slice_get cs (length w.flights) ≡ Some l) (sym (map-append lead_in w.flights (record { lead = l; stage = New } ∷ [])))
    (subst (λ m. slice_get ((facts w).leads ++ l ∷ []) m ≡ Some l) (length-map w.flights lead_in) (get_end (facts w).leads l []))
