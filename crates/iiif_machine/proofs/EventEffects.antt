-- What each event does to rows.
use Rattle.std.proofs.Common.{◌≡◌, ◌⊎◌, inl, inr, ⊎_elim, ℕ, List, [], ◌∷◌, map, length, Bool, true, false, Option, Some, None, Result, Ok}
use Rattle.std.proofs.Common.{Err, refl, sym, ap, subst, ◌∙◌, if◌then◌else◌}
use Rattle.std.specs.Prelude.{slice_get, slice_set, ◌==◌}
use Rattle.iiif_machine.specs.Keys.{key_eq}
use Rattle.iiif_machine.specs.Plans.{resolved, items}
use Rattle.iiif_machine.proofs.Lists.{get_left, get_map}
use Rattle.iiif_machine.specs.Types.{Key, Value, ReadFault, Picture, Request, Resolved, Refusal}
use Rattle.iiif_machine.specs.Tables.{Local, Table, Outcome, Place, Peer, again, land}
use Rattle.iiif_machine.specs.Rows.{Node, ForRequest, ForPart, ForFallback, Caller, CallState, Fresh, Hit, In, Lead}
use Rattle.iiif_machine.specs.Rows.{Stage, New, Looked, Asking, Fallback, Parts, Ready, Ended, Flight, RequestInfo, Refused}
use Rattle.iiif_machine.specs.Rows.{Progress}
use Rattle.iiif_machine.specs.Rows.{Waiting, Answered, Dropped, RequestRow}
use Rattle.iiif_machine.specs.Worlds.{World, table_at, put_table, with_node, with_stage}
use Rattle.iiif_machine.specs.Worlds.{with_state, with_calls, with_flight, fresh, call_for, numbers}
use Rattle.iiif_machine.specs.Worlds.{decided, collected, or_fault, outcome_from, resumed, answered, settled}
use Rattle.iiif_machine.specs.Steps.{Event, Want, Enter, Again, AskPeer, Serve, Take, Lose, GoLocal, Load, SourceFault, Land, Evict, Stop}
use Rattle.iiif_machine.specs.Steps.{after_want, lead_of, stage_found, after_look}
use Rattle.iiif_machine.specs.Steps.{caller_serving, stage_taken}
use Rattle.iiif_machine.specs.Steps.{stage_stopped, flight_stopped}
use Rattle.iiif_machine.specs.Steps.{call_stopped, progress_stopped, request_stopped, after_stop, step}
use Rattle.iiif_machine.specs.declared.events.Event.TheVariants as event
use Rattle.iiif_machine.specs.Sound.{Kept, facts, caller_of, lead_in, ProgressIsOwn}
use Rattle.iiif_machine.specs.Promises.{After, info_of}
use Rattle.iiif_machine.specs.Origins.{IsFirstFault, IsMerged}
use Rattle.iiif_machine.proofs.Lists.{kept_same, kept_more, map_set, map_same}
use Rattle.iiif_machine.proofs.Changes.{new_call}
use Rattle.iiif_machine.proofs.Doing.{Does, wanted, found, joined, led, looked, asked, served, replied, taken, late, lost, gone_local, read}
use Rattle.iiif_machine.proofs.Doing.{split, merged, failed, landed, evicted, stopped, after_does}
use Rattle.iiif_machine.proofs.Learning.{get_mapped}
use Rattle.iiif_machine.proofs.Registers.{set_cases}
use Rattle.iiif_machine.proofs.Stops.{lead_by, caller_by}
use Rattle.iiif_machine.proofs.Effects.{NewStage, Gives, HasEffect, HasEnded, flights_same, flights_set, flights_more, flights_settled}
use Rattle.iiif_machine.proofs.Effects.{calls_for, progress_own_later, requests_same, requests_settled, requests_more}

kept_all : {A : Type 0} (xs : List A) → Kept xs xs
kept_all xs i x at = at

leads_set : (w : World) (f : ℕ) (l : Lead) (old new : Stage) → slice_get w.flights f ≡ Some (record { lead = l; stage = old }) →
    Kept (facts w).leads (map lead_in (slice_set w.flights f (record { lead = l; stage = new })))
leads_set w f l old new at = kept_same _ _ (map_set lead_in w.flights f (record { lead = l; stage = old })
    (record { lead = l; stage = new }) at refl)

callers_set : (w : World) (c : ℕ) (who : Caller) (old new : CallState) → slice_get w.calls c ≡ Some (record { caller = who; state = old }) →
    Kept (facts w).callers (map caller_of (slice_set w.calls c (record { caller = who; state = new })))
callers_set w c who old new at = kept_same _ _
    (map_set caller_of w.calls c (record { caller = who; state = old }) (record { caller = who; state = new }) at refl)

calls_more : (w : World) (whos : List Caller) → Kept (facts w).callers (facts (with_calls w whos)).callers
calls_more w whos = kept_more caller_of w.calls (map fresh whos)

-- what changes one stage, and perhaps makes calls
stage_effect : (w : World) (e : Event) (v : World) (f : ℕ) (l : Lead) (old new : Stage) →
    slice_get w.flights f ≡ Some (record { lead = l; stage = old }) →
    v.flights ≡ slice_set w.flights f (record { lead = l; stage = new }) → Kept (facts w).callers (facts v).callers → Kept w.asks v.asks →
    v.replies ≡ w.replies → v.requests ≡ w.requests →
    Gives w v.given e → NewStage w e v f new → HasEffect w e v
stage_effect w e v f l old new at flights callers asks replies requests gives is = record {
  rows = record {
    infos = kept_same _ _ (ap (map info_of) requests);
    callers = callers;
    leads = subst (λ fs. Kept (facts w).leads (map lead_in fs)) (sym flights) (leads_set w f l old new at);
    asks = asks;
    replies = kept_same _ _ replies;
  };
  given = gives;
  flights = flights_set w e v f l new flights is;
  requests = requests_same w v requests callers;
}

-- what changes no flight and no request
calls_effect : (w : World) (e : Event) (v : World) → v.flights ≡ w.flights → Kept (facts w).callers (facts v).callers → v.asks ≡ w.asks →
    Kept w.replies v.replies → v.requests ≡ w.requests →
    Gives w v.given e → HasEffect w e v
calls_effect w e v flights callers asks replies requests gives = record {
  rows = record {
    infos = kept_same _ _ (ap (map info_of) requests);
    callers = callers;
    leads = kept_same _ _ (ap (map lead_in) flights);
    asks = kept_same _ _ asks;
    replies = replies;
  };
  given = gives;
  flights = flights_same w e v flights;
  requests = requests_same w v requests callers;
}

-- Want

wanted_effect : (w : World) (i : ℕ) (name : List ℕ) (request : Request) (n : Node) (p : Picture) (q : RequestInfo)
    (x : Result Resolved Refusal) →
    HasEffect w (Want i name request) (after_want w n p q x)
wanted_effect w i name request n p q (Err e) =
    let v = after_want w n p q (Err e) in
    record {
      rows = record {
        infos = kept_more info_of w.requests _;
        callers = kept_all _;
        leads = kept_all _;
        asks = kept_all _;
        replies =
            kept_all _;
      };
      given = refl;
      flights = flights_same w (Want i name request) v refl;
      requests = requests_more w v q (Answered (Refused e)) refl (kept_all _) tt;
    }
wanted_effect w i name request n p q (Ok r) =
    let v = after_want w n p q (Ok r) in
    let keys = items w.scene q.name p r in
    let purpose = ForRequest (length w.requests) in
    let callers : Kept (facts w).callers (facts v).callers = calls_more w (map (call_for q.node n purpose) keys) in
    record {
      rows = record {
        infos = kept_more info_of w.requests _;
        callers = callers;
        leads = kept_all _;
        asks = kept_all _;
        replies =
            kept_all _;
      };
      given = refl;
      flights = flights_same w (Want i name request) v refl;
      requests = requests_more w v q (Waiting r (numbers (length w.calls) keys)) refl callers (calls_for w q.node n purpose keys);
    }

-- Enter

found_effect : (w : World) (c : ℕ) (who : Caller) (n : Node) (v : Value) (t : Table) →
    slice_get w.calls c ≡ Some (record { caller = who; state = Fresh }) →
    HasEffect w (Enter c) (settled (with_state (with_node w who.node (put_table n who.key t)) c who (Hit v)))
found_effect w c who n v t at =
    let u = with_state (with_node w who.node (put_table n who.key t)) c who (Hit v) in
    let callers : Kept (facts w).callers (facts u).callers = callers_set w c who Fresh (Hit v) at in
    record {
      rows = record {
        infos = kept_same _ _ (map_same info_of (answered u) w.requests (λ q. refl));
        callers = callers;
        leads = kept_same _ _ (map_same lead_in (resumed u) w.flights (λ f. refl));
        asks = kept_all _;
        replies = kept_all _;
      };
      given = refl;
      flights = flights_settled w (Enter c) u (λ g y is. inl is) (λ g o is. (is, refl));
      requests = requests_settled w u refl callers;
    }

led_effect : (w : World) (c : ℕ) (who : Caller) (n : Node) (m : ℕ) (t : Table) →
    slice_get w.calls c ≡ Some (record { caller = who; state = Fresh }) →
    HasEffect w (Enter c) (with_state (with_flight (with_node w who.node (put_table n who.key t)) (lead_of who m)) c who
    (In (length w.flights)))
led_effect w c who n m t at =
    let l = lead_of who m in
    let v = with_state (with_flight (with_node w who.node (put_table n who.key t)) l) c who (In (length w.flights)) in
    let callers : Kept (facts w).callers (facts v).callers = callers_set w c who Fresh (In (length w.flights)) at in
    record {
      rows = record {
        infos = kept_all _;
        callers = callers;
        leads = kept_more lead_in w.flights _;
        asks = kept_all _;
        replies =
            kept_all _;
      };
      given = refl;
      flights = flights_more w (Enter c) v l refl;
      requests = requests_same w v refl callers;
    }

-- Again

found_new : (w : World) (f : ℕ) (v : World) (x : Option Value) → NewStage w (Again f) v f (stage_found x)
found_new w f v None = tt
found_new w f v (Some x) = (refl, tt, refl)

-- Take

taken_new : (w : World) (f r : ℕ) (v : World) (k q : Key) (o : Outcome) → NewStage w (Take f r) v f (stage_taken k q o)
taken_new w f r v k q (Err x) = tt
taken_new w f r v k q (Ok x) = by (key_eq q k)
  where
    by : (b : Bool) → NewStage w (Take f r) v f (if b then Ready (Ok x) Peer else Fallback None)
    by true = (refl, tt, refl)
    by false = tt

-- Load

-- what is collected to a fault has it first
first_more : (v : Value) (os : List Outcome) (x : ReadFault) → IsFirstFault os x → IsFirstFault (Ok v ∷ os) x
first_more v os x h = (v ∷ h.0, h.1, ap (λ zs. Ok v ∷ zs) h.2)

first_by : (v : Value) (os : List Outcome) (x : ReadFault) (r : Result (List Value) ReadFault) →
    ((y : ReadFault) → r ≡ Err y → IsFirstFault os y) → or_fault (Ok v) r ≡ Err x →
    IsFirstFault (Ok v ∷ os) x
first_by v os x (Ok vs) h e = absurd cc
first_by v os x (Err y) h e = first_more v os x (h x e)

one_fault : (r : Result (List Value) ReadFault) (y x : ReadFault) → r ≡ Err y → r ≡ Err x → y ≡ x
one_fault r y x e f = cc

first_of_all : (os : List Outcome) (x : ReadFault) → collected os ≡ Err x → IsFirstFault os x
first_of_all [] x e = absurd cc
first_of_all (Err y ∷ os) x e = ([], os, ap (λ (z : ReadFault). Err z ∷ os) (one_fault (collected (Err y ∷ os)) y x refl e))
first_of_all (Ok v ∷ os) x e = first_by v os x (collected os) (first_of_all os) e

merged_new : (w : World) (f : ℕ) (l : Lead) (cs : List ℕ) (os : List Outcome) (r : Result (List Value) ReadFault) →
    slice_get w.flights f ≡ Some (record { lead = l; stage = Parts cs }) →
    decided w cs ≡ Some os → collected os ≡ r → IsMerged w f (outcome_from w.scene l.key r)
merged_new w f l cs os (Ok vs) at knows e = tt
merged_new w f l cs os (Err x) at knows e = (l, cs, os, at, knows, first_of_all os x e)

-- Land

landed_from : (w : World) (f : ℕ) (l : Lead) (o : Option Outcome) (g : ℕ) (y : Flight) →
    slice_get (slice_set w.flights f (record { lead = l; stage = Ended o })) g ≡ Some y →
    (slice_get w.flights g ≡ Some y) ⊎ HasEnded y.stage
landed_from w f l o g y at =
    let row : Flight = record { lead = l; stage = Ended o } in
    ⊎_elim
    (λ (x : (g ≡ f) × (y ≡ row)). inr (o, ap (λ (z : Flight). z.stage) x.1))
    (λ (x : slice_get w.flights g ≡ Some y). inl x)
    (set_cases w.flights f g y row at)

landed_effect : (w : World) (f : ℕ) (l : Lead) (n : Node) (kept : Bool) (o : Outcome) (p : Place) →
    slice_get w.flights f ≡ Some (record { lead = l; stage = Ready o p }) →
    HasEffect w (Land f kept) (settled (with_stage (with_node w l.node (put_table n l.key
    (land (table_at n l.key) l.key l.class l.ticket o p kept))) f l (Ended (Some o))))
landed_effect w f l n kept o p at =
    let t = table_at n l.key in
    let u = with_stage (with_node w l.node (put_table n l.key (land t l.key l.class l.ticket o p kept))) f l (Ended (Some o)) in
    record {
      rows = record {
        infos = kept_same _ _ (map_same info_of (answered u) w.requests (λ q. refl));
        callers = kept_all _;
        leads = kept_same _ _ (map_same lead_in (resumed u) u.flights (λ f. refl)
            ∙ map_set lead_in w.flights f (record { lead = l; stage = Ready o p }) (record { lead = l; stage = Ended (Some o) }) at refl);
        asks = kept_all _;
        replies = kept_all _;
      };
      given = refl;
      flights = flights_settled w (Land f kept) u (landed_from w f l (Some o)) (λ g r is. (is, refl));
      requests = requests_settled w u refl (kept_all _);
    }

-- Stop

stopped_new : (w v : World) (i g : ℕ) (s : Stage) → NewStage w (Stop i) v g (stage_stopped s)
stopped_new w v i g (Ended o) = tt
stopped_new w v i g New = tt
stopped_new w v i g Looked = tt
stopped_new w v i g Asking = tt
stopped_new w v i g (Fallback c) = tt
stopped_new w v i g (Parts cs) = tt
stopped_new w v i g (Ready o p) = tt

stopped_by : (w v : World) (i g : ℕ) (fl : Flight) (b : Bool) → slice_get w.flights g ≡ Some fl →
    (slice_get w.flights g ≡ Some (if b then record { lead = fl.lead; stage = stage_stopped fl.stage } else fl))
    ⊎ NewStage w (Stop i) v g (if b then record { lead = fl.lead; stage = stage_stopped fl.stage } else fl).stage
stopped_by w v i g fl true at = inr (stopped_new w v i g fl.stage)
stopped_by w v i g fl false at = inl at

dropped_own : (cs : List Caller) (r : ℕ) (x : Progress) → ProgressIsOwn cs r x → ProgressIsOwn cs r (progress_stopped x)
dropped_own cs r (Waiting q ds) h = tt
dropped_own cs r (Answered a) h = tt
dropped_own cs r Dropped h = tt

dropped_by : (cs : List Caller) (r : ℕ) (q : RequestRow) (b : Bool) → ProgressIsOwn cs r q.progress →
    ProgressIsOwn cs r (if b then record { info = q.info; progress = progress_stopped q.progress } else q).progress
dropped_by cs r q true h = dropped_own cs r q.progress h
dropped_by cs r q false h = h

wish_by : (q : RequestRow) (b : Bool) → info_of (if b then record { info = q.info; progress = progress_stopped q.progress } else q) ≡
    info_of q
wish_by q true = refl
wish_by q false = refl

stopped_effect : (w : World) (i : ℕ) (n : Node) → HasEffect w (Stop i) (after_stop w i n)
stopped_effect w i n =
    let v = after_stop w i n in
    let callers : Kept (facts w).callers (facts v).callers =
    kept_same _ _ (map_same caller_of (call_stopped i) w.calls (λ c. caller_by c (c.caller.node == i))) in
    record {
      rows = record {
        infos = kept_same _ _ (map_same info_of (request_stopped i) w.requests (λ q. wish_by q (q.info.node == i)));
        callers = callers;
        leads = kept_same _ _ (map_same lead_in (flight_stopped i) w.flights (λ fl. lead_by fl (fl.lead.node == i)));
        asks = kept_all _;
        replies = kept_all _;
      };
      given = refl;
      flights = λ g y at.
          let x = get_mapped (flight_stopped i) w.flights g y at in
          subst (λ (z : Flight). (slice_get w.flights g ≡ Some z) ⊎ NewStage w (Stop i) v g z.stage) x.2
          (stopped_by w v i g x.0 (x.0.lead.node == i) x.1);
      requests = λ h r y at.
          let x = get_mapped (request_stopped i) w.requests r y at in
          subst (λ (z : RequestRow). ProgressIsOwn (facts v).callers r z.progress) x.2
          (dropped_by (facts v).callers r x.0 (x.0.info.node == i)
          (progress_own_later (facts w).callers (facts v).callers r x.0.progress callers (h r x.0 x.1)));
    }

-- All

effect_by : (w v : World) (e : Event) → Does w e v → HasEffect w e v
effect_by w _ _ (wanted i name q n p stands shown) =
    wanted_effect w i name q n p (record { node = i; name = name; request = q }) (resolved w.scene p q)
effect_by w _ _ (found c who n x at stands is) = found_effect w c who n x _ at
effect_by w _ _ (joined c who n f at stands is first) =
    calls_effect w (Enter c) _ refl (callers_set w c who Fresh (In f) at) refl (kept_all _) refl refl
effect_by w _ _ (led c who n m at stands is) = led_effect w c who n m _ at
effect_by w _ _ (looked f l n at stands) =
    let r = again (table_at n l.key) l.key l.class l.ticket in
    stage_effect w (Again f) (after_look w f l n r) f l New (stage_found r.0) at refl (kept_all _) (kept_all _) refl refl refl
    (found_new w f (after_look w f l n r) r.0)
effect_by w _ _ (asked f l n o at stands wide is) =
    stage_effect w (AskPeer f) _ f l Looked Asking at refl (kept_all _) (get_left w.asks _) refl refl refl tt
effect_by w _ _ (served a q n at stands) = calls_effect w (Serve a) _ refl (calls_more w (caller_serving a q ∷ [])) refl (kept_all _)
    refl refl
effect_by w _ _ (replied c who s a o at is knows) = calls_effect w (event.Reply c) _ refl (kept_all _) refl (get_left w.replies _) refl refl
effect_by w _ _ (taken f r l x at there) =
    let new = stage_taken l.key x.key x.outcome in
    stage_effect w (Take f r) _ f l Asking new at refl (kept_all _) (kept_all _) refl refl refl
    (taken_new w f r (with_stage w f l new) l.key x.key x.outcome)
effect_by w _ _ (late f r l o at) = calls_effect w (Take f r) w refl (kept_all _) refl (kept_all _) refl refl
effect_by w _ _ (lost f l at) = stage_effect w (Lose f) _ f l Asking (Fallback None) at refl (kept_all _) (kept_all _) refl refl refl tt
effect_by w _ _ (gone_local f l at) =
    let who : Caller = record { node = l.node; key = l.key; class = Local; purpose = ForFallback f } in
    stage_effect w (GoLocal f) _ f l (Fallback None) (Fallback (Some (length w.calls))) at refl (calls_more w (who ∷ [])) (kept_all _) refl
    refl refl ((who, new_call w who, refl), tt)
effect_by w _ _ (read f l n at stands is none) =
    stage_effect w (Load f) _ f l Looked _ at refl (kept_all _) (kept_all _) refl refl refl (refl, tt, refl)
effect_by w _ _ (split f l n ks at stands is some) =
    stage_effect w (Load f) _ f l Looked (Parts (numbers (length w.calls) ks)) at refl
    (calls_more w (map (call_for l.node n (ForPart f)) ks)) (kept_all _) refl refl refl (calls_for w l.node n (ForPart f) ks)
effect_by w _ _ (merged f l cs os at is know) =
    stage_effect w (Load f) _ f l (Parts cs) (Ready (outcome_from w.scene l.key (collected os)) _) at refl (kept_all _)
    (kept_all _) refl refl refl (refl, merged_new w f l cs os (collected os) at know refl, refl)
effect_by w _ _ (failed f x l at is none) =
    stage_effect w (SourceFault f x) _ f l Looked _ at refl (kept_all _) (kept_all _) refl refl
    (l, get_map lead_in w.flights f (record { lead = l; stage = Looked }) at, refl) (refl, refl, refl)
effect_by w _ _ (landed f kept l n o p at stands) = landed_effect w f l n kept o p at
effect_by w _ _ (evicted i keys n stands) = calls_effect w (Evict i keys) _ refl (kept_all _) refl (kept_all _) refl refl
effect_by w _ _ (stopped i n stands) = stopped_effect w i n

pub step_effect : (w : World) (e : Event) → After (HasEffect w e) (step w e)
step_effect w e = after_does w e (HasEffect w e) (λ v d. effect_by w v e d)
