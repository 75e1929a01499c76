-- Each event leaves the rows of other nodes.
use Rattle.std.proofs.Common.{◌≡◌, ⊎_elim, ℕ, List, [], ◌∷◌, length, Option, Some, None, Result}
use Rattle.std.proofs.Common.{Ok, Err, refl, sym, ap}
use Rattle.std.proofs.Common.{◌∙◌}
use Rattle.std.specs.Prelude.{slice_get, slice_set}
use Rattle.std.proofs.lemmas.Option.{same_Some}
use Rattle.iiif_machine.specs.Plans.{resolved}
use Rattle.iiif_machine.proofs.Deciding.{KnowSame, decided_same}
use Rattle.iiif_machine.proofs.Lists.{get_left, get_map}
use Rattle.iiif_machine.specs.Types.{Key, Picture, Resolved, Refusal}
use Rattle.iiif_machine.specs.Rows.{Node, Caller, CallState, Fresh, Hit, In, Gone, Call, Lead, Stage, New, Looked, Asking, Fallback}
use Rattle.iiif_machine.specs.Rows.{Parts, Ready}
use Rattle.iiif_machine.specs.Rows.{Ended, Flight, RequestInfo, Progress, Waiting, Answered, Dropped, RequestRow}
use Rattle.iiif_machine.specs.Worlds.{World, ◌>>=◌, outcome_of, known_by, learned, decided, ready_with, resumed_stage, resumed}
use Rattle.iiif_machine.specs.Worlds.{answered_with}
use Rattle.iiif_machine.specs.Worlds.{progressed, answered, settled, with_node, with_stage, with_state}
use Rattle.iiif_machine.specs.Steps.{Event, after_want}
use Rattle.iiif_machine.specs.Sound.{facts, caller_of, lead_in, AreOf, StageIsHonest, StateIsHonest, ProgressIsHonest, IsHonestWorld}
use Rattle.iiif_machine.specs.Frames.{IsOfFlightAt, IsOfCallAt, IsOfNode, IsSettled, OthersKeep, EachKeepsOthers}
use Rattle.iiif_machine.proofs.Leaving.{others_stay}
use Rattle.iiif_machine.proofs.Learning.{get_mapped}
use Rattle.iiif_machine.proofs.Registers.{set_found}
use Rattle.iiif_machine.proofs.Doing.{Flies, Calls, entered_node, landed_node, Does, wanted, found, joined, led, looked, asked}
use Rattle.iiif_machine.proofs.Doing.{served}
use Rattle.iiif_machine.proofs.Doing.{replied, taken, late, lost, gone_local, read, split, merged, failed, landed, evicted, stopped, does}

abbrev NodesKeep : ℕ → World → List Node → Type 0
NodesKeep i w ns = (j : ℕ) (n : Node) → ¬ (j ≡ i) → slice_get w.nodes j ≡ Some n → slice_get ns j ≡ Some n

abbrev CallsKeep : ℕ → World → List Call → Type 0
CallsKeep i w cs = (c : ℕ) (x : Call) → ¬ (x.caller.node ≡ i) → slice_get w.calls c ≡ Some x → slice_get cs c ≡ Some x

abbrev FlightsKeep : ℕ → World → List Flight → Type 0
FlightsKeep i w fs = (f : ℕ) (x : Flight) → ¬ (x.lead.node ≡ i) → slice_get w.flights f ≡ Some x → slice_get fs f ≡ Some x

abbrev RequestsKeep : ℕ → World → List RequestRow → Type 0
RequestsKeep i w qs = (r : ℕ) (q : RequestRow) → ¬ (q.info.node ≡ i) → slice_get w.requests r ≡ Some q → slice_get qs r ≡ Some q

node_set : (w : World) (i k : ℕ) (m : Node) → k ≡ i → NodesKeep i w (slice_set w.nodes k m)
node_set w i k m own j n other at = ⊎_elim
    (λ (x : (j ≡ k) × (slice_get (slice_set w.nodes k m) j ≡ Some m)). absurd (other (x.0 ∙ own)))
    (λ (x : slice_get (slice_set w.nodes k m) j ≡ Some n). x)
    (set_found w.nodes k j n m at)

call_set : (w : World) (i d : ℕ) (who : Caller) (s t : CallState) → Calls w d who s → who.node ≡ i →
    CallsKeep i w (slice_set w.calls d (record { caller = who; state = t }))
call_set w i d who s t there own c x other at =
    let new : Call = record { caller = who; state = t } in
    ⊎_elim
    (λ (y : (c ≡ d) × (slice_get (slice_set w.calls d new) c ≡ Some new)).
    let same : x ≡ record { caller = who; state = s } = same_Some x _ (sym at ∙ ap (slice_get w.calls) y.0 ∙ there) in
    absurd (other (ap (λ (z : Call). z.caller.node) same ∙ own)))
    (λ (y : slice_get (slice_set w.calls d new) c ≡ Some x). y)
    (set_found w.calls d c x new at)

flight_set : (w : World) (i g : ℕ) (l : Lead) (s t : Stage) → Flies w g l s → l.node ≡ i →
    FlightsKeep i w (slice_set w.flights g (record { lead = l; stage = t }))
flight_set w i g l s t there own f x other at =
    let new : Flight = record { lead = l; stage = t } in
    ⊎_elim
    (λ (y : (f ≡ g) × (slice_get (slice_set w.flights g new) f ≡ Some new)).
    let same : x ≡ record { lead = l; stage = s } = same_Some x _ (sym at ∙ ap (slice_get w.flights) y.0 ∙ there) in
    absurd (other (ap (λ (z : Flight). z.lead.node) same ∙ own)))
    (λ (y : slice_get (slice_set w.flights g new) f ≡ Some x). y)
    (set_found w.flights g f x new at)

-- what others know is the same

module _ (i : ℕ) (w u : World) (scene : u.scene ≡ w.scene) (calls : CallsKeep i w u.calls) (flights : FlightsKeep i w u.flights)
    (honest : IsHonestWorld w) (due : IsSettled w) where
  state_other : (who : Caller) (s : CallState) → ¬ (who.node ≡ i) → StateIsHonest w.scene (facts w) who s →
      known_by u.flights s ≡ known_by w.flights s
  state_other who Fresh other h = refl
  state_other who (Hit v) other h = refl
  state_other who Gone other h = refl
  state_other who (In g) other h =
      let y = get_mapped lead_in w.flights g h.0 h.1 in
      let away : ¬ (y.0.lead.node ≡ i) = λ e. other (sym h.2 ∙ sym (ap (λ (l : Lead). l.node) y.2) ∙ e) in
      ap (λ (z : Option Flight). z >>= (λ (fl : Flight). outcome_of fl.stage)) (flights g y.0 away y.1 ∙ sym y.1)

  learned_other : (c : ℕ) (who : Caller) → slice_get (facts w).callers c ≡ Some who → ¬ (who.node ≡ i) → learned u c ≡ learned w c
  learned_other c who at other =
      let x = get_mapped caller_of w.calls c who at in
      let away : ¬ (x.0.caller.node ≡ i) = λ e. other (sym (ap (λ (z : Caller). z.node) x.2) ∙ e) in
      ap (λ (z : Option Call). z >>= (λ (call : Call). known_by u.flights call.state)) (calls c x.0 away x.1)
      ∙ state_other x.0.caller x.0.state away (honest.calls c x.0 x.1).state
      ∙ sym (ap (λ (z : Option Call). z >>= (λ (call : Call). known_by w.flights call.state)) x.1)

  know_other : (node : ℕ) (cs : List ℕ) (ks : List Key) → ¬ (node ≡ i) → AreOf (facts w).callers node cs ks → KnowSame u w cs
  know_other node [] [] other h = tt
  know_other node [] (k ∷ ks) other h = tt
  know_other node (c ∷ cs) [] other h = absurd h
  know_other node (c ∷ cs) (k ∷ ks) other h =
      (learned_other c h.0.0 h.0.1 (λ e. other (sym h.0.2 ∙ e)), know_other node cs ks other h.1)

  all_other : (node : ℕ) (cs : List ℕ) (ks : List Key) → ¬ (node ≡ i) → AreOf (facts w).callers node cs ks → decided u cs ≡ decided w cs
  all_other node cs ks other h = decided_same u w cs scene (know_other node cs ks other h)

  stage_other : (f : ℕ) (l : Lead) (s : Stage) → ¬ (l.node ≡ i) → Flies w f l s → StageIsHonest w.scene (facts w) l s →
      resumed_stage u s ≡ s
  stage_other f l New other at h = refl
  stage_other f l Looked other at h = refl
  stage_other f l Asking other at h = refl
  stage_other f l (Fallback None) other at h = refl
  stage_other f l (Fallback (Some c)) other at h =
      ap (ready_with (Fallback (Some c))) (learned_other c h.1.0.0 h.1.0.1 (λ e. other (sym h.1.0.2 ∙ e)) ∙ due.flights f l c at)
  stage_other f l (Parts cs) other at h = refl
  stage_other f l (Ready o p) other at h = refl
  stage_other f l (Ended o) other at h = refl

  none_answered : (q : RequestInfo) (x : Resolved) (cs : List ℕ) (p : Option Picture) → answered_with u q x cs p None ≡ Waiting x cs
  none_answered q x cs (Some p) = refl
  none_answered q x cs None = refl

  progress_other : (r : ℕ) (q : RequestInfo) (x : Progress) → ¬ (q.node ≡ i) →
      slice_get w.requests r ≡ Some (record { info = q; progress = x }) →
      ProgressIsHonest w.scene (facts w) q x → progressed u q x ≡ x
  progress_other r q (Waiting x cs) other at h =
      ap (answered_with u q x cs (u.scene.shows q.name)) (all_other q.node cs _ other h.3 ∙ due.requests r q x cs at)
      ∙ none_answered q x cs (u.scene.shows q.name)
  progress_other r q (Answered a) other at h = refl
  progress_other r q Dropped other at h = refl

  settled_keep : NodesKeep i w u.nodes → u.requests ≡ w.requests → OthersKeep i w (settled u)
  settled_keep nodes requests = record {
    nodes = nodes;
    requests = λ r q other at.
        get_map (answered u) u.requests r q (ap (λ qs. slice_get qs r) requests ∙ at)
        ∙ ap (λ p. Some (record { info = q.info; progress = p })) (progress_other r q.info q.progress other at (honest.requests r q at));
    calls = calls;
    flights = λ f x other at.
        get_map (resumed u) u.flights f x (flights f x other at)
        ∙ ap (λ s. Some (record { lead = x.lead; stage = s })) (stage_other f x.lead x.stage other at (honest.flights f x at).stage);
  }

own_lead : (w : World) (i f : ℕ) (l : Lead) (s : Stage) → Flies w f l s → IsOfFlightAt w f i → l.node ≡ i
own_lead w i f l s at h = ap (λ (x : Lead). x.node) (same_Some l h.0 (sym (get_map lead_in w.flights f _ at) ∙ h.1)) ∙ h.2

own_call : (w : World) (i c : ℕ) (who : Caller) (s : CallState) → Calls w c who s → IsOfCallAt w c i → who.node ≡ i
own_call w i c who s at h = ap (λ (x : Caller). x.node) (same_Some who h.0 (sym (get_map caller_of w.calls c _ at) ∙ h.1)) ∙ h.2

want_keeps : (i : ℕ) (w : World) (n : Node) (p : Picture) (q : RequestInfo) (x : Result Resolved Refusal) →
    OthersKeep i w (after_want w n p q x)
want_keeps i w n p q (Err e) = record {
  nodes = λ j m o at. at;
  requests = λ r y o at. get_left w.requests _ r y at;
  calls = λ c y o at. at;
  flights = λ f y o at. at;
}
want_keeps i w n p q (Ok r) = record {
  nodes = λ j m o at. at;
  requests = λ r y o at. get_left w.requests _ r y at;
  calls = λ c y o at. get_left w.calls _ c y at;
  flights = λ f y o at. at;
}

stage_keeps : (i : ℕ) (w : World) (f : ℕ) (l : Lead) (s t : Stage) → Flies w f l s → IsOfFlightAt w f i →
    OthersKeep i w (with_stage w f l t)
stage_keeps i w f l s t at own = record {
  nodes = λ j m o x. x;
  requests = λ r y o x. x;
  calls = λ c y o x. x;
  flights = flight_set w i f l s t at (own_lead w i f l s at own);
}

by_does : (i : ℕ) (w v : World) (e : Event) → IsHonestWorld w → IsSettled w → Does w e v → IsOfNode w i e → OthersKeep i w v
by_does i w _ _ honest due (wanted j name q n p stands shown) own =
    want_keeps i w n p (record { node = j; name = name; request = q }) (resolved w.scene p q)
by_does i w _ _ honest due (found c who n x at stands is) own =
    let node = own_call w i c who Fresh at own in
    let u = with_state (with_node w who.node (entered_node n who)) c who (Hit x) in
    settled_keep i w u refl (call_set w i c who Fresh (Hit x) at node) (λ f y o z. z) honest due
    (node_set w i who.node (entered_node n who) node) refl
by_does i w _ _ honest due (joined c who n f at stands is first) own =
    let node = own_call w i c who Fresh at own in
    record {
      nodes = node_set w i who.node (entered_node n who) node;
      requests = λ r y o z. z;
      calls = call_set w i c who Fresh (In f) at node;
      flights = λ g y o z. z;
    }
by_does i w _ _ honest due (led c who n m at stands is) own =
    let node = own_call w i c who Fresh at own in
    record {
      nodes = node_set w i who.node (entered_node n who) node;
      requests = λ r y o z. z;
      calls = call_set w i c who Fresh (In (length w.flights)) at node;
      flights = λ g y o z. get_left w.flights _ g y z;
    }
by_does i w _ _ honest due (looked f l n at stands) own =
    let node = own_lead w i f l New at own in
    record {
      nodes = node_set w i l.node _ node;
      requests = λ r y o z. z;
      calls = λ c y o z. z;
      flights = flight_set w i f l New _ at node;
    }
by_does i w _ _ honest due (asked f l n o at stands wide is) own = record {
  nodes = λ j m o z. z;
  requests = λ r y o z. z;
  calls = λ c y o z. z;
  flights = flight_set w i f l Looked Asking at (own_lead w i f l Looked at own);
}
by_does i w _ _ honest due (served a q n at stands) own = record {
  nodes = λ j m o z. z;
  requests = λ r y o z. z;
  calls = λ c y o z. get_left w.calls _ c y z;
  flights = λ f y o z. z;
}
by_does i w _ _ honest due (replied c who s a o at is knows) own = record {
  nodes = λ j m o z. z;
  requests = λ r y o z. z;
  calls = λ c y o z. z;
  flights = λ f y o z. z;
}
by_does i w _ _ honest due (taken f r l x at there) own = stage_keeps i w f l Asking _ at own
by_does i w _ _ honest due (late f r l o at) own = record {
  nodes = λ j m o z. z;
  requests = λ r y o z. z;
  calls = λ c y o z. z;
  flights = λ f y o z. z;
}
by_does i w _ _ honest due (lost f l at) own = stage_keeps i w f l Asking _ at own
by_does i w _ _ honest due (gone_local f l at) own = record {
  nodes = λ j m o z. z;
  requests = λ r y o z. z;
  calls = λ c y o z. get_left w.calls _ c y z;
  flights = flight_set w i f l (Fallback None) _ at (own_lead w i f l (Fallback None) at own);
}
by_does i w _ _ honest due (read f l n at stands is none) own = stage_keeps i w f l Looked _ at own
by_does i w _ _ honest due (split f l n ks at stands is some) own = record {
  nodes = λ j m o z. z;
  requests = λ r y o z. z;
  calls = λ c y o z. get_left w.calls _ c y z;
  flights = flight_set w i f l Looked _ at (own_lead w i f l Looked at own);
}
by_does i w _ _ honest due (merged f l cs os at is know) own = stage_keeps i w f l (Parts cs) _ at own
by_does i w _ _ honest due (failed f x l at is none) own = record {
  nodes = λ j m o z. z;
  requests = λ r y o z. z;
  calls = λ c y o z. z;
  flights = flight_set w i f l Looked _ at (own_lead w i f l Looked at own);
}
by_does i w _ _ honest due (landed f kept l n o p at stands) own =
    let node = own_lead w i f l (Ready o p) at own in
    let u = with_stage (with_node w l.node (landed_node n l o p kept)) f l (Ended (Some o)) in
    settled_keep i w u refl (λ c y o z. z) (flight_set w i f l (Ready o p) (Ended (Some o)) at node) honest due
    (node_set w i l.node (landed_node n l o p kept) node) refl
by_does i w _ _ honest due (evicted j keys n stands) own = record {
  nodes = node_set w i j _ own;
  requests = λ r y o z. z;
  calls = λ c y o z. z;
  flights = λ f y o z. z;
}
by_does i w _ _ honest due (stopped j n stands) own =
    let h = others_stay w j n in
    record {
      nodes = λ k m o z. h.nodes k m (λ e. o (e ∙ own)) z;
      requests = λ r y o z. h.requests r y (λ e. o (e ∙ own)) z;
      calls = λ c y o z. h.calls c y (λ e. o (e ∙ own)) z;
      flights = λ f y o z. h.flights f y (λ e. o (e ∙ own)) z;
    }

pub each_keeps_others : EachKeepsOthers
each_keeps_others w v e sound due h i own = by_does i w v e sound.honest due (does w v e h) own
