-- Each event leaves nothing due, and nothing is due in a new world.
use Rattle.std.proofs.Common.{◌≡◌, ◌⊎◌, inl, inr, ⊎_elim, ℕ, List, [], ◌∷◌, ◌++◌, map, length, Bool, true, false, Option}
use Rattle.std.proofs.Common.{Some, None, Result, Ok, Err}
use Rattle.std.proofs.Common.{refl, sym, ap, subst, ◌∙◌, if◌then◌else◌}
use Rattle.std.specs.Prelude.{slice_get, slice_set, ◌==◌}
use Rattle.std.proofs.lemmas.Option.{none-some}
use Rattle.std.proofs.lemmas.Bool.{and_parts}
use Rattle.iiif_machine.specs.Keys.{key_eq, name_of, meaning}
use Rattle.iiif_machine.specs.Plans.{resolved, items}
use Rattle.iiif_machine.proofs.Assembling.{no_plan_is_empty}
use Rattle.iiif_machine.specs.Types.{Key, Value, Picture, Request, Resolved, Refusal}
use Rattle.iiif_machine.specs.Tables.{Local, Outcome, Place, Main, Peer, again}
use Rattle.iiif_machine.specs.Rows.{Node, ForRequest, ForPart, ForFallback, Caller, CallState, Fresh, Hit, In, Gone, Call, Lead, Stage}
use Rattle.iiif_machine.specs.Rows.{New, Looked, Asking, Fallback, Parts, Ready}
use Rattle.iiif_machine.specs.Rows.{Ended, Flight, RequestInfo, Progress, Waiting, Answered, Dropped, RequestRow}
use Rattle.iiif_machine.specs.Worlds.{World, ◌>>=◌, fresh, call_for, numbers, outcome_of, known_by, learned, decided, ready_with}
use Rattle.iiif_machine.specs.Worlds.{resumed_stage, resumed}
use Rattle.iiif_machine.specs.Worlds.{answered_with, progressed, answered, settled, with_node, with_stage, with_state, with_calls}
use Rattle.iiif_machine.specs.Worlds.{with_given}
use Rattle.iiif_machine.specs.Worlds.{table_at, collected, outcome_from}
use Rattle.iiif_machine.specs.Steps.{Event, is_open, is_open_for, stage_found, stage_taken, stage_stopped, flight_stopped}
use Rattle.iiif_machine.specs.Steps.{call_stopped}
use Rattle.iiif_machine.specs.Steps.{progress_stopped, request_stopped, after_want, after_stop, after_look, lead_of, caller_serving}
use Rattle.iiif_machine.specs.Sound.{IsHonestWorld}
use Rattle.iiif_machine.specs.Frames.{IsSettled, NewIsSettled, EachStaysSettled}
use Rattle.iiif_machine.proofs.Effects.{settled_knows}
use Rattle.iiif_machine.proofs.Learning.{bind_inv, get_mapped}
use Rattle.iiif_machine.proofs.Deciding.{KnowsMore, none_from, decided_none, first_open}
use Rattle.iiif_machine.proofs.Lists.{get_end, position_found}
use Rattle.iiif_machine.proofs.Registers.{set_cases, end_cases}
use Rattle.iiif_machine.proofs.Frames.{append_cases, all_settled}
use Rattle.iiif_machine.proofs.Doing.{Flies, entered_node, landed_node, Does, wanted, found, joined, led, looked, asked}
use Rattle.iiif_machine.proofs.Doing.{served}
use Rattle.iiif_machine.proofs.Doing.{replied, taken, late, lost, gone_local, read, split, merged, failed, landed, evicted, stopped, does}

-- no flight, and no call, tells more than before

abbrev FlightsTellNoMore : List Flight → List Flight → Type 0
FlightsTellNoMore fs gs = (g : ℕ) (y : Flight) → slice_get gs g ≡ Some y → (slice_get fs g ≡ Some y) ⊎ (outcome_of y.stage ≡ None)

abbrev CallsTellNoMore : World → World → Type 0
CallsTellNoMore w v = (c : ℕ) (x : Call) → slice_get v.calls c ≡ Some x → (slice_get w.calls c ≡ Some x) ⊎
    (known_by v.flights x.state ≡ None)

abbrev tells : Option Flight → Option Outcome
tells x = x >>= (λ (y : Flight). outcome_of y.stage)

flight_tells : (fs gs : List Flight) → FlightsTellNoMore fs gs → (g : ℕ) (o : Outcome) → tells (slice_get gs g) ≡ Some o →
    tells (slice_get fs g) ≡ Some o
flight_tells fs gs h g o knows =
    let y = bind_inv (slice_get gs g) (λ (z : Flight). outcome_of z.stage) o knows in
    ⊎_elim
    (λ (was : slice_get fs g ≡ Some y.0). ap tells was ∙ y.2)
    (λ (e : outcome_of y.0.stage ≡ None). absurd (none-some o (sym e ∙ y.2)))
    (h g y.0 y.1)

state_tells : (fs gs : List Flight) → FlightsTellNoMore fs gs → (s : CallState) (o : Outcome) → known_by gs s ≡ Some o →
    known_by fs s ≡ Some o
state_tells fs gs h Fresh o knows = knows
state_tells fs gs h (Hit v) o knows = knows
state_tells fs gs h (In g) o knows = flight_tells fs gs h g o knows
state_tells fs gs h Gone o knows = knows

no_more : (w v : World) → FlightsTellNoMore w.flights v.flights → CallsTellNoMore w v → KnowsMore v w
no_more w v flights calls c o knows =
    let y = bind_inv (slice_get v.calls c) (λ (z : Call). known_by v.flights z.state) o knows in
    ⊎_elim
    (λ (was : slice_get w.calls c ≡ Some y.0).
    ap (λ (z : Option Call). z >>= (λ (k : Call). known_by w.flights k.state)) was
    ∙ state_tells w.flights v.flights flights y.0.state o y.2)
    (λ (e : known_by v.flights y.0.state ≡ None). absurd (none-some o (sym e ∙ y.2)))
    (calls c y.0 y.1)

not_known : (w v : World) → KnowsMore v w → (c : ℕ) → learned w c ≡ None → learned v c ≡ None
not_known w v h c = none_from (learned w c) (learned v c) (h c)

-- so nothing is due where what waits waited before, or for what isn't known

abbrev NewFlights : World → World → Type 0
NewFlights w v = (f : ℕ) (l : Lead) (c : ℕ) → Flies v f l (Fallback (Some c)) → Flies w f l (Fallback (Some c)) ⊎ (learned v c ≡ None)

still : (w v : World) → IsSettled w → v.scene ≡ w.scene → FlightsTellNoMore w.flights v.flights → CallsTellNoMore w v → NewFlights w v →
    v.requests ≡ w.requests → IsSettled v
still w v due scene flights calls from same =
    let more = no_more w v flights calls in
    record {
      flights = λ f l c at. ⊎_elim (λ (was : Flies w f l (Fallback (Some c))). not_known w v more c (due.flights f l c was))
          (λ (e : learned v c ≡ None). e) (from f l c at);
      requests = λ r q x cs at. decided_none v w scene more cs (due.requests r q x cs (ap (λ qs. slice_get qs r) (sym same) ∙ at));
    }

flights_same : (fs : List Flight) → FlightsTellNoMore fs fs
flights_same fs g y at = inl at

calls_more : (w v : World) (whos : List Caller) → v.calls ≡ w.calls ++ map fresh whos → CallsTellNoMore w v
calls_more w v whos same c x at = ⊎_elim
    (λ (was : slice_get w.calls c ≡ Some x). inl was)
    (λ (new : (j : ℕ) × (slice_get (map fresh whos) j ≡ Some x)).
    let who = get_mapped fresh whos new.0 x new.1 in
    inr (sym (ap (λ (z : Call). known_by v.flights z.state) who.2)))
    (append_cases w.calls (map fresh whos) c x (ap (λ cs. slice_get cs c) (sym same) ∙ at))

calls_set : (w v : World) (d : ℕ) (who : Caller) (s : CallState) → v.calls ≡ slice_set w.calls d (record { caller = who; state = s }) →
    known_by v.flights s ≡ None → CallsTellNoMore w v
calls_set w v d who s same none c x at = ⊎_elim
    (λ (new : (c ≡ d) × (x ≡ record { caller = who; state = s })). inr (ap (λ (z : Call). known_by v.flights z.state) new.1 ∙ none))
    (λ (was : slice_get w.calls c ≡ Some x). inl was)
    (set_cases w.calls d c x (record { caller = who; state = s }) (ap (λ cs. slice_get cs c) (sym same) ∙ at))

-- a stage that tells nothing is set
set_still : (w v : World) (f : ℕ) (l : Lead) (new : Stage) → IsSettled w → v.scene ≡ w.scene →
    v.flights ≡ slice_set w.flights f (record { lead = l; stage = new }) →
    outcome_of new ≡ None → ((c : ℕ) → new ≡ Fallback (Some c) → learned v c ≡ None) → CallsTellNoMore w v → v.requests ≡ w.requests →
    IsSettled v
set_still w v f l new due scene same none waits calls requests =
    let row : Flight = record { lead = l; stage = new } in
    still w v due scene
    (λ g y at. ⊎_elim
    (λ (x : (g ≡ f) × (y ≡ row)). inr (ap (λ (z : Flight). outcome_of z.stage) x.1 ∙ none))
    (λ (x : slice_get w.flights g ≡ Some y). inl x)
    (set_cases w.flights f g y row (ap (λ fs. slice_get fs g) (sym same) ∙ at)))
    calls
    (λ g m c at. ⊎_elim
    (λ (x : (g ≡ f) × (record { lead = m; stage = Fallback (Some c) } ≡ row)). inr (waits c (sym (ap (λ (z : Flight). z.stage) x.1))))
    (λ (x : Flies w g m (Fallback (Some c))). inl x)
    (set_cases w.flights f g _ row (ap (λ fs. slice_get fs g) (sym same) ∙ at)))
    requests

found_tells : (x : Option Value) → outcome_of (stage_found x) ≡ None
found_tells None = refl
found_tells (Some v) = refl

found_waits : (x : Option Value) (c : ℕ) → stage_found x ≡ Fallback (Some c) → ⊥
found_waits None c e = cc
found_waits (Some v) c e = cc

taken_tells : (k q : Key) (o : Outcome) → outcome_of (stage_taken k q o) ≡ None
taken_tells k q (Err f) = refl
taken_tells k q (Ok v) = by (key_eq q k)
  where
    by : (b : Bool) → outcome_of (if b then Ready (Ok v) Peer else Fallback None) ≡ None
    by true = refl
    by false = refl

taken_waits : (k q : Key) (o : Outcome) (c : ℕ) → stage_taken k q o ≡ Fallback (Some c) → ⊥
taken_waits k q (Err f) c e = cc
taken_waits k q (Ok v) c e = by (key_eq q k) e
  where
    by : (b : Bool) → (if b then Ready (Ok v) Peer else Fallback None) ≡ Fallback (Some c) → ⊥
    by true e = cc
    by false e = cc

open_tells : (s : Stage) → is_open s ≡ true → outcome_of s ≡ None
open_tells (Ended o) e = absurd cc
open_tells New e = refl
open_tells Looked e = refl
open_tells Asking e = refl
open_tells (Fallback c) e = refl
open_tells (Parts cs) e = refl
open_tells (Ready o p) e = refl

-- once all have seen what calls know, nothing is due

ready_none : (c d : ℕ) (x : Option Outcome) → ready_with (Fallback (Some d)) x ≡ Fallback (Some c) → (d ≡ c) × (x ≡ None)
ready_none c d None e = (cc, refl)
ready_none c d (Some o) e = absurd cc

resumed_none : (u : World) (s : Stage) (c : ℕ) → resumed_stage u s ≡ Fallback (Some c) → learned u c ≡ None
resumed_none u New c e = absurd cc
resumed_none u Looked c e = absurd cc
resumed_none u Asking c e = absurd cc
resumed_none u (Fallback None) c e = absurd cc
resumed_none u (Fallback (Some d)) c e = let x = ready_none c d (learned u d) e in subst (λ z. learned u z ≡ None) x.0 x.1
resumed_none u (Parts cs) c e = absurd cc
resumed_none u (Ready o p) c e = absurd cc
resumed_none u (Ended o) c e = absurd cc

waits_none : (u : World) (q : RequestInfo) (x y : Resolved) (cs ds : List ℕ) (p : Picture) (z : Option (List Outcome)) →
    answered_with u q x cs (Some p) z ≡ Waiting y ds → (cs ≡ ds) × (z ≡ None)
waits_none u q x y cs ds p None e = (cc, refl)
waits_none u q x y cs ds p (Some os) e = absurd cc

progress_none : (w u : World) (r : ℕ) (q : RequestInfo) (x : Progress) (y : Resolved) (ds : List ℕ) → IsHonestWorld w → u.scene ≡ w.scene →
    slice_get w.requests r ≡ Some (record { info = q; progress = x }) → progressed u q x ≡ Waiting y ds → decided u ds ≡ None
progress_none w u r q (Waiting x cs) y ds honest scene at e =
    let h = honest.requests r (record { info = q; progress = Waiting x cs }) at in
    let shown : u.scene.shows q.name ≡ Some h.0 = ap (λ s. s.shows q.name) scene ∙ h.1 in
    let is = waits_none u q x y cs ds h.0 (decided u cs) (ap (λ p. answered_with u q x cs p (decided u cs)) (sym shown) ∙ e) in
    subst (λ zs. decided u zs ≡ None) is.0 is.1
progress_none w u r q (Answered a) y ds honest scene at e = absurd cc
progress_none w u r q Dropped y ds honest scene at e = absurd cc

settled_still : (w u : World) → IsHonestWorld w → u.scene ≡ w.scene → u.requests ≡ w.requests → IsSettled (settled u)
settled_still w u honest scene same = record {
  flights = λ f l c at.
      let y = get_mapped (resumed u) u.flights f _ at in
      settled_knows u c ∙ resumed_none u y.0.stage c (ap (λ (z : Flight). z.stage) y.2);
  requests = λ r q x cs at.
      let y = get_mapped (answered u) u.requests r _ at in
      let info : y.0.info ≡ q = ap (λ (z : RequestRow). z.info) y.2 in
      all_settled u cs ∙ progress_none w u r y.0.info y.0.progress x cs honest scene (ap (λ qs. slice_get qs r) (sym same) ∙ y.1)
      (ap (λ (z : RequestRow). z.progress) y.2);
}

-- Want

first_none : (w v : World) (who : Caller) (rest : List Caller) (cs : List ℕ) → v.calls ≡ w.calls ++ map fresh (who ∷ rest) →
    decided v (length w.calls ∷ cs) ≡ None
first_none w v who rest cs same = first_open v (length w.calls) cs
    (ap (λ (z : Option Call). z >>= (λ (k : Call). known_by v.flights k.state))
    (ap (λ xs. slice_get xs (length w.calls)) same ∙ get_end w.calls (fresh who) (map fresh rest)))

waits_same : (x y : Resolved) (cs ds : List ℕ) → Waiting x cs ≡ Waiting y ds → cs ≡ ds
waits_same x y cs ds e = cc

want_still : (w : World) (n : Node) (p : Picture) (q : RequestInfo) (x : Result Resolved Refusal) → IsSettled w →
    ((r : Resolved) → x ≡ Ok r → ¬ (items w.scene q.name p r ≡ [])) → IsSettled (after_want w n p q x)
want_still w n p q (Err e) due some = record {
  flights = λ f l c at. due.flights f l c at;
  requests = λ r y x cs at. ⊎_elim
      (λ (new : (r ≡ length w.requests) × (record { info = y; progress = Waiting x cs } ≡ _)).
      absurd (no_answer x cs _ (ap (λ (z : RequestRow). z.progress) new.1)))
      (λ (was : slice_get w.requests r ≡ Some (record { info = y; progress = Waiting x cs })). due.requests r y x cs was)
      (end_cases w.requests r (record { info = y; progress = Waiting x cs }) _ at);
}
  where
    no_answer : (x : Resolved) (cs : List ℕ) (a : _) → Waiting x cs ≡ Answered a → ⊥
    no_answer x cs a e = cc
want_still w n p q (Ok r) due some = by (items w.scene q.name p r) (some r refl)
  where
    by : (keys : List Key) → ¬ (keys ≡ []) → IsSettled (record w {
      requests = w.requests ++ record { info = q; progress = Waiting r (numbers (length w.calls) keys) } ∷ [];
      calls = w.calls ++ map fresh (map (call_for q.node n (ForRequest (length w.requests))) keys);
    })
    by [] not_none = absurd (not_none refl)
    by (k ∷ keys) not_none =
        let whos = map (call_for q.node n (ForRequest (length w.requests))) (k ∷ keys) in
        let row : RequestRow = record { info = q; progress = Waiting r (numbers (length w.calls) (k ∷ keys)) } in
        let v = record w { requests = w.requests ++ row ∷ []; calls = w.calls ++ map fresh whos } in
        let more = no_more w v (flights_same w.flights) (calls_more w v whos refl) in
        record {
          flights = λ f l c at. not_known w v more c (due.flights f l c at);
          requests = λ i y x cs at. ⊎_elim
              (λ (new : (i ≡ length w.requests) × (record { info = y; progress = Waiting x cs } ≡ row)).
              subst (λ zs. decided v zs ≡ None) (sym (waits_same x r cs _ (ap (λ (z : RequestRow). z.progress) new.1)))
              (first_none w v (call_for q.node n (ForRequest (length w.requests)) k) _ _ refl))
              (λ (was : slice_get w.requests i ≡ Some (record { info = y; progress = Waiting x cs })).
              decided_none v w refl more cs (due.requests i y x cs was))
              (end_cases w.requests i (record { info = y; progress = Waiting x cs }) row at);
        }

-- Stop

stopped_tells : (i : ℕ) (x : Flight) (s : Stage) → x.stage ≡ s → (b : Bool) →
    ((if b then record { lead = x.lead; stage = stage_stopped s } else x) ≡ x) ⊎
    (outcome_of (if b then record { lead = x.lead; stage = stage_stopped s } else x).stage ≡ None)
stopped_tells i x s e false = inl refl
stopped_tells i x (Ended o) e true = inl (ap (λ z. record { lead = x.lead; stage = z }) (sym e))
stopped_tells i x New e true = inr refl
stopped_tells i x Looked e true = inr refl
stopped_tells i x Asking e true = inr refl
stopped_tells i x (Fallback c) e true = inr refl
stopped_tells i x (Parts cs) e true = inr refl
stopped_tells i x (Ready o p) e true = inr refl

stopped_waits : (s : Stage) (c : ℕ) → stage_stopped s ≡ Fallback (Some c) → ⊥
stopped_waits (Ended o) c e = cc
stopped_waits New c e = cc
stopped_waits Looked c e = cc
stopped_waits Asking c e = cc
stopped_waits (Fallback d) c e = cc
stopped_waits (Parts cs) c e = cc
stopped_waits (Ready o p) c e = cc

stopped_from : (x : Flight) (b : Bool) (l : Lead) (c : ℕ) →
    (if b then record { lead = x.lead; stage = stage_stopped x.stage } else x) ≡ record { lead = l; stage = Fallback (Some c) } →
    x ≡ record { lead = l; stage = Fallback (Some c) }
stopped_from x true l c e = absurd (stopped_waits x.stage c (ap (λ (z : Flight). z.stage) e))
stopped_from x false l c e = e

gone_tells : (fs : List Flight) (x : Call) (b : Bool) → ((if b then record { caller = x.caller; state = Gone } else x) ≡ x) ⊎
    (known_by fs (if b then record { caller = x.caller; state = Gone } else x).state ≡ None)
gone_tells fs x true = inr refl
gone_tells fs x false = inl refl

dropped_waits : (x : Progress) (r : Resolved) (cs : List ℕ) → progress_stopped x ≡ Waiting r cs → ⊥
dropped_waits (Waiting y ds) r cs e = cc
dropped_waits (Answered a) r cs e = cc
dropped_waits Dropped r cs e = cc

dropped_from : (x : RequestRow) (b : Bool) (q : RequestInfo) (r : Resolved) (cs : List ℕ) →
    (if b then record { info = x.info; progress = progress_stopped x.progress } else x) ≡ record { info = q; progress = Waiting r cs } →
    x ≡ record { info = q; progress = Waiting r cs }
dropped_from x true q r cs e = absurd (dropped_waits x.progress r cs (ap (λ (z : RequestRow). z.progress) e))
dropped_from x false q r cs e = e

stop_still : (w : World) (i : ℕ) (n : Node) → IsSettled w → IsSettled (after_stop w i n)
stop_still w i n due =
    let v = after_stop w i n in
    let flights : FlightsTellNoMore w.flights v.flights = λ g y at.
    let x = get_mapped (flight_stopped i) w.flights g y at in
    ⊎_elim
    (λ (same : flight_stopped i x.0 ≡ x.0). inl (x.1 ∙ ap Some (sym same ∙ x.2)))
    (λ (e : outcome_of (flight_stopped i x.0).stage ≡ None). inr (sym (ap (λ (z : Flight). outcome_of z.stage) x.2) ∙ e))
    (stopped_tells i x.0 x.0.stage refl (x.0.lead.node == i)) in
    let calls : CallsTellNoMore w v = λ c y at.
    let x = get_mapped (call_stopped i) w.calls c y at in
    ⊎_elim
    (λ (same : call_stopped i x.0 ≡ x.0). inl (x.1 ∙ ap Some (sym same ∙ x.2)))
    (λ (e : known_by v.flights (call_stopped i x.0).state ≡ None). inr (sym (ap (λ (z : Call). known_by v.flights z.state) x.2) ∙ e))
    (gone_tells v.flights x.0 (x.0.caller.node == i)) in
    let more = no_more w v flights calls in
    record {
      flights = λ f l c at.
          let x = get_mapped (flight_stopped i) w.flights f _ at in
          not_known w v more c (due.flights f l c (x.1 ∙ ap Some (stopped_from x.0 (x.0.lead.node == i) l c x.2)));
      requests = λ r q y cs at.
          let x = get_mapped (request_stopped i) w.requests r _ at in
          decided_none v w refl more cs (due.requests r q y cs (x.1 ∙ ap Some (dropped_from x.0 (x.0.info.node == i) q y cs x.2)));
    }

-- All

same_still : (w v : World) → IsSettled w → v.scene ≡ w.scene → v.flights ≡ w.flights → CallsTellNoMore w v → v.requests ≡ w.requests →
    IsSettled v
same_still w v due scene same calls requests = still w v due scene
    (λ g y at. inl (ap (λ fs. slice_get fs g) (sym same) ∙ at)) calls
    (λ f l c at. inl (ap (λ fs. slice_get fs f) (sym same) ∙ at)) requests

led_still : (w v : World) (c : ℕ) (who : Caller) (l : Lead) → IsSettled w → v.scene ≡ w.scene →
    v.flights ≡ w.flights ++ record { lead = l; stage = New } ∷ [] →
    v.calls ≡ slice_set w.calls c (record { caller = who; state = In (length w.flights) }) → v.requests ≡ w.requests → IsSettled v
led_still w v c who l due scene same calls requests =
    let row : Flight = record { lead = l; stage = New } in
    still w v due scene
    (λ g y at. ⊎_elim
    (λ (x : (g ≡ length w.flights) × (y ≡ row)). inr (ap (λ (z : Flight). outcome_of z.stage) x.1))
    (λ (x : slice_get w.flights g ≡ Some y). inl x)
    (end_cases w.flights g y row (ap (λ fs. slice_get fs g) (sym same) ∙ at)))
    (calls_set w v c who (In (length w.flights)) calls
    (ap tells (ap (λ fs. slice_get fs (length w.flights)) same ∙ get_end w.flights row [])))
    (λ g m d at. ⊎_elim
    (λ (x : (g ≡ length w.flights) × (record { lead = m; stage = Fallback (Some d) } ≡ row)).
    absurd (new_waits d (sym (ap (λ (z : Flight). z.stage) x.1))))
    (λ (x : Flies w g m (Fallback (Some d))). inl x)
    (end_cases w.flights g _ row (ap (λ fs. slice_get fs g) (sym same) ∙ at)))
    requests
  where
    new_waits : (d : ℕ) → New ≡ Fallback (Some d) → ⊥
    new_waits d e = cc

fresh_last : (w v : World) (who : Caller) (c : ℕ) → v.calls ≡ w.calls ++ map fresh (who ∷ []) →
    Fallback (Some (length w.calls)) ≡ Fallback (Some c) → learned v c ≡ None
fresh_last w v who c same e =
    let number : length w.calls ≡ c = cc in
    subst (λ z. learned v z ≡ None) number
    (ap (λ (z : Option Call). z >>= (λ (k : Call). known_by v.flights k.state))
    (ap (λ xs. slice_get xs (length w.calls)) same ∙ get_end w.calls (fresh who) []))

calls_same : (w v : World) → v.calls ≡ w.calls → CallsTellNoMore w v
calls_same w v same c x at = inl (ap (λ cs. slice_get cs c) (sym same) ∙ at)

ready_waits : (o : Outcome) (p : Place) (c : ℕ) → Ready o p ≡ Fallback (Some c) → ⊥
ready_waits o p c e = cc

parts_wait : (cs : List ℕ) (c : ℕ) → Parts cs ≡ Fallback (Some c) → ⊥
parts_wait cs c e = cc

-- a plan has an item
abbrev PlansAreSome : World → Type 0
PlansAreSome w = (name : List ℕ) (q : Request) (p : Picture) (r : Resolved) → w.scene.shows name ≡ Some p → resolved w.scene p q ≡ Ok r →
    ¬ (items w.scene name p r ≡ [])

due_by : (w v : World) (e : Event) → IsHonestWorld w → PlansAreSome w → IsSettled w → Does w e v → IsSettled v
due_by w _ _ honest some due (wanted i name q n p stands shown) =
    want_still w n p (record { node = i; name = name; request = q }) (resolved w.scene p q) due (λ r is. some name q p r shown is)
due_by w _ _ honest some due (found c who n x at stands is) =
    settled_still w (with_state (with_node w who.node (entered_node n who)) c who (Hit x)) honest refl refl
due_by w _ _ honest some due (joined c who n f at stands is first) =
    let y = position_found (is_open_for who) w.flights f first in
    let opens = (and_parts (is_open y.0.stage) _ y.2).0 in
    let v = with_state (with_node w who.node (entered_node n who)) c who (In f) in
    same_still w v due refl refl (calls_set w v c who (In f) refl (ap tells y.1 ∙ open_tells y.0.stage opens)) refl
due_by w _ _ honest some due (led c who n m at stands is) = led_still w _ c who (lead_of who m) due refl refl refl refl
due_by w _ _ honest some due (looked f l n at stands) =
    let r = again (table_at n l.key) l.key l.class l.ticket in
    set_still w (after_look w f l n r) f l (stage_found r.0) due refl refl (found_tells r.0) (λ c e. absurd (found_waits r.0 c e))
    (calls_same w (after_look w f l n r) refl) refl
due_by w _ _ honest some due (asked f l n o at stands wide is) =
    set_still w _ f l Asking due refl refl refl (λ c e. absurd (no_wait c e)) (λ c x h. inl h) refl
  where
    no_wait : (c : ℕ) → Asking ≡ Fallback (Some c) → ⊥
    no_wait c e = cc
due_by w _ _ honest some due (served a q n at stands) =
    same_still w (with_calls w (caller_serving a q ∷ [])) due refl refl
    (calls_more w (with_calls w (caller_serving a q ∷ [])) (caller_serving a q ∷ []) refl) refl
due_by w _ _ honest some due (replied c who s a o at is knows) = record { flights = due.flights; requests = due.requests }
due_by w _ _ honest some due (taken f r l x at there) =
    let new = stage_taken l.key x.key x.outcome in
    set_still w (with_stage w f l new) f l new due refl refl (taken_tells l.key x.key x.outcome)
    (λ c e. absurd (taken_waits l.key x.key x.outcome c e))
    (calls_same w (with_stage w f l new) refl) refl
due_by w _ _ honest some due (late f r l o at) = due
due_by w _ _ honest some due (lost f l at) =
    set_still w (with_stage w f l (Fallback None)) f l (Fallback None) due refl refl refl (λ c e. absurd (no_wait c e))
    (calls_same w (with_stage w f l (Fallback None)) refl) refl
  where
    no_wait : (c : ℕ) → Fallback None ≡ Fallback (Some c) → ⊥
    no_wait c e = cc
due_by w _ _ honest some due (gone_local f l at) =
    let who : Caller = record { node = l.node; key = l.key; class = Local; purpose = ForFallback f } in
    let u = with_stage w f l (Fallback (Some (length w.calls))) in
    let v = with_calls u (who ∷ []) in
    set_still w v f l (Fallback (Some (length w.calls))) due refl refl refl (λ c e. fresh_last w v who c refl e)
    (calls_more w v (who ∷ []) refl) refl
due_by w _ _ honest some due (read f l n at stands is none) =
    let new = Ready (Ok (meaning w.scene l.key)) Main in
    set_still w (with_stage w f l new) f l new due refl refl refl (λ c e. absurd (ready_waits _ _ c e))
    (calls_same w (with_stage w f l new) refl) refl
due_by w _ _ honest some due (split f l n ks at stands is parts) =
    let new = Parts (numbers (length w.calls) ks) in
    let whos = map (call_for l.node n (ForPart f)) ks in
    let v = with_calls (with_stage w f l new) whos in
    set_still w v f l new due refl refl refl (λ c e. absurd (parts_wait _ c e)) (calls_more w v whos refl) refl
due_by w _ _ honest some due (merged f l cs os at is know) =
    let new = Ready (outcome_from w.scene l.key (collected os)) Main in
    set_still w (with_stage w f l new) f l new due refl refl refl (λ c e. absurd (ready_waits _ _ c e))
    (calls_same w (with_stage w f l new) refl) refl
due_by w _ _ honest some due (failed f x l at is none) =
    let u = with_given w (record { node = l.node; name = name_of l.key; fault = x }) in
    let new = Ready (Err x) Main in
    set_still w (with_stage u f l new) f l new due refl refl refl (λ c e. absurd (ready_waits _ _ c e))
    (calls_same w (with_stage u f l new) refl) refl
due_by w _ _ honest some due (landed f kept l n o p at stands) =
    settled_still w (with_stage (with_node w l.node (landed_node n l o p kept)) f l (Ended (Some o))) honest refl refl
due_by w _ _ honest some due (evicted i keys n stands) = record { flights = due.flights; requests = due.requests }
due_by w _ _ honest some due (stopped i n stands) = stop_still w i n due

pub each_stays_settled : EachStaysSettled
each_stays_settled w v e proper sound due h = due_by w v e sound.honest
    (λ name q p r shown is. no_plan_is_empty w.scene name p q r proper (record { shown = shown; solved = is })) due (does w v e h)

pub new_is_settled : NewIsSettled
new_is_settled s nodes = record { flights = λ f l c at. absurd (none-some _ at); requests = λ r q x cs at. absurd (none-some _ at) }
