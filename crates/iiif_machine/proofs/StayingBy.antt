-- Calls that have entered, and requests that wait, stay: by cases of what is done.
use Rattle.std.proofs.Common.{◌≡◌, ℕ, List, map, length, Bool, true, false, Option, Some, None, Result, Ok, Err, refl, sym}
use Rattle.std.proofs.Common.{ap, subst, ◌∙◌, ◌⊎◌, inl, inr}
use Rattle.std.proofs.Common.{⊎_elim, if◌then◌else◌}
use Rattle.std.specs.Prelude.{slice_get, slice_set, ◌==◌}
use Rattle.std.proofs.lemmas.Bool.{eqb-true}
use Rattle.std.proofs.lemmas.Option.{same_Some}
use Rattle.iiif_machine.specs.Plans.{resolved}
use Rattle.iiif_machine.proofs.Lists.{get_left, get_map}
use Rattle.iiif_machine.specs.Types.{Picture, Resolved, Refusal}
use Rattle.iiif_machine.specs.Tables.{Outcome}
use Rattle.iiif_machine.specs.Rows.{Node, Caller, CallState, Fresh, Hit, In, Gone, Call, RequestInfo, Answer, Waiting, Answered}
use Rattle.iiif_machine.specs.Rows.{Dropped, Ended}
use Rattle.iiif_machine.specs.Worlds.{World, answered_with, decided, answered, settled, with_node, with_stage, with_state}
use Rattle.iiif_machine.specs.Steps.{Event, Want, Stop, Enter, Land, after_want, after_stop, call_stopped, request_stopped}
use Rattle.iiif_machine.specs.Frames.{HasEntered, CallsStay, EachCallStays, RequestsStay, EachRequestStays}
use Rattle.iiif_machine.proofs.Registers.{set_found}
use Rattle.iiif_machine.proofs.Doing.{Calls, entered_node, landed_node, Does, wanted, found, joined, led, looked, asked, served}
use Rattle.iiif_machine.proofs.Doing.{replied, taken, late, lost}
use Rattle.iiif_machine.proofs.Doing.{gone_local, read}
use Rattle.iiif_machine.proofs.Doing.{split, merged, failed, landed, evicted, stopped, does}

-- one state is set, where a fresh one was
set_stays : (w : World) (i : ℕ) (own : Caller) (x : CallState) → Calls w i own Fresh → (c : ℕ) (who : Caller) (s : CallState) →
    HasEntered s → Calls w c who s →
    slice_get (slice_set w.calls i (record { caller = own; state = x })) c ≡ Some (record { caller = who; state = s })
set_stays w i own x there c who s h at = ⊎_elim
    (λ (q : (c ≡ i) × _).
    let none : HasEntered Fresh = subst HasEntered (ap (λ (z : Call). z.state) (same_Some (record { caller = who; state = s }) _
    (sym at ∙ ap (slice_get w.calls) q.0 ∙ there))) h in
    absurd none)
    (λ (q : slice_get _ c ≡ Some (record { caller = who; state = s })). q)
    (set_found w.calls i c (record { caller = who; state = s }) (record { caller = own; state = x }) at)

gone_by : (calls : List Call) (c : ℕ) (who : Caller) (s : CallState) (i : ℕ) (b : Bool) → (who.node == i) ≡ b →
    slice_get calls c ≡ Some (if b then record { caller = who; state = Gone } else record { caller = who; state = s }) →
    (slice_get calls c ≡ Some (record { caller = who; state = s })) ⊎
    ((Stop i ≡ Stop who.node) × (slice_get calls c ≡ Some (record { caller = who; state = Gone })))
gone_by calls c who s i true own at = inr (ap Stop (sym (eqb-true who.node i own)), at)
gone_by calls c who s i false own at = inl at

new_stay : (w : World) (e : Event) (n : Node) (p : Picture) (q : RequestInfo) (x : Result Resolved Refusal) →
    CallsStay w e (after_want w n p q x)
new_stay w e n p q (Err f) = λ c who s h at. inl at
new_stay w e n p q (Ok r) = λ c who s h at. inl (get_left w.calls _ c _ at)

stay_by : (w v : World) (e : Event) → Does w e v → CallsStay w e v
stay_by w _ _ (wanted i name q n p stands shown) =
    new_stay w (Want i name q) n p (record { node = i; name = name; request = q }) (resolved w.scene p q)
stay_by w _ _ (found d own n x at stands is) = λ c who s h was. inl (set_stays w d own (Hit x) at c who s h was)
stay_by w _ _ (joined d own n f at stands is first) = λ c who s h was. inl (set_stays w d own (In f) at c who s h was)
stay_by w _ _ (led d own n m at stands is) = λ c who s h was. inl (set_stays w d own (In (length w.flights)) at c who s h was)
stay_by w _ _ (looked f l n at stands) = λ c who s h was. inl was
stay_by w _ _ (asked f l n o at stands wide is) = λ c who s h was. inl was
stay_by w _ _ (served a q n at stands) = λ c who s h was. inl (get_left w.calls _ c _ was)
stay_by w _ _ (replied d own t a o at is knows) = λ c who s h was. inl was
stay_by w _ _ (taken f r l x at there) = λ c who s h was. inl was
stay_by w _ _ (late f r l o at) = λ c who s h was. inl was
stay_by w _ _ (lost f l at) = λ c who s h was. inl was
stay_by w _ _ (gone_local f l at) = λ c who s h was. inl (get_left w.calls _ c _ was)
stay_by w _ _ (read f l n at stands is none) = λ c who s h was. inl was
stay_by w _ _ (split f l n ks at stands is some) = λ c who s h was. inl (get_left w.calls _ c _ was)
stay_by w _ _ (merged f l cs os at is know) = λ c who s h was. inl was
stay_by w _ _ (failed f x l at is none) = λ c who s h was. inl was
stay_by w _ _ (landed f kept l n o p at stands) = λ c who s h was. inl was
stay_by w _ _ (evicted i keys n stands) = λ c who s h was. inl was
stay_by w _ _ (stopped i n stands) = λ c who s h was. gone_by (map (call_stopped i) w.calls) c who s i (who.node == i) refl
    (get_map (call_stopped i) w.calls c (record { caller = who; state = s }) was)

-- Requests

abbrev Waits : World → Event → World → ℕ → RequestInfo → Resolved → List ℕ → Type 0
Waits w e v r q x cs = (slice_get v.requests r ≡ Some (record { info = q; progress = Waiting x cs })) ⊎
    (((a : Answer) × (slice_get v.requests r ≡ Some (record { info = q; progress = Answered a }))) ⊎
    ((e ≡ Stop q.node) × (slice_get v.requests r ≡ Some (record { info = q; progress = Dropped }))))

-- a request that sees what its calls know waits on, or is answered
seen : (u : World) (q : RequestInfo) (x : Resolved) (cs : List ℕ) (p : Option Picture) (k : Option (List Outcome)) →
    (answered_with u q x cs p k ≡ Waiting x cs) ⊎ ((a : Answer) × (answered_with u q x cs p k ≡ Answered a))
seen u q x cs (Some p) (Some os) = inr (_, refl)
seen u q x cs (Some p) None = inl refl
seen u q x cs None (Some os) = inl refl
seen u q x cs None None = inl refl

settled_waits : (w u : World) (e : Event) → u.requests ≡ w.requests → RequestsStay w e (settled u)
settled_waits w u e same r q x cs at =
    let row = get_map (answered u) u.requests r (record { info = q; progress = Waiting x cs }) (ap (λ qs. slice_get qs r) same ∙ at) in
    ⊎_elim
    (λ (h : answered_with u q x cs (u.scene.shows q.name) (decided u cs) ≡ Waiting x cs).
    inl (row ∙ ap (λ p. Some (record { info = q; progress = p })) h))
    (λ (h : (a : Answer) × (answered_with u q x cs (u.scene.shows q.name) (decided u cs) ≡ Answered a)).
    inr (inl (h.0, row ∙ ap (λ p. Some (record { info = q; progress = p })) h.1)))
    (seen u q x cs (u.scene.shows q.name) (decided u cs))

dropped_by : (w v : World) (r : ℕ) (q : RequestInfo) (x : Resolved) (cs : List ℕ) (i : ℕ) (b : Bool) → (q.node == i) ≡ b →
    slice_get v.requests r
    ≡ Some (if b then record { info = q; progress = Dropped } else record { info = q; progress = Waiting x cs }) →
    Waits w (Stop i) v r q x cs
dropped_by w v r q x cs i true own at = inr (inr (ap Stop (sym (eqb-true q.node i own)), at))
dropped_by w v r q x cs i false own at = inl at

new_waits : (w : World) (e : Event) (n : Node) (p : Picture) (q : RequestInfo) (x : Result Resolved Refusal) →
    RequestsStay w e (after_want w n p q x)
new_waits w e n p q (Err f) = λ r y x cs at. inl (get_left w.requests _ r _ at)
new_waits w e n p q (Ok x) = λ r y z cs at. inl (get_left w.requests _ r _ at)

wait_by : (w v : World) (e : Event) → Does w e v → RequestsStay w e v
wait_by w _ _ (wanted i name q n p stands shown) =
    new_waits w (Want i name q) n p (record { node = i; name = name; request = q }) (resolved w.scene p q)
wait_by w _ _ (found c who n x at stands is) =
    settled_waits w (with_state (with_node w who.node (entered_node n who)) c who (Hit x)) (Enter c) refl
wait_by w _ _ (landed f kept l n o p at stands) =
    settled_waits w (with_stage (with_node w l.node (landed_node n l o p kept)) f l (Ended (Some o))) (Land f kept) refl
wait_by w _ _ (stopped i n stands) = λ r q x cs at.
    dropped_by w (after_stop w i n) r q x cs i (q.node == i) refl
    (get_map (request_stopped i) w.requests r (record { info = q; progress = Waiting x cs }) at)
wait_by w _ _ (joined d own n f at stands is first) = λ r q x cs was. inl was
wait_by w _ _ (led d own n m at stands is) = λ r q x cs was. inl was
wait_by w _ _ (looked f l n at stands) = λ r q x cs was. inl was
wait_by w _ _ (asked f l n o at stands wide is) = λ r q x cs was. inl was
wait_by w _ _ (served a y n at stands) = λ r q x cs was. inl was
wait_by w _ _ (replied d own t a o at is knows) = λ r q x cs was. inl was
wait_by w _ _ (taken f y l z at there) = λ r q x cs was. inl was
wait_by w _ _ (late f y l o at) = λ r q x cs was. inl was
wait_by w _ _ (lost f l at) = λ r q x cs was. inl was
wait_by w _ _ (gone_local f l at) = λ r q x cs was. inl was
wait_by w _ _ (read f l n at stands is none) = λ r q x cs was. inl was
wait_by w _ _ (split f l n ks at stands is some) = λ r q x cs was. inl was
wait_by w _ _ (merged f l ds os at is know) = λ r q x cs was. inl was
wait_by w _ _ (failed f z l at is none) = λ r q x cs was. inl was
wait_by w _ _ (evicted i keys n stands) = λ r q x cs was. inl was

pub each_request_stays_by : EachRequestStays
each_request_stays_by w v e h = wait_by w v e (does w v e h)

pub each_call_stays_by : EachCallStays
each_call_stays_by w v e h = stay_by w v e (does w v e h)
