-- Where landings, asks, calls and answers come from and go.
use Rattle.std.proofs.Common.{◌≡◌, ◌⊎◌, inl, inr, ⊎_elim, ℕ, zero, suc, ◌<◌, List, [], ◌∷◌, ◌++◌, map, length, Bool, true, false}
use Rattle.std.proofs.Common.{Option, Some, None, Result, Ok, Err, refl, sym, ap}
use Rattle.std.proofs.Common.{subst, ◌∙◌, if◌then◌else◌}
use Rattle.std.specs.Prelude.{slice_get, slice_set, ◌==◌}
use Rattle.std.specs.Str.{bytes_eq}
use Rattle.std.proofs.lemmas.Option.{none-some, same_Some}
use Rattle.std.proofs.lemmas.Slice.Eq.{bytes_eq-Decides}
use Rattle.iiif_ring.specs.Owner.{IsOwner}
use Rattle.iiif_ring.proofs.Owners.{IsOwner-unique}
use Rattle.iiif_machine.specs.Keys.{key_bytes}
use Rattle.iiif_machine.specs.Plans.{resolved, items}
use Rattle.iiif_machine.proofs.Deciding.{KnowSame, decided_same}
use Rattle.iiif_machine.proofs.Lists.{get_map}
use Rattle.iiif_machine.specs.Types.{Key, Picture, Request, Resolved, Refusal}
use Rattle.iiif_machine.specs.Tables.{Wide, Local, Outcome, Place}
use Rattle.iiif_machine.specs.Rows.{Node, Purpose, ForRequest, ForPart, ForFallback, Caller, CallState, Fresh, Hit, In}
use Rattle.iiif_machine.specs.Rows.{Lead}
use Rattle.iiif_machine.specs.Rows.{Fallback, Parts, Ready, Ended, Flight, RequestInfo, Answer, Refused, Progress, Waiting}
use Rattle.iiif_machine.specs.Rows.{Answered, Dropped, RequestRow}
use Rattle.iiif_machine.specs.Worlds.{World, owner_of, class_at, call_for, decided, collected, answer_from}
use Rattle.iiif_machine.specs.Worlds.{answered_with}
use Rattle.iiif_machine.specs.Worlds.{progressed, answered, settled, with_calls, with_node, with_stage, with_state, with_request, numbers}
use Rattle.iiif_machine.specs.Steps.{Event, Want, Enter, Serve, GoLocal, Load, Land}
use Rattle.iiif_machine.specs.Steps.{after_want, after_land, caller_serving, call_stopped, progress_stopped, request_stopped, step}
use Rattle.iiif_machine.specs.Sound.{facts, caller_of, lead_in, card_of, IsPlaced}
use Rattle.iiif_machine.specs.Frames.{IsLanded, LandsBy, AsksItsOwner, AsksOwner, IsClassed, MakesCall}
use Rattle.iiif_machine.specs.Frames.{CallHasOrigin, CallsHaveOrigins}
use Rattle.iiif_machine.specs.Frames.{IsCollected, IsRefusedBy, AnswerHasOrigin, AnswersHaveOrigins}
use Rattle.iiif_machine.proofs.Changes.{callers_more}
use Rattle.iiif_machine.proofs.Effects.{settled_knows}
use Rattle.iiif_machine.proofs.Learning.{bind_inv, get_mapped}
use Rattle.iiif_machine.proofs.Lists.{map_set, position_found}
use Rattle.iiif_machine.proofs.Registers.{end_cases}
use Rattle.iiif_machine.proofs.RingOwners.{owner_is_the_rings}
use Rattle.iiif_machine.proofs.Stops.{caller_by}
use Rattle.iiif_machine.proofs.Doing.{Flies, landed_node, entered_node, Does, wanted, found, joined, led, looked, asked}
use Rattle.iiif_machine.proofs.Doing.{served, replied, taken, late, lost, gone_local, read}
use Rattle.iiif_machine.proofs.Doing.{split, merged, failed, landed, evicted, stopped, does}

-- Landing

node_set : (w : World) (f : ℕ) (l : Lead) (m : Node) (o : Outcome) →
    (settled (with_stage (with_node w l.node m) f l (Ended (Some o)))).nodes ≡ slice_set w.nodes l.node m
node_set w f l m o = refl

landing : (w v : World) (f : ℕ) (l : Lead) (n : Node) (o : Outcome) (p : Place) (kept : Bool) →
    after_land w f l n kept (Ready o p) ≡ Some v →
    v.nodes ≡ slice_set w.nodes l.node (landed_node n l o p kept)
landing w v f l n o p kept h = ap (λ (x : World). x.nodes) (sym (same_Some _ v h)) ∙ node_set w f l (landed_node n l o p kept) o

landed_by : (w v : World) (f : ℕ) (kept : Bool) (l : Lead) (o : Outcome) (p : Place) → Flies w f l (Ready o p) →
    step w (Land f kept) ≡ Some v →
    IsLanded w v l o p kept
unfolding step
landed_by w v f kept l o p at h =
    let x = bind_inv (slice_get w.flights f) _ v h in
    let n = bind_inv (slice_get w.nodes x.0.lead.node) _ v x.2 in
    let row : Flight = record { lead = l; stage = Ready o p } in
    let same : x.0 ≡ row = same_Some x.0 row (sym x.1 ∙ at) in
    let stands : slice_get w.nodes l.node ≡ Some n.0 = subst (λ (y : Flight). slice_get w.nodes y.lead.node ≡ Some n.0) same n.1 in
    (n.0, stands, landing w v f l n.0 o p kept (subst (λ (y : Flight). after_land w f y.lead n.0 kept y.stage ≡ Some v) same n.2))

pub lands_by : LandsBy
lands_by w v e h f kept l o p is at = landed_by w v f kept l o p at (subst (λ (x : Event). step w x ≡ Some v) is h)

-- Asking

has_ring : (w : World) (i : ℕ) (n : Node) → IsPlaced w → slice_get w.nodes i ≡ Some n → 0 < length n.ring
has_ring w i n placed at = (placed.rings i (card_of n) (get_map card_of w.nodes i n at)).0

owns : (n : Node) (k : Key) → 0 < length n.ring → IsOwner n.ring (key_bytes k) (owner_of n k)
unfolding owner_of
owns n k some = owner_is_the_rings n.ring (key_bytes k) some

wanted_asks : (w : World) (n : Node) (p : Picture) (q : RequestInfo) (x : Result Resolved Refusal) → (after_want w n p q x).asks ≡ w.asks
wanted_asks w n p q (Err e) = refl
wanted_asks w n p q (Ok r) = refl

asks : (w v : World) (e : Event) → IsPlaced w → Does w e v → AsksItsOwner w e v
asks w _ _ placed (wanted i name q n p stands shown) =
    wanted_asks w n p (record { node = i; name = name; request = q }) (resolved w.scene p q)
asks w _ _ placed (found c who n x at stands is) = refl
asks w _ _ placed (joined c who n f at stands is first) = refl
asks w _ _ placed (led c who n m at stands is) = refl
asks w _ _ placed (looked f l n at stands) = refl
asks w _ _ placed (served a q n at stands) = refl
asks w _ _ placed (replied c who s a o at is knows) = refl
asks w _ _ placed (taken f r l x at there) = refl
asks w _ _ placed (late f r l o at) = refl
asks w _ _ placed (lost f l at) = refl
asks w _ _ placed (gone_local f l at) = refl
asks w _ _ placed (read f l n at stands is none) = refl
asks w _ _ placed (split f l n ks at stands is some) = refl
asks w _ _ placed (merged f l cs os at is know) = refl
asks w _ _ placed (failed f x l at is none) = refl
asks w _ _ placed (landed f kept l n o p at stands) = refl
asks w _ _ placed (evicted i keys n stands) = refl
asks w _ _ placed (stopped i n stands) = refl
asks w _ _ placed (asked f l n o at stands wide is) =
    let m = position_found (λ z. bytes_eq z.name (owner_of n l.key)) w.nodes o is in
    let named : m.0.name ≡ owner_of n l.key = (bytes_eq-Decides m.0.name (owner_of n l.key)).0 m.2 in (
      l,
      n,
      _,
      m.0,
      at,
      stands,
      refl,
      refl,
      refl,
      m.1,
      subst (IsOwner n.ring (key_bytes l.key)) (sym named) (owns n l.key (has_ring w l.node n placed stands)),
    )

pub asks_owner : AsksOwner
asks_owner w v e placed h = asks w v e placed (does w v e h)

-- Calls that are made

class_by : (n : Node) (k : Key) (b : Bool) → 0 < length n.ring → bytes_eq (owner_of n k) n.name ≡ b →
    IsClassed n k (if b then Local else Wide)
class_by n k true some e = (
  λ _. subst (IsOwner n.ring (key_bytes k)) ((bytes_eq-Decides (owner_of n k) n.name).0 e) (owns n k some),
  λ _. refl,
)
class_by n k false some e = (
  λ h. absurd cc,
  λ is.
      let same : owner_of n k ≡ n.name = IsOwner-unique n.ring n.ring (key_bytes k) (owner_of n k) n.name (λ name. (λ x. x, λ x. x))
      (owns n k some) is in
      let yes = (bytes_eq-Decides (owner_of n k) n.name).1 same in
      absurd cc,
)

classed : (n : Node) (k : Key) → 0 < length n.ring → IsClassed n k (class_at n k)
classed n k some = class_by n k (bytes_eq (owner_of n k) n.name) some refl

pub append_cases : {A : Type 0} (xs ys : List A) (c : ℕ) (x : A) → slice_get (xs ++ ys) c ≡ Some x →
    (slice_get xs c ≡ Some x) ⊎ ((j : ℕ) × (slice_get ys j ≡ Some x))
append_cases [] ys c x h = inr (c, h)
append_cases (y ∷ xs) ys zero x h = inl h
append_cases (y ∷ xs) ys (suc c) x h = append_cases xs ys c x h

-- what stands among calls to which some were added, each of which this event makes
made : (w u : World) (e : Event) (whos : List Caller) → u.calls ≡ w.calls →
    ((j : ℕ) (who : Caller) → slice_get whos j ≡ Some who → MakesCall w who e) →
    CallHasOrigin w e (with_calls u whos)
made w u e whos same makes c who at =
    ⊎_elim
    (λ (old : slice_get (facts u).callers c ≡ Some who). inl (ap (λ cs. slice_get (map caller_of cs) c) (sym same) ∙ old))
    (λ (new : (j : ℕ) × (slice_get whos j ≡ Some who)). inr (makes new.0 who new.1))
    (append_cases (facts u).callers whos c who (ap (λ cs. slice_get cs c) (sym (callers_more u whos)) ∙ at))

made_of : (w : World) (e : Event) (i : ℕ) (n : Node) (p : Purpose) (ks : List Key) →
    ((k : Key) → MakesCall w (call_for i n p k) e) → (j : ℕ) (who : Caller) → slice_get (map (call_for i n p) ks) j ≡ Some who →
    MakesCall w who e
made_of w e i n p ks is j who at =
    let k = get_mapped (call_for i n p) ks j who at in
    subst (λ (z : Caller). MakesCall w z e) k.2 (is k.0)

one_made : (w : World) (e : Event) (one : Caller) → MakesCall w one e → (j : ℕ) (who : Caller) → slice_get (one ∷ []) j ≡ Some who →
    MakesCall w who e
one_made w e one is zero who at = subst (λ (z : Caller). MakesCall w z e) (same_Some one who at) is
one_made w e one is (suc j) who at = absurd (none-some who at)

state_made : (w : World) (e : Event) (c : ℕ) (who : Caller) (s : CallState) (d : ℕ) (x : Caller) →
    slice_get w.calls c ≡ Some (record { caller = who; state = Fresh }) →
    slice_get (map caller_of (slice_set w.calls c (record { caller = who; state = s }))) d ≡ Some x →
    (slice_get (facts w).callers d ≡ Some x) ⊎ MakesCall w x e
state_made w e c who s d x there at = inl (ap (λ cs. slice_get cs d)
    (sym (map_set caller_of w.calls c (record { caller = who; state = Fresh }) (record { caller = who; state = s }) there refl)) ∙ at)

wanting : (w : World) (i : ℕ) (name : _) (q : Request) (n : Node) (p : Picture) (x : Result Resolved Refusal) → 0 < length n.ring →
    slice_get w.nodes i ≡ Some n →
    CallHasOrigin w (Want i name q) (after_want w n p (record { node = i; name = name; request = q }) x)
wanting w i name q n p (Err e) some at = λ c who h. inl h
wanting w i name q n p (Ok r) some at =
    let own : RequestInfo = record { node = i; name = name; request = q } in
    let keys = items w.scene name p r in
    made w (with_request w own (Waiting r (numbers (length w.calls) keys))) (Want i name q) _ refl
    (made_of w (Want i name q) i n (ForRequest (length w.requests)) (items w.scene name p r)
    (λ k. (refl, (n, at, refl, classed n k some))))

calls_from : (w v : World) (e : Event) → IsPlaced w → Does w e v → CallHasOrigin w e v
calls_from w _ _ placed (wanted i name q n p stands shown) =
    wanting w i name q n p (resolved w.scene p q) (has_ring w i n placed stands) stands
calls_from w _ _ placed (found c who n x at stands is) = λ d y h. state_made w (Enter c) c who (Hit x) d y at h
calls_from w _ _ placed (joined c who n f at stands is first) = λ d y h. state_made w (Enter c) c who (In f) d y at h
calls_from w _ _ placed (led c who n m at stands is) = λ d y h. state_made w (Enter c) c who (In (length w.flights)) d y at h
calls_from w _ _ placed (looked f l n at stands) = λ c who h. inl h
calls_from w _ _ placed (asked f l n o at stands wide is) = λ c who h. inl h
calls_from w _ _ placed (served a q n at stands) =
    made w w (Serve a) (caller_serving a q ∷ []) refl (one_made w (Serve a) (caller_serving a q) (refl, refl, (q, at, refl, refl)))
calls_from w _ _ placed (replied c who s a o at is knows) = λ c who h. inl h
calls_from w _ _ placed (taken f r l x at there) = λ c who h. inl h
calls_from w _ _ placed (late f r l o at) = λ c who h. inl h
calls_from w _ _ placed (lost f l at) = λ c who h. inl h
calls_from w _ _ placed (gone_local f l at) =
    made w (with_stage w f l (Fallback (Some (length w.calls)))) (GoLocal f) (_ ∷ []) refl (one_made w (GoLocal f)
    (record { node = l.node; key = l.key; class = Local; purpose = ForFallback f })
    (refl, refl, (l, get_map lead_in w.flights f _ at, refl, refl)))
calls_from w _ _ placed (read f l n at stands is none) = λ c who h. inl h
calls_from w _ _ placed (split f l n ks at stands is some) =
    made w (with_stage w f l (Parts (numbers (length w.calls) ks))) (Load f) _ refl (made_of w (Load f) l.node n (ForPart f) ks
    (λ k. (refl, (l, get_map lead_in w.flights f _ at, (n, stands, refl, classed n k (has_ring w l.node n placed stands))))))
calls_from w _ _ placed (merged f l cs os at is know) = λ c who h. inl h
calls_from w _ _ placed (failed f x l at is none) = λ c who h. inl h
calls_from w _ _ placed (landed f kept l n o p at stands) = λ c who h. inl h
calls_from w _ _ placed (evicted i keys n stands) = λ c who h. inl h
calls_from w _ _ placed (stopped i n stands) = λ c who h.
    let x = get_mapped caller_of (map (call_stopped i) w.calls) c who h in
    let y = get_mapped (call_stopped i) w.calls c x.0 x.1 in
    inl (get_map caller_of w.calls c y.0 y.1 ∙ ap Some (sym (caller_by y.0 (y.0.caller.node == i)) ∙ ap caller_of y.2 ∙ x.2))

pub calls_have_origins : CallsHaveOrigins
calls_have_origins w v e placed h = calls_from w v e placed (does w v e h)

-- Answers

abbrev Answers : World → ℕ → RequestInfo → Answer → Type 0
Answers w r q a = slice_get w.requests r ≡ Some (record { info = q; progress = Answered a })

abbrev Comes : World → Event → World → ℕ → RequestInfo → Answer → Type 0
Comes w e v r q a = Answers w r q a ⊎ (IsRefusedBy w e r q a ⊎ IsCollected w v r q a)

abbrev info_in : RequestRow → RequestInfo
info_in x = x.info

abbrev progress_of : RequestRow → Progress
progress_of x = x.progress

waiting_answered : (x : Resolved) (cs : List ℕ) (a : Answer) → Waiting x cs ≡ Answered a → ⊥
waiting_answered x cs a h = cc

dropped_answered : (a : Answer) → Dropped ≡ Answered a → ⊥
dropped_answered a h = cc

answered_same : (a b : Answer) → Answered a ≡ Answered b → a ≡ b
answered_same a b h = cc

new_answers : (w : World) (i : ℕ) (name : _) (q : Request) (n : Node) (p : Picture) (x : Result Resolved Refusal) →
    AnswerHasOrigin w (Want i name q) (after_want w n p (record { node = i; name = name; request = q }) x)
new_answers w i name q n p (Err e) r y a h =
    let own : RequestInfo = record { node = i; name = name; request = q } in
    let row : RequestRow = record { info = y; progress = Answered a } in
    ⊎_elim
    (λ (new : (r ≡ length w.requests) × (row ≡ record { info = own; progress = Answered (Refused e) })).
    inr (inl (
      ap (λ (z : RequestInfo). Want z.node z.name z.request) (sym (ap info_in new.1)),
      new.0,
      (e, answered_same a (Refused e) (ap progress_of new.1)),
    )))
    (λ (old : slice_get w.requests r ≡ Some row). inl old)
    (end_cases w.requests r row (record { info = own; progress = Answered (Refused e) }) h)
new_answers w i name q n p (Ok x) r y a h =
    let row : RequestRow = record { info = y; progress = Answered a } in
    ⊎_elim
    (λ (new : (r ≡ length w.requests) × (row ≡ _)). absurd (waiting_answered x _ a (sym (ap progress_of new.1))))
    (λ (old : slice_get w.requests r ≡ Some row). inl old)
    (end_cases w.requests r row _ h)

knows_settled : (u : World) (cs : List ℕ) → KnowSame (settled u) u cs
knows_settled u [] = tt
knows_settled u (c ∷ cs) = (settled_knows u c, knows_settled u cs)

pub all_settled : (u : World) (cs : List ℕ) → decided (settled u) cs ≡ decided u cs
all_settled u cs = decided_same (settled u) u cs refl (knows_settled u cs)

waited : (w u : World) (e : Event) (r : ℕ) (q : RequestInfo) (x : Resolved) (cs : List ℕ) (a : Answer) (y : Option Picture)
    (z : Option (List Outcome)) →
    u.scene ≡ w.scene → slice_get w.requests r ≡ Some (record { info = q; progress = Waiting x cs }) → w.scene.shows q.name ≡ y →
    decided u cs ≡ z →
    answered_with u q x cs y z ≡ Answered a → Comes w e (settled u) r q a
waited w u e r q x cs a (Some p) (Some os) same at shown know h =
    inr (inr (
      p,
      x,
      cs,
      os,
      at,
      shown,
      all_settled u cs ∙ know,
      sym (answered_same _ a h) ∙ ap (λ s. answer_from s p x (collected os)) same,
    ))
waited w u e r q x cs a (Some p) None same at shown know h = absurd (waiting_answered x cs a h)
waited w u e r q x cs a None (Some os) same at shown know h = absurd (waiting_answered x cs a h)
waited w u e r q x cs a None None same at shown know h = absurd (waiting_answered x cs a h)

progressing : (w u : World) (e : Event) (r : ℕ) (q : RequestInfo) (x : Progress) (a : Answer) → u.scene ≡ w.scene →
    slice_get w.requests r ≡ Some (record { info = q; progress = x }) → progressed u q x ≡ Answered a → Comes w e (settled u) r q a
progressing w u e r q (Waiting x cs) a same at h =
    waited w u e r q x cs a (u.scene.shows q.name) (decided u cs) same at (ap (λ s. s.shows q.name) (sym same)) refl h
progressing w u e r q (Answered b) a same at h =
    inl (at ∙ ap (λ z. Some (record { info = q; progress = Answered z })) (answered_same b a h))
progressing w u e r q Dropped a same at h = absurd (dropped_answered a h)

settled_answers : (w u : World) (e : Event) → u.scene ≡ w.scene → u.requests ≡ w.requests → AnswerHasOrigin w e (settled u)
settled_answers w u e scene same r q a h =
    let x = get_mapped (answered u) u.requests r _ h in
    subst (λ (z : RequestInfo). Comes w e (settled u) r z a) (ap info_in x.2)
    (progressing w u e r x.0.info x.0.progress a scene (ap (λ qs. slice_get qs r) (sym same) ∙ x.1) (ap progress_of x.2))

stopped_answers : (x : Progress) (a : Answer) → progress_stopped x ≡ Answered a → x ≡ Answered a
stopped_answers (Waiting r cs) a h = absurd (dropped_answered a h)
stopped_answers (Answered b) a h = h
stopped_answers Dropped a h = absurd (dropped_answered a h)

stopped_by : (x : RequestRow) (b : Bool) (q : RequestInfo) (a : Answer) →
    (if b then record { info = x.info; progress = progress_stopped x.progress } else x) ≡ record { info = q; progress = Answered a } →
    x ≡ record { info = q; progress = Answered a }
stopped_by x false q a h = h
stopped_by x true q a h =
    ap (λ (y : RequestInfo). record { info = y; progress = x.progress }) (ap info_in h)
    ∙ ap (λ (y : Progress). record { info = q; progress = y }) (stopped_answers x.progress a (ap progress_of h))

answers_from : (w v : World) (e : Event) → Does w e v → AnswerHasOrigin w e v
answers_from w _ _ (wanted i name q n p stands shown) = new_answers w i name q n p (resolved w.scene p q)
answers_from w _ _ (found c who n x at stands is) =
    settled_answers w (with_state (with_node w who.node (entered_node n who)) c who (Hit x)) (Enter c) refl refl
answers_from w _ _ (landed f kept l n o p at stands) =
    settled_answers w (with_stage (with_node w l.node (landed_node n l o p kept)) f l (Ended (Some o))) (Land f kept) refl refl
answers_from w _ _ (stopped i n stands) = λ r q a h.
    let x = get_mapped (request_stopped i) w.requests r _ h in
    inl (x.1 ∙ ap Some (stopped_by x.0 (x.0.info.node == i) q a x.2))
answers_from w _ _ (joined c who n f at stands is first) = λ r q a h. inl h
answers_from w _ _ (led c who n m at stands is) = λ r q a h. inl h
answers_from w _ _ (looked f l n at stands) = λ r q a h. inl h
answers_from w _ _ (asked f l n o at stands wide is) = λ r q a h. inl h
answers_from w _ _ (served b y n at stands) = λ r q a h. inl h
answers_from w _ _ (replied c who s b o at is knows) = λ r q a h. inl h
answers_from w _ _ (taken f y l x at there) = λ r q a h. inl h
answers_from w _ _ (late f y l o at) = λ r q a h. inl h
answers_from w _ _ (lost f l at) = λ r q a h. inl h
answers_from w _ _ (gone_local f l at) = λ r q a h. inl h
answers_from w _ _ (read f l n at stands is none) = λ r q a h. inl h
answers_from w _ _ (split f l n ks at stands is some) = λ r q a h. inl h
answers_from w _ _ (merged f l cs os at is know) = λ r q a h. inl h
answers_from w _ _ (failed f x l at is none) = λ r q a h. inl h
answers_from w _ _ (evicted i keys n stands) = λ r q a h. inl h

pub answers_have_origins : AnswersHaveOrigins
answers_have_origins w v e h = answers_from w v e (does w v e h)
