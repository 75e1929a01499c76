-- What an event does to rows: which flights, requests and faults it leaves, and which it makes.
use Rattle.std.proofs.Common.{◌≡◌, ◌⊎◌, inl, inr, ⊎_elim, ℕ, zero, suc, List, [], ◌∷◌, ◌++◌, append_assoc, map, length, Option, Some, None}
use Rattle.std.proofs.Common.{refl, sym, ap, subst, ◌∙◌}
use Rattle.std.specs.Prelude.{slice_get, slice_set}
use Rattle.std.proofs.lemmas.List.{length-map}
use Rattle.iiif_machine.specs.Keys.{name_of}
use Rattle.iiif_machine.specs.Types.{Key, Picture, Resolved}
use Rattle.iiif_machine.specs.Tables.{Outcome, Nowhere}
use Rattle.iiif_machine.specs.Rows.{Node, Given, Purpose, Caller, CallState, Fresh, Hit, In, Gone, Call, Lead, Stage, New, Looked, Asking}
use Rattle.iiif_machine.specs.Rows.{Fallback, Parts, Ready, Ended, Flight, RequestInfo, Progress, Waiting, Answered, Dropped, RequestRow}
use Rattle.iiif_machine.specs.Worlds.{World, ◌>>=◌, with_calls, call_for, numbers, outcome_of, known_by, learned, decided, ready_with}
use Rattle.iiif_machine.specs.Worlds.{resumed_stage, resumed, answered_with, progressed, answered, settled}
use Rattle.iiif_machine.specs.Steps.{Event, Want, Enter, Again, AskPeer, Serve, Take, Lose, GoLocal, Load, SourceFault, Land, Evict, Stop}
use Rattle.iiif_machine.specs.declared.events.Event.TheVariants as event
use Rattle.iiif_machine.specs.Sound.{Kept, facts, caller_of, AreFor, StageIsOwn, ProgressIsOwn}
use Rattle.iiif_machine.specs.Promises.{RowsStay}
use Rattle.iiif_machine.specs.Origins.{MakesReady, OwnCallKnows}
use Rattle.iiif_machine.proofs.Lists.{get_end}
use Rattle.iiif_machine.proofs.Changes.{length_more, callers_more}
use Rattle.iiif_machine.proofs.Learning.{get_mapped}
use Rattle.iiif_machine.proofs.Registers.{set_cases, end_cases}

-- a stage that an event gives to a flight: what it waits for is its own, and what makes it ready is that event
abbrev pub NewStage : World → Event → World → ℕ → Stage → Type 0
NewStage w e v g New = Unit {0}
NewStage w e v g Looked = Unit {0}
NewStage w e v g Asking = Unit {0}
NewStage w e v g (Fallback c) = StageIsOwn (facts v).callers g (Fallback c)
NewStage w e v g (Parts cs) = StageIsOwn (facts v).callers g (Parts cs)
NewStage w e v g (Ready o p) = MakesReady w v g o p e
NewStage w e v g (Ended o) = Unit {0}

-- each flight was there at its stage, or the event gave it
abbrev pub FlightsFrom : World → Event → World → Type 0
FlightsFrom w e v = (g : ℕ) (y : Flight) → slice_get v.flights g ≡ Some y → (slice_get w.flights g ≡ Some y) ⊎ NewStage w e v g y.stage

abbrev pub RequestsAreOwn : World → Type 0
RequestsAreOwn w = (r : ℕ) (x : RequestRow) → slice_get w.requests r ≡ Some x → ProgressIsOwn (facts w).callers r x.progress

-- the faults that are given after an event
abbrev pub Gives : World → List Given → Event → Type 0
Gives w given (SourceFault f x) = (l : Lead) × (slice_get (facts w).leads f ≡ Some l) ×
    (given ≡ w.given ++ record { node = l.node; name = name_of l.key; fault = x } ∷ [])
Gives w given (Want i name q) = given ≡ w.given
Gives w given (Enter c) = given ≡ w.given
Gives w given (Again f) = given ≡ w.given
Gives w given (AskPeer f) = given ≡ w.given
Gives w given (Serve a) = given ≡ w.given
Gives w given (event.Reply c) = given ≡ w.given
Gives w given (Take f r) = given ≡ w.given
Gives w given (Lose f) = given ≡ w.given
Gives w given (GoLocal f) = given ≡ w.given
Gives w given (Load f) = given ≡ w.given
Gives w given (Land f kept) = given ≡ w.given
Gives w given (Evict i keys) = given ≡ w.given
Gives w given (Stop i) = given ≡ w.given

pub record HasEffect (w : World) (e : Event) (v : World) : Type 0 where
  pub rows : RowsStay w v
  pub given : Gives w v.given e
  pub flights : FlightsFrom w e v
  pub requests : RequestsAreOwn w → RequestsAreOwn v

-- Flights

pub flights_same : (w : World) (e : Event) (v : World) → v.flights ≡ w.flights → FlightsFrom w e v
flights_same w e v same g y at = inl (ap (λ fs. slice_get fs g) (sym same) ∙ at)

pub flights_set : (w : World) (e : Event) (v : World) (f : ℕ) (l : Lead) (s : Stage) →
    v.flights ≡ slice_set w.flights f (record { lead = l; stage = s }) →
    NewStage w e v f s → FlightsFrom w e v
flights_set w e v f l s same is g y at =
    let row : Flight = record { lead = l; stage = s } in
    ⊎_elim
    (λ (x : (g ≡ f) × (y ≡ row)). inr (subst (λ (z : Flight). NewStage w e v g z.stage) (sym x.1)
    (subst (λ j. NewStage w e v j s) (sym x.0) is)))
    (λ (x : slice_get w.flights g ≡ Some y). inl x)
    (set_cases w.flights f g y row (ap (λ fs. slice_get fs g) (sym same) ∙ at))

pub flights_more : (w : World) (e : Event) (v : World) (l : Lead) → v.flights ≡ w.flights ++ record { lead = l; stage = New } ∷ [] →
    FlightsFrom w e v
flights_more w e v l same g y at =
    let row : Flight = record { lead = l; stage = New } in
    ⊎_elim
    (λ (x : (g ≡ length w.flights) × (y ≡ row)). inr (subst (λ (z : Flight). NewStage w e v g z.stage) (sym x.1) tt))
    (λ (x : slice_get w.flights g ≡ Some y). inl x)
    (end_cases w.flights g y row (ap (λ fs. slice_get fs g) (sym same) ∙ at))

-- what is known before and after all have seen what calls know

ready_knows : (s : Stage) (x : Option Outcome) → outcome_of s ≡ None → outcome_of (ready_with s x) ≡ None
ready_knows s None e = e
ready_knows s (Some o) e = refl

stage_knows : (w : World) (s : Stage) → outcome_of (resumed_stage w s) ≡ outcome_of s
stage_knows w New = refl
stage_knows w Looked = refl
stage_knows w Asking = refl
stage_knows w (Fallback None) = refl
stage_knows w (Fallback (Some c)) = ready_knows (Fallback (Some c)) (learned w c) refl
stage_knows w (Parts cs) = refl
stage_knows w (Ready o p) = refl
stage_knows w (Ended o) = refl

flight_knows : (w : World) (fs : List Flight) (f : ℕ) →
    (slice_get (map (resumed w) fs) f >>= (λ (x : Flight). outcome_of x.stage)) ≡ (slice_get fs f >>= (λ (x : Flight). outcome_of x.stage))
flight_knows w [] f = refl
flight_knows w (x ∷ fs) zero = stage_knows w x.stage
flight_knows w (x ∷ fs) (suc f) = flight_knows w fs f

state_knows : (w : World) (s : CallState) → known_by (settled w).flights s ≡ known_by w.flights s
state_knows w Fresh = refl
state_knows w (Hit v) = refl
state_knows w (In f) = flight_knows w w.flights f
state_knows w Gone = refl

call_knows : (w : World) (x : Option Call) → (x >>= (λ (c : Call). known_by (settled w).flights c.state)) ≡
    (x >>= (λ (c : Call). known_by w.flights c.state))
call_knows w None = refl
call_knows w (Some c) = state_knows w c.state

pub settled_knows : (w : World) (c : ℕ) → learned (settled w) c ≡ learned w c
settled_knows w c = call_knows w (slice_get w.calls c)

abbrev OwnMakes : World → Event → World → Type 0
OwnMakes w e v = (g : ℕ) (o : Outcome) → OwnCallKnows w v g o → NewStage w e v g (Ready o Nowhere)

resumed_by : (w : World) (e : Event) (u : World) (g : ℕ) (l : Lead) (c : ℕ) (x : Option Outcome) → learned u c ≡ x →
    OwnMakes w e (settled u) →
    slice_get w.flights g ≡ Some (record { lead = l; stage = Fallback (Some c) }) →
    (slice_get w.flights g ≡ Some (record { lead = l; stage = ready_with (Fallback (Some c)) x })) ⊎
    NewStage w e (settled u) g (ready_with (Fallback (Some c)) x)
resumed_by w e u g l c None knows makes at = inl at
resumed_by w e u g l c (Some o) knows makes at = inr (makes g o (l, c, at, settled_knows u c ∙ knows))

resumed_from : (w : World) (e : Event) (u : World) (g : ℕ) (l : Lead) (s : Stage) → OwnMakes w e (settled u) →
    slice_get w.flights g ≡ Some (record { lead = l; stage = s }) →
    (slice_get w.flights g ≡ Some (record { lead = l; stage = resumed_stage u s })) ⊎ NewStage w e (settled u) g (resumed_stage u s)
resumed_from w e u g l New makes at = inl at
resumed_from w e u g l Looked makes at = inl at
resumed_from w e u g l Asking makes at = inl at
resumed_from w e u g l (Fallback None) makes at = inl at
resumed_from w e u g l (Fallback (Some c)) makes at = resumed_by w e u g l c (learned u c) refl makes at
resumed_from w e u g l (Parts cs) makes at = inl at
resumed_from w e u g l (Ready o p) makes at = inl at
resumed_from w e u g l (Ended o) makes at = inl at

abbrev pub HasEnded : Stage → Type 0
HasEnded s = (o : Option Outcome) × (s ≡ Ended o)

pub flights_settled : (w : World) (e : Event) (u : World) →
    ((g : ℕ) (y : Flight) → slice_get u.flights g ≡ Some y → (slice_get w.flights g ≡ Some y) ⊎ HasEnded y.stage) →
    OwnMakes w e (settled u) → FlightsFrom w e (settled u)
flights_settled w e u from makes g y at =
    let x = get_mapped (resumed u) u.flights g y at in
    subst (λ (z : Flight). (slice_get w.flights g ≡ Some z) ⊎ NewStage w e (settled u) g z.stage) x.2
    (⊎_elim
    (λ (was : slice_get w.flights g ≡ Some x.0). resumed_from w e u g x.0.lead x.0.stage makes was)
    (λ (was : HasEnded x.0.stage). inr (subst (λ s. NewStage w e (settled u) g (resumed_stage u s)) (sym was.1) tt))
    (from g x.0 x.1))

-- Calls that are made for one purpose

are_for_new : (before : List Caller) (node : ℕ) (n : Node) (p : Purpose) (ks : List Key) →
    AreFor (before ++ map (call_for node n p) ks) p (numbers (length before) ks)
are_for_new before node n p [] = tt
are_for_new before node n p (k ∷ ks) =
    let who = call_for node n p k in
    let rest = map (call_for node n p) ks in
    let more = are_for_new (before ++ who ∷ []) node n p ks in
    let moved : AreFor (before ++ who ∷ rest) p (numbers (length (before ++ who ∷ [])) ks) =
    subst (λ cs. AreFor cs p (numbers (length (before ++ who ∷ [])) ks)) (append_assoc before (who ∷ []) rest) more in
    ((who, get_end before who rest, refl), subst (λ m. AreFor (before ++ who ∷ rest) p (numbers m ks)) (length_more before who) moved)

pub calls_for : (w : World) (node : ℕ) (n : Node) (p : Purpose) (ks : List Key) →
    AreFor (facts (with_calls w (map (call_for node n p) ks))).callers p (numbers (length w.calls) ks)
calls_for w node n p ks =
    let whos = map (call_for node n p) ks in
    let all : AreFor ((facts w).callers ++ whos) p (numbers (length (facts w).callers) ks) = are_for_new (facts w).callers node n p ks in
    let numbered : AreFor ((facts w).callers ++ whos) p (numbers (length w.calls) ks) =
    subst (λ m. AreFor ((facts w).callers ++ whos) p (numbers m ks)) (length-map w.calls caller_of) all in
    subst (λ cs. AreFor cs p (numbers (length w.calls) ks)) (sym (callers_more w whos)) numbered

pub are_for_later : (xs ys : List Caller) (p : Purpose) (cs : List ℕ) → Kept xs ys → AreFor xs p cs → AreFor ys p cs
are_for_later xs ys p [] kept h = tt
are_for_later xs ys p (c ∷ cs) kept h = ((h.0.0, kept c h.0.0 h.0.1, h.0.2), are_for_later xs ys p cs kept h.1)

pub stage_own_later : (xs ys : List Caller) (f : ℕ) (s : Stage) → Kept xs ys → StageIsOwn xs f s → StageIsOwn ys f s
stage_own_later xs ys f New kept h = tt
stage_own_later xs ys f Looked kept h = tt
stage_own_later xs ys f Asking kept h = tt
stage_own_later xs ys f (Fallback None) kept h = tt
stage_own_later xs ys f (Fallback (Some c)) kept h = are_for_later xs ys _ (c ∷ []) kept h
stage_own_later xs ys f (Parts cs) kept h = are_for_later xs ys _ cs kept h
stage_own_later xs ys f (Ready o p) kept h = tt
stage_own_later xs ys f (Ended o) kept h = tt

pub progress_own_later : (xs ys : List Caller) (r : ℕ) (x : Progress) → Kept xs ys → ProgressIsOwn xs r x → ProgressIsOwn ys r x
progress_own_later xs ys r (Waiting q cs) kept h = are_for_later xs ys _ cs kept h
progress_own_later xs ys r (Answered a) kept h = tt
progress_own_later xs ys r Dropped kept h = tt

-- Requests

pub requests_same : (w v : World) → v.requests ≡ w.requests → Kept (facts w).callers (facts v).callers → RequestsAreOwn w → RequestsAreOwn v
requests_same w v same kept h r x at = progress_own_later (facts w).callers (facts v).callers r x.progress kept
    (h r x (ap (λ qs. slice_get qs r) (sym same) ∙ at))

answered_own : (cs : List Caller) (w : World) (q : RequestInfo) (z : Resolved) (ds : List ℕ) (r : ℕ) (x : Option Picture)
    (y : Option (List Outcome)) →
    ProgressIsOwn cs r (Waiting z ds) → ProgressIsOwn cs r (answered_with w q z ds x y)
answered_own cs w q z ds r (Some p) (Some os) h = tt
answered_own cs w q z ds r (Some p) None h = h
answered_own cs w q z ds r None (Some os) h = h
answered_own cs w q z ds r None None h = h

progressed_own : (cs : List Caller) (w : World) (q : RequestInfo) (r : ℕ) (x : Progress) → ProgressIsOwn cs r x →
    ProgressIsOwn cs r (progressed w q x)
progressed_own cs w q r (Waiting z ds) h = answered_own cs w q z ds r (w.scene.shows q.name) (decided w ds) h
progressed_own cs w q r (Answered a) h = tt
progressed_own cs w q r Dropped h = tt

pub requests_settled : (w u : World) → u.requests ≡ w.requests → Kept (facts w).callers (facts u).callers → RequestsAreOwn w →
    RequestsAreOwn (settled u)
requests_settled w u same kept h r x at =
    let q = get_mapped (answered u) u.requests r x at in
    subst (λ (z : RequestRow). ProgressIsOwn (facts u).callers r z.progress) q.2
    (progressed_own (facts u).callers u q.0.info r q.0.progress
    (progress_own_later (facts w).callers (facts u).callers r q.0.progress kept (h r q.0 (ap (λ qs. slice_get qs r) (sym same) ∙ q.1))))

pub requests_more : (w v : World) (q : RequestInfo) (p : Progress) → v.requests ≡ w.requests ++ record { info = q; progress = p } ∷ [] →
    Kept (facts w).callers (facts v).callers →
    ProgressIsOwn (facts v).callers (length w.requests) p → RequestsAreOwn w → RequestsAreOwn v
requests_more w v q p same kept is h r x at =
    let row : RequestRow = record { info = q; progress = p } in
    ⊎_elim
    (λ (y : (r ≡ length w.requests) × (x ≡ row)).
    subst (λ (z : RequestRow). ProgressIsOwn (facts v).callers r z.progress) (sym y.1)
    (subst (λ j. ProgressIsOwn (facts v).callers j p) (sym y.0) is))
    (λ (y : slice_get w.requests r ≡ Some x). progress_own_later (facts w).callers (facts v).callers r x.progress kept (h r x y))
    (end_cases w.requests r x row (ap (λ qs. slice_get qs r) (sym same) ∙ at))
