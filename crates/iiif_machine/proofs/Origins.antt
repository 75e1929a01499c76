-- How flights become ready, where faults come from, and what a call joins.
use Rattle.std.proofs.Common.{◌≡◌, ◌⊎◌, inl, inr, ⊎_elim, ℕ, zero, suc, List, [], ◌∷◌, length, true, Some, Err, refl, sym, ap, subst, ◌∙◌}
use Rattle.std.specs.Prelude.{slice_get, slice_set, position}
use Rattle.std.proofs.lemmas.Option.{none-some, same_Some}
use Rattle.std.proofs.lemmas.Bool.{and_parts}
use Rattle.iiif_machine.specs.Keys.{name_of}
use Rattle.iiif_machine.specs.Types.{Value, ReadFault}
use Rattle.iiif_machine.specs.Tables.{Table, Outcome, Place, Entered, finds, joins, leads, enter}
use Rattle.iiif_machine.specs.Rows.{Node, Given, Caller, CallState, Fresh, Hit, In, Gone, Call, Stage, New, Looked, Asking, Fallback}
use Rattle.iiif_machine.specs.Rows.{Parts, Ready, Ended, Flight}
use Rattle.iiif_machine.specs.Worlds.{World, table_at}
use Rattle.iiif_machine.specs.Steps.{Event, Want, Enter, Again, AskPeer, Serve, Take, Lose, GoLocal, Load, SourceFault, Land, Evict, Stop}
use Rattle.iiif_machine.specs.Steps.{is_open, is_open_for, after_meeting, after_enter, step, run}
use Rattle.iiif_machine.specs.declared.events.Event.TheVariants as event
use Rattle.iiif_machine.specs.Sound.{Kept, facts, StageIsOwn, AwaitsItsOwn}
use Rattle.iiif_machine.specs.Promises.{After}
use Rattle.iiif_machine.specs.Origins.{PartsFail, MakesReady, ReadyHasOrigin, FlightsBecomeReady, IsOriginOf, FaultHasOrigin}
use Rattle.iiif_machine.specs.Origins.{FaultsHaveOrigins, JoinsOpen, IsGivenIn, GivenBy, EventsGive}
use Rattle.iiif_machine.proofs.Learning.{bind_inv}
use Rattle.iiif_machine.proofs.Lists.{position_found}
use Rattle.iiif_machine.proofs.Registers.{end_cases}
use Rattle.iiif_machine.proofs.Apart.{set_there}
use Rattle.iiif_machine.proofs.Effects.{NewStage, Gives, HasEffect, stage_own_later}
use Rattle.iiif_machine.proofs.EventEffects.{step_effect}

pub has_effect : (w v : World) (e : Event) → step w e ≡ Some v → HasEffect w e v
has_effect w v e is = subst (After (HasEffect w e)) is (step_effect w e)

-- Each flight and each request goes on waiting for its own calls.

own_new : (w v : World) (e : Event) (g : ℕ) (s : Stage) → NewStage w e v g s → StageIsOwn (facts v).callers g s
own_new w v e g New h = tt
own_new w v e g Looked h = tt
own_new w v e g Asking h = tt
own_new w v e g (Fallback c) h = h
own_new w v e g (Parts cs) h = h
own_new w v e g (Ready o p) h = tt
own_new w v e g (Ended o) h = tt

pub stays_own : (w v : World) (e : Event) → HasEffect w e v → AwaitsItsOwn w → AwaitsItsOwn v
stays_own w v e d h = record {
  flights = λ g y at.
      ⊎_elim
      (λ (was : slice_get w.flights g ≡ Some y).
      stage_own_later (facts w).callers (facts v).callers g y.stage d.rows.callers (h.flights g y was))
      (λ (new : NewStage w e v g y.stage). own_new w v e g y.stage new)
      (d.flights g y at);
  requests = d.requests h.requests;
}

-- Ready

pub ready_has_origin : (w v : World) (e : Event) → HasEffect w e v → ReadyHasOrigin w e v
ready_has_origin w v e d g l o p at = d.flights g _ at

pub flights_become_ready : FlightsBecomeReady
flights_become_ready w v e is = ready_has_origin w v e (has_effect w v e is)

one_fault : (o : Outcome) (y x : ReadFault) → o ≡ Err y → o ≡ Err x → y ≡ x
one_fault o y x e f = cc

fault_of : (w v : World) (g : ℕ) (x : ReadFault) (p : Place) (e : Event) → MakesReady w v g (Err x) p e → IsOriginOf w e v g x
fault_of w v g x p (Again f) h = absurd h.1
fault_of w v g x p (Take f r) h = absurd h.1
fault_of w v g x p (Load f) h = inr (inl (ap Load (sym h.0), subst (λ j. PartsFail w j x) (sym h.0) h.1))
fault_of w v g x p (SourceFault f y) h = inl (ap (λ j. SourceFault j y) (sym h.0) ∙ ap (SourceFault g) (one_fault (Err x) y x h.1 refl))
fault_of w v g x p (Enter c) h = inr (inr h.0)
fault_of w v g x p (Land f kept) h = inr (inr h.0)
fault_of w v g x p (Want i name q) h = absurd h
fault_of w v g x p (AskPeer f) h = absurd h
fault_of w v g x p (Serve a) h = absurd h
fault_of w v g x p (event.Reply c) h = absurd h
fault_of w v g x p (Lose f) h = absurd h
fault_of w v g x p (GoLocal f) h = absurd h
fault_of w v g x p (Evict i keys) h = absurd h
fault_of w v g x p (Stop i) h = absurd h

pub fault_has_origin : (w v : World) (e : Event) → HasEffect w e v → FaultHasOrigin w e v
fault_has_origin w v e d g l x p at =
    ⊎_elim
    (λ (was : slice_get w.flights g ≡ Some (record { lead = l; stage = Ready (Err x) p })). inl was)
    (λ (new : MakesReady w v g (Err x) p e). inr (fault_of w v g x p e new))
    (ready_has_origin w v e d g l (Err x) p at)

pub faults_have_origins : FaultsHaveOrigins
faults_have_origins w v e is = fault_has_origin w v e (has_effect w v e is)

-- Enter

one_flight : (f g : ℕ) → In f ≡ In g → f ≡ g
one_flight f g e = cc

entered_by : (w v : World) (c f : ℕ) (who : Caller) (n : Node) (x : Entered) (t : Table) (that : Caller) →
    slice_get w.calls c ≡ Some (record { caller = who; state = Fresh }) →
    after_meeting w c who n (x, t) ≡ Some v → slice_get v.calls c ≡ Some (record { caller = that; state = In f }) →
    ((y : Flight) × (slice_get w.flights f ≡ Some y) × (is_open y.stage ≡ true)) ⊎ (f ≡ length w.flights)
entered_by w v c f who n (finds u) t that at is there =
    let found : slice_get (slice_set w.calls c (record { caller = who; state = Hit u })) c ≡ Some (record { caller = that; state = In f }) =
    ap (λ (z : World). slice_get z.calls c) (same_Some _ v is) ∙ there in
    absurd (not_hit u f (ap (λ (z : Call). z.state)
    (same_Some _ _ (sym (set_there w.calls c _ (record { caller = who; state = Hit u }) at) ∙ found))))
  where
    not_hit : (u : Value) (f : ℕ) → Hit u ≡ In f → ⊥
    not_hit u f e = cc
entered_by w v c f who n joins t that at is there =
    let g = bind_inv (position (is_open_for who) w.flights) _ v is in
    let set : slice_get (slice_set w.calls c (record { caller = who; state = In g.0 })) c ≡ Some (record { caller = that; state = In f }) =
    ap (λ (z : World). slice_get z.calls c) (same_Some _ v g.2) ∙ there in
    let same : g.0 ≡ f = one_flight g.0 f (ap (λ (z : Call). z.state)
    (same_Some _ _ (sym (set_there w.calls c _ (record { caller = who; state = In g.0 }) at) ∙ set))) in
    let x = position_found (is_open_for who) w.flights g.0 g.1 in
    inl (x.0, ap (slice_get w.flights) (sym same) ∙ x.1, (and_parts (is_open x.0.stage) _ x.2).0)
entered_by w v c f who n (leads m) t that at is there =
    let set : slice_get (slice_set w.calls c (record { caller = who; state = In (length w.flights) })) c ≡ Some
    (record { caller = that; state = In f }) =
    ap (λ (z : World). slice_get z.calls c) (same_Some _ v is) ∙ there in
    inr (sym (one_flight (length w.flights) f (ap (λ (z : Call). z.state)
    (same_Some _ _ (sym (set_there w.calls c _ (record { caller = who; state = In (length w.flights) }) at) ∙ set)))))

entering_by : (w v : World) (c f : ℕ) (who : Caller) (n : Node) (x : CallState) (that : Caller) →
    slice_get w.calls c ≡ Some (record { caller = who; state = x }) →
    after_enter w c who n x ≡ Some v → slice_get v.calls c ≡ Some (record { caller = that; state = In f }) →
    ((y : Flight) × (slice_get w.flights f ≡ Some y) × (is_open y.stage ≡ true)) ⊎ (f ≡ length w.flights)
entering_by w v c f who n Fresh that at is there =
    let r = enter (table_at n who.key) who.key who.class in
    entered_by w v c f who n r.0 r.1 that at is there
entering_by w v c f who n (Hit u) that at is there = absurd (none-some v is)
entering_by w v c f who n (In g) that at is there = absurd (none-some v is)
entering_by w v c f who n Gone that at is there = absurd (none-some v is)

pub joins_open : JoinsOpen
unfolding step
joins_open w v c f who is there =
    let call = bind_inv (slice_get w.calls c) _ v is in
    let n = bind_inv (slice_get w.nodes call.0.caller.node) _ v call.2 in
    entering_by w v c f call.0.caller n.0 call.0.state who call.1 n.2 there

-- What events give

one_gives : (w v : World) (i : ℕ) (g : Given) (e : Event) → Gives w v.given e → Kept (facts w).leads (facts v).leads →
    slice_get v.given i ≡ Some g →
    (slice_get w.given i ≡ Some g) ⊎ IsGivenIn (e ∷ []) v g
one_gives w v i g (SourceFault f x) h kept at =
    let row : Given = record { node = h.0.node; name = name_of h.0.key; fault = x } in
    ⊎_elim
    (λ (y : (i ≡ length w.given) × (g ≡ row)).
    inr (record {
      place = 0;
      flight = f;
      lead = h.0;
      event = ap (λ (z : Given). Some (SourceFault f z.fault)) (sym y.1);
      led = kept f h.0 h.1;
      node = ap (λ (z : Given). z.node) (sym y.1);
      name = ap (λ (z : Given). z.name) (sym y.1);
    }))
    (λ (y : slice_get w.given i ≡ Some g). inl y)
    (end_cases w.given i g row (ap (λ gs. slice_get gs i) (sym h.2) ∙ at))
one_gives w v i g (Want j name q) h kept at = inl (ap (λ gs. slice_get gs i) (sym h) ∙ at)
one_gives w v i g (Enter c) h kept at = inl (ap (λ gs. slice_get gs i) (sym h) ∙ at)
one_gives w v i g (Again f) h kept at = inl (ap (λ gs. slice_get gs i) (sym h) ∙ at)
one_gives w v i g (AskPeer f) h kept at = inl (ap (λ gs. slice_get gs i) (sym h) ∙ at)
one_gives w v i g (Serve a) h kept at = inl (ap (λ gs. slice_get gs i) (sym h) ∙ at)
one_gives w v i g (event.Reply c) h kept at = inl (ap (λ gs. slice_get gs i) (sym h) ∙ at)
one_gives w v i g (Take f r) h kept at = inl (ap (λ gs. slice_get gs i) (sym h) ∙ at)
one_gives w v i g (Lose f) h kept at = inl (ap (λ gs. slice_get gs i) (sym h) ∙ at)
one_gives w v i g (GoLocal f) h kept at = inl (ap (λ gs. slice_get gs i) (sym h) ∙ at)
one_gives w v i g (Load f) h kept at = inl (ap (λ gs. slice_get gs i) (sym h) ∙ at)
one_gives w v i g (Land f kept_too) h kept at = inl (ap (λ gs. slice_get gs i) (sym h) ∙ at)
one_gives w v i g (Evict j keys) h kept at = inl (ap (λ gs. slice_get gs i) (sym h) ∙ at)
one_gives w v i g (Stop j) h kept at = inl (ap (λ gs. slice_get gs i) (sym h) ∙ at)

-- what is given in a part of a list is given in the list; the flights are there later too
given_later : (e : Event) (es : List Event) (u v : World) (g : Given) → Kept (facts u).leads (facts v).leads → IsGivenIn (e ∷ []) u g →
    IsGivenIn (e ∷ es) v g
given_later e es u v g kept h = record {
  place = 0;
  flight = h.flight;
  lead = h.lead;
  event =
      first e (SourceFault h.flight g.fault) h.place h.event;
  led = kept h.flight h.lead h.led;
  node = h.node;
  name = h.name;
}
  where
    first : (e x : Event) (i : ℕ) → slice_get (e ∷ []) i ≡ Some x → Some e ≡ Some x
    first e x zero at = at
    first e x (suc i) at = absurd (none-some x at)

given_more : (e : Event) (es : List Event) (v : World) (g : Given) → IsGivenIn es v g → IsGivenIn (e ∷ es) v g
given_more e es v g h = record {
  place = suc h.place;
  flight = h.flight;
  lead = h.lead;
  event = h.event;
  led = h.led;
  node = h.node;
  name =
      h.name;
}

abbrev RunGives : World → List Event → World → Type 0
RunGives w es v = Kept (facts w).leads (facts v).leads × GivenBy w es v

gives_more : (w u v : World) (e : Event) (es : List Event) → HasEffect w e u → RunGives u es v → RunGives w (e ∷ es) v
gives_more w u v e es d h = (
  λ i l at. h.0 i l (d.rows.leads i l at),
  λ i g at.
      ⊎_elim
      (λ (was : slice_get u.given i ≡ Some g).
      ⊎_elim
      (λ (first : slice_get w.given i ≡ Some g). inl first)
      (λ (new : IsGivenIn (e ∷ []) u g). inr (given_later e es u v g h.0 new))
      (one_gives w u i g e d.given d.rows.leads was))
      (λ (new : IsGivenIn es v g). inr (given_more e es v g new))
      (h.1 i g at),
)

run_gives : (w v : World) (es : List Event) → run w es ≡ Some v → RunGives w es v
unfolding run
run_gives w v [] is = (
  λ i l at. ap (λ (z : World). slice_get (facts z).leads i) (sym (same_Some w v is)) ∙ at,
  λ i g at. inl (ap (λ (z : World). slice_get z.given i) (same_Some w v is) ∙ at),
)
run_gives w v (e ∷ es) is =
    let u = bind_inv (step w e) (λ z. run z es) v is in
    gives_more w u.0 v e es (has_effect w u.0 e u.1) (run_gives u.0 v es u.2)

pub events_give : EventsGive
events_give w v es is = (run_gives w v es is).1
