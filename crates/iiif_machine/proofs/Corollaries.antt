-- What follows from the headline alone.
use Rattle.std.proofs.Common.{◌≡◌, inl, inr, ⊎_elim, ℕ, zero, suc, List, [], ◌∷◌, true, false, Some, Ok, Err}
use Rattle.std.proofs.Common.{sym, ap}
use Rattle.std.proofs.Common.{subst, ◌∙◌}
use Rattle.std.specs.Prelude.{slice_get}
use Rattle.std.proofs.lemmas.Option.{none-some, same_Some}
use Rattle.iiif_machine.specs.Types.{ReadFault}
use Rattle.iiif_machine.specs.Tables.{Outcome}
use Rattle.iiif_machine.specs.Rows.{Failed}
use Rattle.iiif_machine.specs.Worlds.{World}
use Rattle.iiif_machine.specs.Steps.{Event, Want, Enter, Again, AskPeer, Serve, Take, Lose, GoLocal, Load, SourceFault, Land, Evict, Stop}
use Rattle.iiif_machine.specs.declared.events.Event.TheVariants as event
use Rattle.iiif_machine.specs.Promises.{AnswersRight, fails_read, reads_fail, NoneFailed}
use Rattle.iiif_machine.specs.Origins.{PartsFail, MakesReady, ReadyHasOrigin, IsOriginOf, FaultHasOrigin, IsGivenIn, GivenBy}
use Rattle.iiif_machine.specs.Headline.{AtEach, HeadlineImplies}
use Rattle.iiif_machine.proofs.Apart.{one_outcome}
use Rattle.iiif_machine.proofs.Giving.{neither}

fault_or : Outcome → ReadFault → ReadFault
fault_or (Ok v) d = d
fault_or (Err x) d = x

-- `faults` follows from `ready`
faults_from_ready : (w : World) (e : Event) (v : World) → ReadyHasOrigin w e v → FaultHasOrigin w e v
unfolding fault_or
faults_from_ready w e v h g l x p at = ⊎_elim (λ was. inl was) (λ made. inr (origin e made)) (h g l (Err x) p at)
  where
    origin : (e : Event) → MakesReady w v g (Err x) p e → IsOriginOf w e v g x
    origin (Again f) m = absurd m.1
    origin (Take f r) m = absurd m.1
    origin (Load f) m = inr (inl (ap Load (sym m.0), subst (λ k. PartsFail w k x) (sym m.0) m.1))
    origin (SourceFault f y) m =
        let same : x ≡ y = ap (λ o. fault_or o x) m.1 in
        inl (ap (λ k. SourceFault k y) (sym m.0) ∙ ap (SourceFault g) (sym same))
    origin (Enter c) m = inr (inr m.0)
    origin (Land f kept) m = inr (inr m.0)
    origin (Want i name q) m = absurd m
    origin (AskPeer f) m = absurd m
    origin (Serve a) m = absurd m
    origin (event.Reply c) m = absurd m
    origin (Lose f) m = absurd m
    origin (GoLocal f) m = absurd m
    origin (Evict i keys) m = absurd m
    origin (Stop i) m = absurd m

is_quiet : (es : List Event) (i f : ℕ) (x : ReadFault) → reads_fail es ≡ false → slice_get es i ≡ Some (SourceFault f x) → ⊥
is_quiet [] i f x quiet at = none-some _ at
is_quiet (e ∷ es) zero f x quiet at =
    let fails : true ≡ false = ap fails_read (sym (same_Some e (SourceFault f x) at)) ∙ (neither (fails_read e) (reads_fail es) quiet).0 in
    absurd cc
is_quiet (e ∷ es) (suc i) f x quiet at = is_quiet es i f x (neither (fails_read e) (reads_fail es) quiet).1 at

-- `faultless` follows from `answers` and `given`
faultless_from : (w v : World) (es : List Event) → AnswersRight v → GivenBy w es v → w.given ≡ [] → reads_fail es ≡ false → NoneFailed v
faultless_from w v es right given none quiet i q f at =
    let from = right i q (Failed f) at in
    ⊎_elim
    (λ was. none-some _ (sym (ap (λ gs. slice_get gs from.0) none) ∙ was))
    (λ (new : IsGivenIn es v _). is_quiet es new.place new.flight f quiet new.event)
    (given from.0 _ from.1)

faults_at_each : (w : World) (es : List Event) → AtEach ReadyHasOrigin w es → AtEach FaultHasOrigin w es
faults_at_each w [] h = tt
faults_at_each w (e ∷ es) h = λ u is. (faults_from_ready w e u (h u is).0, faults_at_each u es (h u is).1)

pub headline_implies : HeadlineImplies
headline_implies w v es h =
    let faults = faults_at_each w es h.ready in
    record { faults = faults; faultless = faultless_from w v es h.answers h.given; shared = one_outcome v }
