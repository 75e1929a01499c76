-- What answers and lists of events come to in sound worlds.
use denote.Ref.{Bor}
use Rattle.std.proofs.Common.{◌≡◌, ℕ, List, Option, Some, None, Result, Ok, Err, sym, ap, subst, ◌∙◌}
use Rattle.std.specs.Prelude.{slice_get, MatchOption, IfOk}
use Rattle.std.proofs.lemmas.Option.{none-some, same_Some}
use Rattle.iiif_machine.specs.Worlds.{World, answer_in, answers}
use Rattle.iiif_machine.specs.Steps.{run}
use Rattle.iiif_machine.specs.Sound.{AnswerIsRight}
use Rattle.iiif_machine.specs.Headline.{Headline}
use Rattle.iiif_machine.specs.declared.events.Event.{Event}
use Rattle.iiif_machine.specs.declared.rows.Answer.{Answer}
use Rattle.iiif_machine.specs.declared.rows.Progress.{Progress}
use Rattle.iiif_machine.specs.declared.rows.Progress.TheVariants.{Waiting, Answered, Dropped}
use Rattle.iiif_machine.specs.declared.rows.RequestRow.{RequestRow}
use Rattle.iiif_machine.specs.declared.rows.RequestInfo.{RequestInfo}
use Rattle.iiif_machine.proofs.Learning.{get_mapped}
use Rattle.iiif_machine.proofs.Promised.{answers_are_right}
use Rattle.iiif_machine.proofs.RunsRight.{each_run_is_right}
use Rattle.iiif_world.specs.Code.{IsSoundWorld}
use Rattle.iiif_world.specs.Stepping.{IsRightAnswer, AreRightAnswers}

right_by : (w : World) (i : ℕ) (q : RequestInfo) (x : Progress) (a : Answer) → IsSoundWorld w →
    slice_get w.requests i ≡ Some (record { info = q; progress = x }) → answer_in x ≡ Some a →
    AnswerIsRight w.scene w.given q a
right_by w i q (Waiting r cs) a sound at e = absurd (none-some a e)
right_by w i q (Answered b) a sound at e = subst (AnswerIsRight w.scene w.given q) (same_Some b a e)
    (answers_are_right w sound.sound i q b at)
right_by w i q Dropped a sound at e = absurd (none-some a e)

pub is_right : (w : World) (i : ℕ) (a : Answer) → IsSoundWorld w → slice_get (answers w) i ≡ Some (Some a) → IsRightAnswer w i a
is_right w i a sound at =
    let q = get_mapped (λ (q : RequestRow). answer_in q.progress) w.requests i (Some a) at in
    (q.0, q.1, right_by w i q.0.info q.0.progress a sound q.1 q.2)

pub are_right : (w : World) (all : List (Option Answer)) → IsSoundWorld w → all ≡ answers w → AreRightAnswers w all
are_right w all sound e i a at = is_right w i a sound (ap (λ (xs : List (Option Answer)). slice_get xs i) (sym e) ∙ at)

pub run_is_right : (w v : World) (es : List Event) → IsSoundWorld w → run w es ≡ Some v → Headline w es v
run_is_right w v es h is = each_run_is_right w v es h.proper h.sound is

-- the same of what a call answers

pub one_right : (w : World) (request : ℕ) (o : Option (Bor Answer)) → IsSoundWorld w →
    MatchOption o ((a : Answer) → slice_get (answers w) request ≡ Some (Some a) → ⊥)
    (λ a. slice_get (answers w) request ≡ Some (Some a.now)) →
    MatchOption o (Unit {0}) (λ a. IsRightAnswer w request a.now)
one_right w request (Some a) sound at = is_right w request a.now sound at
one_right w request None sound at = tt

pub all_right : {V E : Type 0} (w : World) (r : Result V E) (items : V → List (Option Answer)) → IsSoundWorld w →
    IfOk r (λ v. items v ≡ answers w) →
    IfOk r (λ v. AreRightAnswers w (items v))
all_right w (Ok v) items sound e = are_right w (items v) sound e
all_right w (Err x) items sound e = tt
