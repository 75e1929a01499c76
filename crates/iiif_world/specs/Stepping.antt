-- What the answers are that the code gives, and how lists of events end, and go on.
use Rattle.std.specs.Prelude.{◌≡◌, ◌++◌, ℕ, List, Option, Some, None, slice_get, take}
use Rattle.iiif_machine.specs.declared.events.Event.{Event}
use Rattle.iiif_machine.specs.declared.events.WorldFault.{WorldFault}
use Rattle.iiif_machine.specs.declared.events.WorldFault.TheVariants.{NotNow, NoMemory}
use Rattle.iiif_machine.specs.declared.rows.Answer.{Answer}
use Rattle.iiif_machine.specs.declared.rows.RequestRow.{RequestRow}
use Rattle.iiif_machine.specs.Sound.{AnswerIsRight}
use Rattle.iiif_machine.specs.Worlds.{World}
use Rattle.iiif_machine.specs.Steps.{step, run}
use Rattle.iiif_machine.specs.Headline.{Headline}

-- The answer to a request is the request's image, its refusal, or a fault that was given at its node by the source of its name.
abbrev pub IsRightAnswer : World → ℕ → Answer → Type 0
IsRightAnswer w request a = (q : RequestRow) × (slice_get w.requests request ≡ Some q) × AnswerIsRight w.scene w.given q.info a

-- so is each of a list of answers, by the requests' numbers
abbrev pub AreRightAnswers : World → List (Option Answer) → Type 0
AreRightAnswers w all = (i : ℕ) (a : Answer) → slice_get all i ≡ Some (Some a) → IsRightAnswer w i a

-- why an event did nothing: it isn't allowed, or it is, and memory was refused
abbrev pub IsFault : World → Event → WorldFault → Type 0
IsFault v e NotNow = step v e ≡ None
IsFault v e NoMemory = ¬ (step v e ≡ None)

-- A list of events stops at the event of this place, for this reason: those before it made of the world w the world v, in which it does
-- nothing.
pub record StopsAt (w : World) (es : List Event) (place : ℕ) (fault : WorldFault) (v : World) : Type 0 where
  pub event : Event
  pub before : run w (take place es) ≡ Some v
  pub there : slice_get es place ≡ Some event
  pub why : IsFault v event fault

-- It stops so in some world, and the headline holds of the events before that one, and of that world.
abbrev pub StopsRightAt : World → List Event → ℕ → WorldFault → Type 0
StopsRightAt w es place fault = (v : World) × StopsAt w es place fault v × Headline w (take place es) v

-- Where one list of events makes of a world the one in which another begins, both together make of it what the other makes.
abbrev pub RunsCompose : Type 0
RunsCompose = (w v u : World) (es fs : List Event) → run w es ≡ Some v → run v fs ≡ Some u → run w (es ++ fs) ≡ Some u
