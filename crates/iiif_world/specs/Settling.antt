-- What settling changes: which flights and requests go on, and to what.
use Rattle.std.specs.Prelude.{List, [], ◌∷◌, Option, Some, None}
use Rattle.iiif_machine.specs.Types.{Picture, Resolved}
use Rattle.iiif_machine.specs.Tables.{Outcome, Nowhere}
use Rattle.iiif_machine.specs.declared.rows.Stage.{Stage}
use Rattle.iiif_machine.specs.declared.rows.Flight.{Flight}
use Rattle.iiif_machine.specs.declared.rows.RequestInfo.{RequestInfo}
use Rattle.iiif_machine.specs.declared.rows.Answer.{Answer}
use Rattle.iiif_machine.specs.declared.rows.Progress.{Progress}
use Rattle.iiif_machine.specs.declared.rows.RequestRow.{RequestRow}
use Rattle.iiif_machine.specs.declared.rows.Stage.TheVariants.{New, Looked, Asking, Fallback, Parts, Ready, Ended}
use Rattle.iiif_machine.specs.declared.rows.Progress.TheVariants.{Waiting, Answered, Dropped}
use Rattle.iiif_machine.specs.Worlds.{World, learned, decided, collected, answer_from}

-- the outcome that a flight which asked in vain has by now
abbrev pub due_at : World → Stage → Option Outcome
due_at w (Fallback (Some c)) = learned w c
due_at w (Fallback None) = None
due_at w New = None
due_at w Looked = None
due_at w Asking = None
due_at w (Parts cs) = None
due_at w (Ready o p) = None
due_at w (Ended o) = None

abbrev pub due : World → Flight → Option Outcome
due w fl = due_at w fl.stage

abbrev pub ready_if : Flight → Option Outcome → Flight
ready_if fl None = fl
ready_if fl (Some o) = record { lead = fl.lead; stage = Ready o Nowhere }

-- the answer that a request has by now
abbrev pub answer_with : World → Resolved → Option Picture → Option (List Outcome) → Option Answer
answer_with w r (Some p) (Some os) = Some (answer_from w.scene p r (collected os))
answer_with w r (Some p) None = None
answer_with w r None (Some os) = None
answer_with w r None None = None

abbrev pub answer_at : World → RequestInfo → Progress → Option Answer
answer_at w q (Waiting r cs) = answer_with w r (w.scene.shows q.name) (decided w cs)
answer_at w q (Answered a) = None
answer_at w q Dropped = None

abbrev pub answer_due : World → RequestRow → Option Answer
answer_due w q = answer_at w q.info q.progress

abbrev pub answered_if : RequestRow → Option Answer → RequestRow
answered_if q None = q
answered_if q (Some a) = record { info = q.info; progress = Answered a }

-- each with what stands at its place
abbrev pub joined : {A B : Type 0} → (A → B → A) → List A → List B → List A
joined g [] ys = []
joined g (x ∷ xs) [] = x ∷ xs
joined g (x ∷ xs) (y ∷ ys) = g x y ∷ joined g xs ys
