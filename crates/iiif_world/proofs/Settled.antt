-- What settling comes to.
use Rattle.std.proofs.Common.{◌≡◌, ℕ, List, map, Option, Some, None, refl, ap, ◌∙◌}
use Rattle.iiif_machine.specs.Types.{Picture, Resolved}
use Rattle.iiif_machine.specs.Tables.{Outcome}
use Rattle.iiif_machine.specs.declared.rows.Answer.{Answer}
use Rattle.iiif_machine.specs.declared.rows.Flight.{Flight}
use Rattle.iiif_machine.specs.declared.rows.Progress.{Progress}
use Rattle.iiif_machine.specs.declared.rows.Progress.TheVariants.{Waiting, Answered, Dropped}
use Rattle.iiif_machine.specs.declared.rows.Stage.{Stage}
use Rattle.iiif_machine.specs.declared.rows.Stage.TheVariants.{New, Looked, Asking, Fallback, Parts, Ready, Ended}
use Rattle.iiif_machine.specs.declared.rows.Lead.{Lead}
use Rattle.iiif_machine.specs.declared.rows.RequestRow.{RequestRow}
use Rattle.iiif_machine.specs.declared.rows.RequestInfo.{RequestInfo}
use Rattle.iiif_machine.specs.Worlds.{World, learned, decided, ready_with, resumed, resumed_stage, answered, answered_with, progressed}
use Rattle.iiif_machine.specs.Worlds.{settled}
use Rattle.iiif_world.specs.Settling.{due, due_at, ready_if, answer_due, answer_at, answer_with, answered_if, joined}
use Rattle.iiif_world.proofs.Changed.{joined_map}

abbrev row : Lead → Stage → Flight
row l s = record { lead = l; stage = s }

ready_by : (l : Lead) (c : Option ℕ) (o : Option Outcome) → ready_if (row l (Fallback c)) o ≡ row l (ready_with (Fallback c) o)
ready_by l c None = refl
ready_by l c (Some o) = refl

ready_at : (w : World) (l : Lead) (s : Stage) → ready_if (row l s) (due_at w s) ≡ row l (resumed_stage w s)
ready_at w l New = refl
ready_at w l Looked = refl
ready_at w l Asking = refl
ready_at w l (Fallback None) = refl
ready_at w l (Fallback (Some c)) = ready_by l (Some c) (learned w c)
ready_at w l (Parts cs) = refl
ready_at w l (Ready o p) = refl
ready_at w l (Ended o) = refl

pub flights_settled : (w : World) → joined ready_if w.flights (map (due w) w.flights) ≡ map (resumed w) w.flights
flights_settled w = joined_map ready_if (due w) (resumed w) w.flights (λ fl. ready_at w fl.lead fl.stage)

abbrev asked : RequestInfo → Progress → RequestRow
asked q p = record { info = q; progress = p }

answered_by : (w : World) (q : RequestInfo) (r : Resolved) (cs : List ℕ) (p : Option Picture) (os : Option (List Outcome)) →
    answered_if (asked q (Waiting r cs)) (answer_with w r p os) ≡ asked q (answered_with w q r cs p os)
answered_by w q r cs (Some p) (Some os) = refl
answered_by w q r cs (Some p) None = refl
answered_by w q r cs None (Some os) = refl
answered_by w q r cs None None = refl

answered_at : (w : World) (q : RequestInfo) (p : Progress) → answered_if (asked q p) (answer_at w q p) ≡ asked q (progressed w q p)
answered_at w q (Waiting r cs) = answered_by w q r cs (w.scene.shows q.name) (decided w cs)
answered_at w q (Answered a) = refl
answered_at w q Dropped = refl

pub requests_settled : (w : World) → joined answered_if w.requests (map (answer_due w) w.requests) ≡ map (answered w) w.requests
requests_settled w = joined_map answered_if (answer_due w) (answered w) w.requests (λ q. answered_at w q.info q.progress)

pub settled_is : (w : World) (fs : List Flight) (qs : List RequestRow) (os : List (Option Outcome)) (xs : List (Option Answer)) →
    os ≡ map (due w) w.flights → xs ≡ map (answer_due w) w.requests →
    fs ≡ joined ready_if w.flights os → qs ≡ joined answered_if w.requests xs → record w { flights = fs; requests = qs } ≡ settled w
settled_is w fs qs os xs ho hx hf hq =
    ap (λ (l : List Flight). record w { flights = l; requests = qs }) (hf ∙ ap (joined ready_if w.flights) ho ∙ flights_settled w)
    ∙ ap (λ (l : List RequestRow). record w { flights = map (resumed w) w.flights; requests = l })
    (hq ∙ ap (joined answered_if w.requests) hx ∙ requests_settled w)
