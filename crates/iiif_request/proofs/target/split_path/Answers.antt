use Rattle.std.proofs.Common.{◌∙◌, ℕ, List, ◌∷◌, ap}
use Rattle.iiif_request.specs.Code.{asked_by}
use Rattle.iiif_request.proofs.TargetLemmas.{asked_by_six}
use Rattle.iiif_request.proofs.target.split_path.Goals as goal

pub returns-in-Some-split_at_slash-4-clause-gives : goal.returns-in-Some-split_at_slash-4-clause-gives
returns-in-Some-split_at_slash-4-clause-gives c =
    let id = c.in-Some.id.now in
    let region = c.in-Some-split_at_slash.region.now in
    let size = c.in-Some-split_at_slash-2.size.now in
    let rotation = c.in-Some-split_at_slash-3.rotation.now in
    ap asked_by (c.in-Some.ensures
    ∙ ap (λ (l : List (List ℕ)). id ∷ l) (c.in-Some-split_at_slash.ensures
    ∙ ap (λ (l : List (List ℕ)). region ∷ l) (c.in-Some-split_at_slash-2.ensures
    ∙ ap (λ (l : List (List ℕ)). size ∷ l) (c.in-Some-split_at_slash-3.ensures
    ∙ ap (λ (l : List (List ℕ)). rotation ∷ l) c.in-Some-split_at_slash-4.ensures))))
    ∙ asked_by_six id region size rotation c.in-Some-split_at_slash-4.field-0.0.now c.in-Some-split_at_slash-4.field-0.1.now
