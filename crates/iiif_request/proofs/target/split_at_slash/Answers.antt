use Rattle.std.proofs.Common.{◌∷◌, List, ℕ, take, ap, sym, ◌∙◌}
use Rattle.std.specs.List.{slice_split}
use Rattle.iiif_request.proofs.TargetLemmas.{slice_split_cut, slice_split_uncut, is_slash}
use Rattle.iiif_request.proofs.target.split_at_slash.Goals as goal

pub returns-in-Some : goal.returns-in-Some
returns-in-Some c =
    slice_split_cut c.args.path.now c.in-Some.end c.in-Some.ensures
    ∙ ap (λ (rest : List ℕ). take c.in-Some.end c.args.path.now ∷ slice_split is_slash rest) (sym c.split_at.ensures.back)

pub returns-in-None : goal.returns-in-None
returns-in-None c = slice_split_uncut c.args.path.now c.in-None.ensures
