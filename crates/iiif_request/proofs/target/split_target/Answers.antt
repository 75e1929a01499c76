use Rattle.std.proofs.Common.{sym, ap, ◌∙◌}
use Rattle.std.specs.List.{slice_split}
use Rattle.iiif_request.specs.Code.{behind}
use Rattle.iiif_request.proofs.TargetLemmas.{IsCut_behind, is_slash}
use Rattle.iiif_request.proofs.target.split_target.Goals as goal

pub returns-clause-counted : goal.returns-clause-counted
returns-clause-counted c e = (
  slice_split is_slash c.in-Some-strip_front.path.now,
  IsCut_behind c.args.prefix.now c.args.target.now c.in-Some.rooted.now c.in-Some-strip_front.path.now
      (sym (c.in-Some.ensures ∙ ap (behind c.args.prefix.now) c.strip_query.ensures)) (sym c.in-Some-strip_front.ensures),
  c.split_path.ensures.counted e,
)
