use Rattle.std.proofs.Common.{ℕ, List, sym, ap, subst, Err}
use Rattle.iiif_request.specs.Targets.{AsksFor, resource_of}
use Rattle.iiif_answers.specs.Answers.{no_path}
use Rattle.iiif_answers.proofs.outcome.outcome_of.Goals as goal

pub returns-in-Err-Path-clause-comes : goal.returns-in-Err-Path-clause-comes
returns-in-Err-Path-clause-comes g c honest =
    no_path (λ r asks. c.in-Err-Path.ensures.path (ap Err c.in-Err-Path.field-0-is)
    (r, subst (λ (t : List ℕ). AsksFor t c.args.target.now r) (sym c.prefix.ensures) asks))

pub returns-in-Ok-clause-comes : goal.returns-in-Ok-clause-comes
returns-in-Ok-clause-comes g c honest =
    c.outcome_for.ensures.comes honest c.args.target.now
    (subst (λ (t : List ℕ). AsksFor t c.args.target.now (resource_of c.in-Ok.resource)) c.prefix.ensures c.in-Ok.ensures.target)
