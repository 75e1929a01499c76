use Rattle.iiif_breaker.proofs.Runs.{left_by_look, never_closed}
use Rattle.iiif_breaker.proofs.laws.is_left_alone_by_a_look.Goals as goal

pub returns-clause-left : goal.returns-clause-left
returns-clause-left c = left_by_look

pub returns-clause-never : goal.returns-clause-never
returns-clause-never c = never_closed
