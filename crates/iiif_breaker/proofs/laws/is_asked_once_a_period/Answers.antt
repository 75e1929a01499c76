use Rattle.iiif_breaker.proofs.Runs.{once_a_period, has_period}
use Rattle.iiif_breaker.proofs.laws.is_asked_once_a_period.Goals as goal

pub returns-clause-once : goal.returns-clause-once
returns-clause-once c = once_a_period

pub returns-clause-period : goal.returns-clause-period
returns-clause-period c = has_period
