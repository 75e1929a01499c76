use Rattle.iiif_breaker.proofs.Runs.{unmoved_by, unmoved_after_look}
use Rattle.iiif_breaker.proofs.laws.is_unmoved_by_late_faults.Goals as goal

pub returns-clause-fault : goal.returns-clause-fault
returns-clause-fault c = unmoved_by

pub returns-clause-look : goal.returns-clause-look
returns-clause-look c = unmoved_after_look
