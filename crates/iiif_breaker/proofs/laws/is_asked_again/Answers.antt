use Rattle.iiif_breaker.proofs.Runs.{asked_again}
use Rattle.iiif_breaker.proofs.laws.is_asked_again.Goals as goal

pub returns : goal.returns
returns c = asked_again
