use Rattle.iiif_breaker.proofs.Runs.{left_alone}
use Rattle.iiif_breaker.proofs.laws.is_left_alone.Goals as goal

pub returns : goal.returns
returns c = left_alone
