use Rattle.iiif_breaker.proofs.Runs.{closed_by}
use Rattle.iiif_breaker.proofs.laws.is_closed_by_an_answer.Goals as goal

pub returns : goal.returns
returns c = closed_by
