use Rattle.iiif_request.proofs.TargetLemmas.{AsksFor_once}
use Rattle.iiif_request.proofs.laws.asked_once.Goals as goal

pub returns : goal.returns
returns c = AsksFor_once
