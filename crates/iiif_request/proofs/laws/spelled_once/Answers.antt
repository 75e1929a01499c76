use Rattle.iiif_request.proofs.RequestLemmas.{SpellsRequest_once}
use Rattle.iiif_request.proofs.laws.spelled_once.Goals as goal

pub returns : goal.returns
returns c = SpellsRequest_once
