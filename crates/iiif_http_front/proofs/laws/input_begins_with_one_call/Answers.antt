use Rattle.iiif_http_front.proofs.InputLemmas.{one_call}
use Rattle.iiif_http_front.proofs.laws.input_begins_with_one_call.Goals as goal

pub returns : goal.returns
returns c = one_call
