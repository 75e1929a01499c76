use Rattle.iiif_http_front.proofs.InputLemmas.{each_call}
use Rattle.iiif_http_front.proofs.laws.each_call_is_answered.Goals as goal

pub returns : goal.returns
returns c = each_call
