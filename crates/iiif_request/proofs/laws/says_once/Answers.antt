use Rattle.std.proofs.Common.{sym, ◌∙◌}
use Rattle.iiif_request.proofs.RequestLemmas.{request_of_complete}
use Rattle.iiif_request.proofs.laws.says_once.Goals as goal

pub returns : goal.returns
returns c = λ w a b first second. sym (request_of_complete w a first) ∙ request_of_complete w b second
