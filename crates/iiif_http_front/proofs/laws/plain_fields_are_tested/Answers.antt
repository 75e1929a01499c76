use Rattle.iiif_http_front.proofs.PlainFields.{tested}
use Rattle.iiif_http_front.proofs.laws.plain_fields_are_tested.Goals as goal

pub returns : goal.returns
returns c = tested
