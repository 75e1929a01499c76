use Rattle.iiif_answers.proofs.PlainLemmas.{fields_plain}
use Rattle.iiif_answers.proofs.laws.fields_are_plain.Goals as goal

pub returns : goal.returns
returns g c = fields_plain g.row.S.Denot
