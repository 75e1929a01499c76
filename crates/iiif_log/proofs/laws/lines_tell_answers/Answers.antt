use Rattle.iiif_log.proofs.LineLemmas.{lines_tell_answers}
use Rattle.iiif_log.proofs.laws.lines_tell_answers.Goals as goal

pub returns : goal.returns
returns c = lines_tell_answers
