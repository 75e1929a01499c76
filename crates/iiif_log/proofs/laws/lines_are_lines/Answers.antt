use Rattle.iiif_log.proofs.LineLemmas.{lines_are_lines}
use Rattle.iiif_log.proofs.laws.lines_are_lines.Goals as goal

pub returns : goal.returns
returns c = lines_are_lines
