use Rattle.iiif_log.proofs.LineLemmas.{peer_lines_are_lines, peer_lines_tell_turns}
use Rattle.iiif_log.proofs.laws.peer_lines_are_lines.Goals as goal

pub returns-clause-lines : goal.returns-clause-lines
returns-clause-lines c = peer_lines_are_lines

pub returns-clause-turns : goal.returns-clause-turns
returns-clause-turns c = peer_lines_tell_turns
