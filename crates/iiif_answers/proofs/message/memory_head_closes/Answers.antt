use Rattle.std.proofs.Common.{refl}
use Rattle.std.specs.Fmt.{digits}
use Rattle.iiif_http_front.specs.AnswerHeads.{head_text, status_line, field_line, length_line, close_line}
use Rattle.iiif_answers.proofs.message.memory_head_closes.Goals as goal

pub returns : goal.returns
unfolding digits head_text status_line field_line length_line close_line
returns c = refl
