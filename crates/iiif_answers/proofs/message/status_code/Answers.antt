use Rattle.std.proofs.Common.{◌∙◌, sym, ap}
use Rattle.iiif_http_front.specs.Statuses.{reason_phrase}
use Rattle.iiif_answers.proofs.MessageLemmas.{refusal_has_status}
use Rattle.iiif_answers.proofs.message.status_code.Goals as goal

pub returns-in-None : goal.returns-in-None
returns-in-None c = absurd (refusal_has_status c.args.refusal (ap reason_phrase (sym c.status.ensures) ∙ c.in-None.ensures.none))
