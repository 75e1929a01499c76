use Rattle.std.proofs.Common.{◌∙◌, sym, ap}
use Rattle.iiif_http_front.specs.Statuses.{code_of}
use Rattle.iiif_answers.specs.Responses.{allowed_methods, line}
use Rattle.iiif_answers.proofs.MessageLemmas.{refusal_made, no_methods}
use Rattle.iiif_answers.proofs.message.refusal_message.Goals as goal

pub returns-in-Method : goal.returns-in-Method
returns-in-Method c =
    refusal_made c.make_message.result c.args.part c.args.refusal (code_of c.status_code-status.result) _ c.in_ok-body.body.items
    c.status_code-status.ensures
    (sym (ap allowed_methods c.in-Method.is)) (c.in_ok-body.ensures ∙ ap line c.line.ensures) c.make_message.ensures

pub returns-in_default : goal.returns-in_default
returns-in_default c =
    refusal_made c.make_message-in_default.result c.args.part c.args.refusal (code_of c.status_code-status.result) _ c.in_ok-body.body.items
    c.status_code-status.ensures
    (sym (no_methods c.args.refusal c.in_default.not-Method)) (c.in_ok-body.ensures ∙ ap line c.line.ensures)
    c.make_message-in_default.ensures
