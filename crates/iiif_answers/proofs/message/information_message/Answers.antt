use Rattle.std.proofs.Common.{◌∙◌, ap}
use Rattle.iiif_answers.proofs.message.information_message.Goals as goal

pub returns : goal.returns
returns c =
    rw (ap (λ v. v.items) c.into_bytes.ensures.value ∙ c.in_ok-text.ensures, c.base.ensures, c.limits.ensures.all, c.edge.ensures.value)
    at c.make_message.ensures
