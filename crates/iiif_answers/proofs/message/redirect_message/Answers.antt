use Rattle.std.proofs.Common.{◌∙◌}
use Rattle.iiif_answers.proofs.message.redirect_message.Goals as goal

pub returns : goal.returns
returns c = rw (c.as_str.ensures.value ∙ c.in_ok-uri.ensures, c.new.ensures.items) at c.make_message.ensures
