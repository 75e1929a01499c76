use Rattle.std.proofs.Common.{◌∙◌}
use Rattle.iiif_answers.proofs.images.canonical_link.Goals as goal

pub returns : goal.returns
returns c = rw (c.as_str.ensures.value ∙ c.in_ok-uri.ensures.value) at c.link_to.ensures
