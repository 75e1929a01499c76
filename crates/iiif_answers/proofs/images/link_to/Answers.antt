use Rattle.std.proofs.Common.{refl}
use Rattle.iiif_answers.proofs.images.link_to.Goals as goal

pub returns : goal.returns
returns c = rw (
  c.in_ok-push_str-3.ensures.bytes,
  c.in_ok-push_str-2.ensures.bytes,
  c.in_ok-push_str.ensures.bytes,
  c.new-link.ensures.bytes,
) refl
