use Rattle.std.proofs.Common.{◌∙◌, sym}
use Rattle.std.proofs.lemmas.Result.{IfOk-weaker}
use Rattle.iiif_answers.proofs.images.image_head.Goals as goal

pub returns : goal.returns
returns c =
    let linked = rw (c.as_str.ensures.value ∙ c.in_ok-link.ensures) at c.head_in.ensures in
    IfOk-weaker c.head_in.result _ _
    (λ h made p sides.
    rw (c.total_len-length.ensures.of_file p (sides ∙ sym c.turned_dim-dim.ensures)) made)
    linked
