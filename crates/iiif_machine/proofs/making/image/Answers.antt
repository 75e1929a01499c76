use Rattle.iiif_canonical.proofs.Imaged.{resolved_image_steps}
use Rattle.iiif_machine.proofs.making.image.Goals as goal

pub returns : goal.returns
returns c =
    resolved_image_steps c.args.picture.now c.in_ok-region.region c.in_ok-scaled.scaled c.in_ok-turned.turned c.in_ok-image.image
    c.args.resolved.now c.in_ok-region.ensures c.in_ok-scaled.ensures c.in_ok-turned.ensures c.in_ok-image.ensures
