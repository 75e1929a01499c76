-- Steps of an image, joined.
use Rattle.std.proofs.Common.{◌≡◌, refl}
use Rattle.iiif_pixel.specs.Picture.{Picture}
use Rattle.iiif_pixel.specs.Operations.{crop, turn, quality}
use Rattle.iiif_pixel.specs.Scaling.{scale}
use Rattle.iiif_canonical.specs.Images.{resolved_image}
use Rattle.iiif_canonical.specs.declared.resolved.Resolved.{Resolved}

-- Cropping, scaling, turning and then the quality make the image.
pub resolved_image_steps : (p region scaled turned image : Picture) (r : Resolved) → region ≡ crop p r.rect → scaled ≡ scale region r.size
    → turned ≡ turn scaled r.turn → image ≡ quality turned r.quality → image ≡ resolved_image p r
unfolding resolved_image
resolved_image_steps p region scaled turned image r cropped made by in_quality = rw (in_quality, by, made, cropped) refl
