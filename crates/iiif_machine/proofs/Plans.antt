-- What a request comes to, and its image.
use Rattle.std.proofs.Common.{◌≡◌, Err, refl, sym, ap, ◌∙◌}
use Rattle.iiif_pixel.specs.Geometry.{channels_of}
use Rattle.iiif_pixel.specs.Picture.{IsWhole, dim_of}
use Rattle.iiif_keys.proofs.Shaped.{kind_with_channels}
use Rattle.iiif_canonical.specs.Images as images
use Rattle.iiif_canonical.proofs.ImageLemmas.{image_resolved_of}
use Rattle.iiif_machine.specs.Scenes.{Scene}
use Rattle.iiif_machine.specs.Plans.{Request, Refusal, resolved, kind_of}
use Rattle.iiif_machine.specs.Images.{Picture, image}

pub kind_is : (p : Picture) → IsWhole p → p.channels ≡ channels_of (kind_of p)
kind_is p whole = sym (kind_with_channels p.channels whole.channels)

pub image_from_resolved : (s : Scene) (p : Picture) (q : Request) → p.channels ≡ channels_of (kind_of p) →
    image s p q ≡ images.image_from p (resolved s p q)
unfolding image resolved
image_from_resolved s p q channels = image_resolved_of p q (dim_of p) (kind_of p) s.limits refl channels

pub refused : (s : Scene) (p : Picture) (q : Request) (e : Refusal) → p.channels ≡ channels_of (kind_of p) → resolved s p q ≡ Err e →
    image s p q ≡ Err e
refused s p q e channels h = image_from_resolved s p q channels ∙ ap (images.image_from p) h
