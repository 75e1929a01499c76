use Rattle.iiif_pixel.specs.Geometry.{channels_of}
use Rattle.iiif_tiff_read.specs.Images.{image_scheme}
use Rattle.iiif_tiff_read.proofs.Units.{halved, shown_bytes, shown_pairs}
use Rattle.iiif_tiff_read.proofs.image.Image.read_samples.Goals as goal

pub returns-in_ok-samples-clause-shown : goal.returns-in_ok-samples-clause-shown
returns-in_ok-samples-clause-shown g c = λ keeps.
    shown_pairs (g.S.Source.bytes c.args.source.now) c.in_ok-stored.stored.items c.in_ok-samples.samples.items
    (image_scheme c.args.self.now) c.args.rect c.if-bits-eq16.true
    (halved c.args.rect.w c.args.rect.h (channels_of c.args.self.now.format.kind) c.args.self.now.format.bits _ _ c.if-bits-eq16.true
    c.in_ok-stored.ensures.length (rw c.deref.ensures.value at c.in_ok-samples.ensures.length))
    (rw c.deref.ensures.value at c.in_ok-samples.ensures.samples) (c.in_ok-stored.ensures.stored keeps)

pub returns-else-bits-eq16-clause-shown : goal.returns-else-bits-eq16-clause-shown
returns-else-bits-eq16-clause-shown g c = λ keeps.
    shown_bytes (g.S.Source.bytes c.args.source.now) c.in_ok-stored.stored.items c.to_samples.result.items (image_scheme c.args.self.now)
    c.args.rect c.if-bits-eq16.false c.in_ok-stored.ensures.length c.to_samples.ensures.samples (c.in_ok-stored.ensures.stored keeps)
