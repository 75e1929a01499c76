use Rattle.std.proofs.Common.{length, refl, sym, subst, ◌∙◌}
use Rattle.iiif_pixel.specs.Geometry.{LiesIn}
use Rattle.iiif_tiff.specs.Tiff.{Scheme}
use Rattle.iiif_pixel.specs.Depths.{depth_of, values_of}
use Rattle.iiif_tiff_read.specs.Layouts.{FitsIn, dim_of}
use Rattle.iiif_tiff_read.proofs.Units.{units_fit}
use Rattle.iiif_tiff_read.specs.Images.{image_scheme}
use Rattle.iiif_tiff_read.proofs.Cropped.{crop_of_samples}
use Rattle.iiif_tiff_read.proofs.layout.Layout.read_rect.Goals as goal

pub read_samples-requires-clause-in_file : goal.read_samples-requires-clause-in_file
read_samples-requires-clause-in_file g c =
    units_fit (image_scheme c.self.inside.image) (length (g.S.Source.bytes c.args.source.now))
    (subst (λ (s : Scheme). FitsIn s (length (g.S.Source.bytes c.args.source.now))) (sym c.self.view_is) c.requires.in_file)

pub returns-clause-crop : goal.returns-clause-crop
returns-clause-crop g c = λ keeps s-is p shows.
    c.from_samples.ensures ∙ rw c.dim.ensures (crop_of_samples (g.S.Source.bytes c.args.source.now) (values_of c.in_ok-samples.samples)
    (image_scheme c.self.inside.image) c.args.rect c.self.inside.image.format.kind (depth_of c.in_ok-samples.samples) p shows
    (c.self.view_is ∙ s-is) refl c.in_ok-samples.ensures.depth
    (subst (λ (s : Scheme). LiesIn c.args.rect (dim_of s)) (sym c.self.view_is) c.requires.inside) c.in_ok-samples.ensures.length
    (c.in_ok-samples.ensures.shown keeps))
