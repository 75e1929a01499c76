use Rattle.iiif_pixel.specs.Geometry.{channels_of}
use Rattle.iiif_keys.specs.Blocks.{SumFitsIn}
use Rattle.iiif_keys.proofs.Named.{names_part}
use Rattle.iiif_keys.proofs.sum_key.SumKeyCacheKey.fits.Goals as goal

pub returns-clause-named : goal.returns-clause-named
returns-clause-named c = λ shows has.
    names_part c.has_place.result shows c.args.edge c.args.self.now.name c.args.self.now.edge
    (λ s. SumFitsIn s.dim (channels_of s.kind) c.args.self.now) c.args.shape.now has c.has_place.ensures
