use Rattle.iiif_pixel.specs.Geometry.{channels_of}
use Rattle.iiif_keys.specs.Blocks.{TileFitsIn}
use Rattle.iiif_keys.proofs.Named.{names_part}
use Rattle.iiif_keys.proofs.tile_key.TileKeyCacheKey.fits.Goals as goal

pub returns-clause-named : goal.returns-clause-named
returns-clause-named c = λ shows has.
    names_part c.has_place.result shows c.args.edge c.args.self.now.name c.args.self.now.edge
    (λ s. TileFitsIn s.dim (channels_of s.kind) c.args.self.now) c.args.shape.now has c.has_place.ensures
