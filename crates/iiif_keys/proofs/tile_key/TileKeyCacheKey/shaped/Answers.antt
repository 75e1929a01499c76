use Rattle.iiif_keys.specs.Meaning.{tile_is_shaped, TileHasShape}
use Rattle.iiif_keys.proofs.Shaped.{tile_shaped, same_test}
use Rattle.iiif_keys.proofs.tile_key.TileKeyCacheKey.shaped.Goals as goal

pub returns-clause-named : goal.returns-clause-named
returns-clause-named c = λ shows has.
    same_test c.is_shape_of.result (tile_is_shaped shows c.args.self.now c.args.value.now)
    (TileHasShape c.args.shape.now c.args.self.now c.args.value.now)
    c.is_shape_of.ensures.shape (tile_shaped shows c.args.shape.now c.args.self.now c.args.value.now has)
