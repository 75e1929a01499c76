use Rattle.iiif_keys.specs.Meaning.{sum_is_shaped, SumHasShape}
use Rattle.iiif_keys.proofs.Shaped.{sum_shaped, same_test}
use Rattle.iiif_keys.proofs.sum_key.SumKeyCacheKey.shaped.Goals as goal

pub returns-clause-named : goal.returns-clause-named
returns-clause-named c = λ shows has.
    same_test c.is_shape_of.result (sum_is_shaped shows c.args.self.now c.args.value.now)
    (SumHasShape c.args.shape.now c.args.self.now c.args.value.now)
    c.is_shape_of.ensures.shape (sum_shaped shows c.args.shape.now c.args.self.now c.args.value.now has)
