use Rattle.std.proofs.Common.{arith}
use Rattle.iiif_pixel.proofs.Whole.{sample_at-le}
use Rattle.iiif_area.proofs.narrow.NarrowColumnSums.fill.Goals as goal

pub fill_narrow-requires-clause-samples : goal.fill_narrow-requires-clause-samples
fill_narrow-requires-clause-samples c = λ x y k.
    omega (arith, sample_at-le c.args.tile.now c.is_whole.ensures.whole x y k, c.requires.fits.depth)
