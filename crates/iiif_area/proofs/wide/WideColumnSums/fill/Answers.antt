use Rattle.std.proofs.Common.{arith}
use Rattle.iiif_pixel.proofs.Whole.{sample_at-le, top-le}
use Rattle.iiif_area.proofs.wide.WideColumnSums.fill.Goals as goal

pub fill_wide-requires-clause-samples : goal.fill_wide-requires-clause-samples
fill_wide-requires-clause-samples c = λ x y k.
    omega (arith, sample_at-le c.args.tile.now c.is_whole.ensures.whole x y k, top-le c.args.tile.now c.is_whole.ensures.whole)
