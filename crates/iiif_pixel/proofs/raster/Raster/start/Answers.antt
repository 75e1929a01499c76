use Rattle.std.proofs.Common.{length, ap, arith}
use Rattle.iiif_pixel.proofs.Crops.{span_fits}
use Rattle.iiif_pixel.proofs.Seen.{seen, values-small}
use Rattle.iiif_pixel.proofs.raster.Raster.start.Goals as goal

pub overflow_mul-result-2 : goal.overflow_mul-result-2
overflow_mul-result-2 c =
    let q = c.self.inside in
    let p = c.args.self.now in
    let s = seen q p c.self.view_is c.self.invariant in
    let fits = span_fits p c.args.x c.args.y c.args.w c.requires.columns c.requires.row s.count in
    rw (c.channels.ensures, s.channels, s.width) (omega (arith, fits, ap length s.samples, values-small q.samples))
