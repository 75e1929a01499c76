use Rattle.std.proofs.Common.{arith}
use Rattle.iiif_pixel.proofs.Seen.{seen, index_in, values-small}
use Rattle.iiif_pixel.proofs.raster.Raster.index.Goals as goal

pub overflow_mul-result-2 : goal.overflow_mul-result-2
overflow_mul-result-2 c =
    let q = c.self.inside in
    let s = seen q c.args.self.now c.self.view_is c.self.invariant in
    let within = rw (← c.channels.ensures) at (index_in q c.args.self.now s c.args.x c.args.y c.args.channel c.requires.column
    c.requires.row c.requires.channel) in
    omega (arith, within, values-small q.samples)

pub overflow_add-result-2 : goal.overflow_add-result-2
overflow_add-result-2 c =
    let q = c.self.inside in
    let s = seen q c.args.self.now c.self.view_is c.self.invariant in
    let within = rw (← c.channels.ensures) at (index_in q c.args.self.now s c.args.x c.args.y c.args.channel c.requires.column
    c.requires.row c.requires.channel) in
    omega (arith, within, values-small q.samples)
