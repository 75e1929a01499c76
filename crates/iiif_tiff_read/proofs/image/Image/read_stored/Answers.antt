use Rattle.std.proofs.Common.{◌*◌, ◌≤◌, arith}
use Rattle.std.proofs.lemmas.Nat.{mul-le}
use Rattle.iiif_tiff_read.proofs.image.Image.read_stored.Goals as goal

pub overflow_mul-count : goal.overflow_mul-count
overflow_mul-count g c =
    let w : c.args.rect.w ≤ 1000000 = omega (arith, c.requires.inside.columns, c.args.self.now.sound.sides.width_most) in
    let h : c.args.rect.h ≤ 1000000 = omega (arith, c.requires.inside.rows, c.args.self.now.sound.sides.height_most) in
    omega (arith, mul-le c.args.rect.w c.args.rect.h 1000000 1000000 w h)

pub overflow_mul-count-2 : goal.overflow_mul-count-2
overflow_mul-count-2 g c =
    let w : c.args.rect.w ≤ 1000000 = omega (arith, c.requires.inside.columns, c.args.self.now.sound.sides.width_most) in
    let h : c.args.rect.h ≤ 1000000 = omega (arith, c.requires.inside.rows, c.args.self.now.sound.sides.height_most) in
    let all : c.args.rect.w * c.args.rect.h ≤ 1000000000000 = omega (arith, mul-le c.args.rect.w c.args.rect.h 1000000 1000000 w h) in
    omega (arith, mul-le (c.args.rect.w * c.args.rect.h) c.units.result 1000000000000 6 all c.units.ensures.bound)
