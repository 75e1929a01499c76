use Rattle.std.proofs.Common.{◌+◌, ◌*◌, ◌/◌, ◌^◌, ◌≤◌, arith, refl}
use Rattle.std.proofs.Math.Nat.{mul-le-mul_right}
use Rattle.iiif_area.proofs.AverageLaws.{average_is, quotient_by_more, product_fits}
use Rattle.iiif_area.proofs.averages.small_average.Goals as goal

pub overflow_mul-result : goal.overflow_mul-result
overflow_mul-result c = omega (
  arith,
  product_fits c.args.area c.min-parts.result c.args.reciprocal (2 ^ 55) 256 c.requires.area.0
      (omega (arith, c.min-parts.ensures)) c.requires.reciprocal,
)

pub returns : goal.returns
returns c =
    let area = c.args.area in
    let parts = c.min-parts.result in
    let below : parts + 1 ≤ 256 * area = omega (arith, c.min-parts.ensures) in
    let square : (parts + 1) * area ≤ 256 * area * area = mul-le-mul_right area below in
    let most : area * area ≤ 2 ^ 23 * area = mul-le-mul_right area c.requires.area.1 in
    let quotient = quotient_by_more parts area c.args.reciprocal (2 ^ 55) c.requires.area.0 (omega arith) c.requires.reciprocal in
    average_is c.args.sum area 255 (2 ^ 64) c.saturating_add.result 255 parts (parts * c.args.reciprocal / 2 ^ 55) c.requires.area.0
    (omega arith) (omega (arith, c.saturating_add.ensures)) refl (omega (arith, c.min-parts.ensures)) quotient
