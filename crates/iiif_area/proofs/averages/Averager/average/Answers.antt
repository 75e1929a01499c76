use Rattle.std.proofs.Common.{◌+◌, ◌*◌, ◌/◌, ◌^◌, ◌≤◌, sym, ap, ◌∙◌, arith}
use Rattle.std.proofs.Math.Nat.{mul-le-mul_right}
use Rattle.iiif_area.specs.Grid.{average_within}
use Rattle.iiif_area.proofs.AverageLaws.{average_is}
use Rattle.iiif_area.proofs.averages.Averager.average.Goals as goal

pub returns : goal.returns
returns c =
    let area = c.self.inside.area in
    let top = c.args.top in
    let parts = c.min-parts.result in
    let fits : (top + 1) * area ≤ 65536 * area = mul-le-mul_right area (omega arith) in
    let is = c.quotient.ensures ∙ ap (λ u. parts / u) (sym c.self.view_is) in
    average_is c.args.sum area top (2 ^ 64) c.saturating_add.result c.from.result parts c.quotient.result c.self.invariant.0 (omega arith)
    c.saturating_add.ensures c.from.ensures c.min-parts.ensures is
    ∙ ap (λ u. average_within u top c.args.sum) c.self.view_is
