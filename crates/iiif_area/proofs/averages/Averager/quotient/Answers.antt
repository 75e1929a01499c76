use Rattle.std.proofs.Common.{◌+◌, ◌*◌, ◌/◌, ◌^◌, sym, ap, ◌∙◌, arith}
use Rattle.iiif_area.proofs.AverageLaws.{low_below, low_near, product_below, quotient_is, reciprocal_some}
use Rattle.iiif_area.proofs.averages.Averager.quotient.Goals as goal

pub overflow_mul-low : goal.overflow_mul-low
overflow_mul-low c =
    let a = c.self.inside in
    let some = reciprocal_some a.area a.reciprocal (2 ^ 48) c.self.invariant.0 (omega arith) c.self.invariant.2 in
    let below = product_below c.args.parts a.area a.reciprocal (2 ^ 48) 65536 some c.self.invariant.2 (omega arith) in
    omega arith

pub overflow_sub-rest : goal.overflow_sub-rest
overflow_sub-rest c = low_below c.args.parts c.self.inside.area c.self.inside.reciprocal (2 ^ 48) (omega arith) c.self.invariant.2

pub returns-then-rest-self : goal.returns-then-rest-self
returns-then-rest-self c =
    let a = c.self.inside in
    let q = c.args.parts * a.reciprocal / 2 ^ 48 in
    let low = low_below c.args.parts a.area a.reciprocal (2 ^ 48) (omega arith) c.self.invariant.2 in
    sym (quotient_is c.args.parts a.area q c.self.invariant.0 low (omega arith)) ∙ ap (λ u. c.args.parts / u) c.self.view_is

pub returns-else-rest-self : goal.returns-else-rest-self
returns-else-rest-self c =
    let a = c.self.inside in
    let q = c.args.parts * a.reciprocal / 2 ^ 48 in
    let low = low_below c.args.parts a.area a.reciprocal (2 ^ 48) (omega arith) c.self.invariant.2 in
    let near = low_near c.args.parts a.area a.reciprocal (2 ^ 48) c.self.invariant.0 (omega arith) c.self.invariant.2 in
    sym (quotient_is c.args.parts a.area (q + 1) c.self.invariant.0 (omega arith) (omega arith)) ∙ ap (λ u. c.args.parts / u) c.self.view_is
