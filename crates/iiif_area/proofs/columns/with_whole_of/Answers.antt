use Rattle.std.proofs.Common.{ℕ, ◌+◌, ◌*◌, ◌≤◌, get_or, arith, refl}
use Rattle.std.proofs.lemmas.Nat.{mul-le}
use Rattle.std.proofs.Math.Nat.{mul-le-mul_right}
use Rattle.iiif_pixel.specs.Scaling.{sum_from}
use Rattle.iiif_area.proofs.SumLaws.{same_product}
use Rattle.iiif_area.proofs.WholeSpanLaws.{IsMore-push}
use Rattle.iiif_area.proofs.columns.with_whole_of.Goals as goal

pub overflow_mul-i : goal.overflow_mul-i
overflow_mul-i g c =
    let n = c.args.n in
    let i = c.loop-i.i in
    let a : i * n ≤ c.args.count * n = mul-le-mul_right n (omega arith) in
    let b : i * n * 1 ≤ c.args.count * n * c.args.channels = mul-le (i * n) 1 (c.args.count * n) c.args.channels a (omega arith) in
    omega (arith, c.requires.within)

pub sum_of-sum-requires-clause-fits : goal.sum_of-sum-requires-clause-fits
sum_of-sum-requires-clause-fits g c =
    let i = c.loop-i.i in
    let s = sum_from (i * c.args.n) c.args.n (λ t. get_or (g.N.Cell.numbers c.args.columns.now) (t * c.args.channels + c.loop-k.k) 0) in
    let least : 1 * s ≤ c.args.c * s = mul-le-mul_right s c.requires.takes in
    let most = c.requires.fits i c.loop-k.k (omega arith) (omega arith) in
    omega arith

pub overflow_mul-from : goal.overflow_mul-from
overflow_mul-from g c =
    let product = same_product c.from.ensures c.sum_of-sum.ensures in
    let most = c.requires.fits c.loop-i.i c.loop-k.k (omega arith) (omega arith) in
    omega arith

pub loop-k-preserved : goal.loop-k-preserved
loop-k-preserved g c =
    let numbers = g.N.Cell.numbers c.args.columns.now in
    let f : ℕ → ℕ → ℕ = λ i k. c.args.c * sum_from (i * c.args.n) c.args.n (λ t. get_or numbers (t * c.args.channels + k) 0) in
    record {
      row = rw c.push_reserved.ensures.items (IsMore-push c.args.sums.items c.loop-k.sums.items c.args.channels _ c.loop-i.i c.loop-k.k _ _
          f c.loop-k.invariant.row (omega arith) refl (omega (arith, same_product c.from.ensures c.sum_of-sum.ensures)) (omega arith));
      capacity = omega arith;
    }
