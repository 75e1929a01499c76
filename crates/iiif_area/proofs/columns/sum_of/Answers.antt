use Rattle.std.proofs.Common.{◌≡◌, ℕ, ◌+◌, ◌*◌, get_or, arith, refl}
use Rattle.iiif_area.proofs.SumLaws.{sum_from-start, sum_from-le-longer}
use Rattle.iiif_area.proofs.WholeSpanLaws.{next_term}
use Rattle.iiif_area.proofs.columns.sum_of.Goals as goal

pub loop-t-init : goal.loop-t-init
loop-t-init g c = record { added = sum_from-start _ 0 _ refl }

pub overflow_add-sum : goal.overflow_add-sum
overflow_add-sum g c =
    let f : ℕ → ℕ = λ t. get_or (g.N.Cell.numbers c.args.columns.now) (t * c.args.channels + c.args.k) 0 in
    let here : c.at-sum.result ≡ f (c.args.start + c.loop-t.t) = omega (arith, c.at-sum.ensures) in
    let next = next_term c.args.start c.loop-t.t c.loop-t.sum c.at-sum.result f c.loop-t.invariant.added here in
    let longer = sum_from-le-longer c.args.start (c.loop-t.t + 1) c.args.n f (omega arith) in
    omega (arith, c.requires.fits)

pub loop-t-preserved : goal.loop-t-preserved
loop-t-preserved g c =
    let f : ℕ → ℕ = λ t. get_or (g.N.Cell.numbers c.args.columns.now) (t * c.args.channels + c.args.k) 0 in
    let here : c.at-sum.result ≡ f (c.args.start + c.loop-t.t) = omega (arith, c.at-sum.ensures) in
    record { added = next_term c.args.start c.loop-t.t c.loop-t.sum c.at-sum.result f c.loop-t.invariant.added here }
