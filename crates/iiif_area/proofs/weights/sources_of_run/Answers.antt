use Rattle.std.proofs.Common.{◌≡◌, ◌+◌, ◌*◌, ◌/◌, arith}
use Rattle.std.proofs.Math.Nat.{mul-le-mul_right}
use Rattle.std.specs.Int.{div_ceil}
use Rattle.iiif_area.proofs.PlaceLaws.{div-mono, div_ceil-mono}
use Rattle.iiif_area.proofs.WeightLaws.{weight_below_sources, weight_above_sources}
use Rattle.iiif_area.proofs.weights.sources_of_run.Goals as goal

pub returns-clause-below : goal.returns-clause-below
returns-clause-below c =
    let first : c.from-2.result * c.from-a.result / c.from-c.result ≡ c.args.first * c.args.axis.a / c.args.axis.c = cc in
    λ i t l h.
    let grows = div-mono (c.args.first * c.args.axis.a) (i * c.args.axis.a) c.args.axis.c c.requires.divides
    (mul-le-mul_right c.args.axis.a l) in
    weight_below_sources i (c.args.axis.from + t) c.args.axis.a c.args.axis.c (omega arith)

pub returns-clause-above : goal.returns-clause-above
returns-clause-above c =
    let last : div_ceil (c.from-3.result * c.from-a.result) c.from-c.result
    ≡ div_ceil ((c.args.first + c.args.results) * c.args.axis.a) c.args.axis.c =
    cc in
    λ i t l h q.
    let grows = div_ceil-mono ((i + 1) * c.args.axis.a) ((c.args.first + c.args.results) * c.args.axis.a) c.args.axis.c
    c.requires.divides (mul-le-mul_right c.args.axis.a (omega arith)) in
    weight_above_sources i (c.args.axis.from + t) c.args.axis.a c.args.axis.c c.requires.divides (omega arith)
