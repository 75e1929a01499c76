use Rattle.std.proofs.Common.{◌≡◌, ◌+◌, ◌*◌, ◌/◌, arith}
use Rattle.std.specs.Int.{div_ceil}
use Rattle.iiif_area.proofs.WeightLaws.{weight_below_sources, weight_above_sources, weight_between}
use Rattle.iiif_area.proofs.weights.sources.Goals as goal

pub returns-clause-below : goal.returns-clause-below
returns-clause-below c =
    let e : c.from-i.result * c.from-a.result / c.from-c.result ≡ c.args.i * c.args.axis.a / c.args.axis.c = cc in
    λ t h. weight_below_sources c.args.i (c.args.axis.from + t) c.args.axis.a c.args.axis.c (omega arith)

pub returns-clause-above : goal.returns-clause-above
returns-clause-above c =
    let e : div_ceil ((c.from-i.result + 1) * c.from-a.result) c.from-c.result ≡ div_ceil ((c.args.i + 1) * c.args.axis.a) c.args.axis.c =
    cc in
    λ t l h. weight_above_sources c.args.i (c.args.axis.from + t) c.args.axis.a c.args.axis.c c.requires (omega arith)

pub returns-clause-between : goal.returns-clause-between
returns-clause-between c =
    let e : c.from-i.result * c.from-a.result / c.from-c.result ≡ c.args.i * c.args.axis.a / c.args.axis.c = cc in
    let d : div_ceil ((c.from-i.result + 1) * c.from-a.result) c.from-c.result ≡ div_ceil ((c.args.i + 1) * c.args.axis.a) c.args.axis.c =
    cc in
    λ t l h. weight_between c.args.i (c.args.axis.from + t) c.args.axis.a c.args.axis.c c.requires (omega arith) (omega arith)
