use Rattle.std.proofs.Common.{◌≡◌, ◌+◌, ◌*◌, ◌/◌, arith}
use Rattle.std.specs.Int.{div_ceil}
use Rattle.iiif_area.proofs.PlaceLaws.{places_below}
use Rattle.iiif_area.proofs.places.places_along.Goals as goal

pub returns-clause-inside : goal.returns-clause-inside
returns-clause-inside c =
    let x = c.args.from in
    let n = c.args.count in
    let below = places_below x n c.args.a c.args.c c.requires.divides c.requires.inside in
    let first : c.from.result * c.from-c.result / c.from-a.result ≡ x * c.args.c / c.args.a = cc in
    let end : c.div_ceil-end.result ≡ div_ceil ((x + n) * c.args.c) c.args.a = cc in
    omega arith
