use Rattle.std.proofs.Common.{List, ap, arith}
use Rattle.iiif_machine.specs.declared.rows.Flight.{Flight}
use Rattle.iiif_world.specs.Code.{world_of}
use Rattle.iiif_world.proofs.contents.Contents.reserve_flight.Goals as goal

pub returns-clause-room : goal.returns-clause-room
returns-clause-room c = omega (arith, c.in_ok-reserve.ensures.ok)

pub returns-clause-same : goal.returns-clause-same
returns-clause-same c = ap (λ (fs : List Flight). record (world_of c.args.self.now) { flights = fs }) c.in_ok-reserve.ensures.items

pub returns-in_err-reserve-clause-same : goal.returns-in_err-reserve-clause-same
returns-in_err-reserve-clause-same c = ap (λ (fs : List Flight). record (world_of c.args.self.now) { flights = fs })
    c.in_err-reserve.ensures.items
