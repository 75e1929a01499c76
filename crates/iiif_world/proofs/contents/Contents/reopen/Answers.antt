use Rattle.std.proofs.Common.{ap}
use Rattle.std.specs.Prelude.{slice_set}
use Rattle.iiif_machine.specs.declared.rows.Flight.{Flight}
use Rattle.iiif_world.specs.Code.{world_of}
use Rattle.iiif_world.proofs.Tabled.{row_at}
use Rattle.iiif_world.proofs.contents.Contents.reopen.Goals as goal

pub returns : goal.returns
returns c = λ l o at.
    let fs = c.args.self.now.flights.items in
    let made = c.reopen_flight.ensures l o (row_at fs c.args.flight c.index_mut.result.now _ c.index_mut.ensures.value at) in
    ap (λ (x : Flight). record (world_of c.args.self.now) { flights = slice_set fs c.args.flight x }) made
