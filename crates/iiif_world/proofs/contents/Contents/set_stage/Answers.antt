use Rattle.std.proofs.Common.{ap}
use Rattle.std.specs.Prelude.{slice_set}
use Rattle.iiif_machine.specs.declared.rows.Flight.{Flight}
use Rattle.iiif_world.specs.Code.{world_of}
use Rattle.iiif_world.proofs.Tabled.{row_at}
use Rattle.iiif_world.proofs.contents.Contents.set_stage.Goals as goal

pub returns : goal.returns
returns c = λ l x at.
    let fs = c.args.self.now.flights.items in
    ap (λ (z : Flight). record (world_of c.args.self.now)
    { flights = slice_set fs c.args.flight (record { lead = z.lead; stage = c.args.stage }) })
    (row_at fs c.args.flight c.index_mut.result.now _ c.index_mut.ensures.value at)
