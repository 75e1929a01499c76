use Rattle.std.proofs.Common.{ap}
use Rattle.std.specs.Prelude.{slice_set}
use Rattle.iiif_machine.specs.declared.rows.Call.{Call}
use Rattle.iiif_world.specs.Code.{world_of}
use Rattle.iiif_world.proofs.Tabled.{row_at}
use Rattle.iiif_world.proofs.contents.Contents.set_state.Goals as goal

pub returns : goal.returns
returns c = λ who x at.
    let cs = c.args.self.now.calls.items in
    ap (λ (z : Call). record (world_of c.args.self.now)
    { calls = slice_set cs c.args.call (record { caller = z.caller; state = c.args.state }) })
    (row_at cs c.args.call c.index_mut.result.now _ c.index_mut.ensures.value at)
