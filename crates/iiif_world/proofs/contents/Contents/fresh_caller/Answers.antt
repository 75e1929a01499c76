use Rattle.iiif_machine.specs.declared.rows.CallState.TheVariants.{Fresh}
use Rattle.iiif_world.specs.Code.{world_of}
use Rattle.iiif_world.proofs.Refused.{caller_at, enter_gone, enter_other}
use Rattle.iiif_world.proofs.contents.Contents.fresh_caller.Goals as goal

pub returns-in_default : goal.returns-in_default
returns-in_default c = enter_gone (world_of c.args.self.now) c.args.call c.in_default.ensures

pub returns-in_default-state : goal.returns-in_default-state
returns-in_default-state c = enter_other (world_of c.args.self.now) c.args.call c.in-Some.row.now c.in-Some.ensures
    c.in_default-state.not-Fresh

pub returns : goal.returns
returns c = caller_at c.args.self.now.calls.items c.args.call c.in-Some.row.now Fresh c.in-Some.ensures c.in-Fresh.is
