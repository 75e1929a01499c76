use Rattle.iiif_machine.specs.declared.rows.Stage.TheVariants.{New}
use Rattle.iiif_world.specs.Code.{world_of}
use Rattle.iiif_world.proofs.Refused.{again_gone, again_other, lead_at}
use Rattle.iiif_world.proofs.contents.Contents.new_lead.Goals as goal

pub returns-in_default : goal.returns-in_default
returns-in_default c = again_gone (world_of c.args.self.now) c.args.flight c.in_default.ensures

pub returns-in_default-stage : goal.returns-in_default-stage
returns-in_default-stage c = again_other (world_of c.args.self.now) c.args.flight c.in-Some.row.now c.in-Some.ensures
    c.in_default-stage.not-New

pub returns : goal.returns
returns c = lead_at c.args.self.now.flights.items c.args.flight c.in-Some.row.now New c.in-Some.ensures c.in-New.is
