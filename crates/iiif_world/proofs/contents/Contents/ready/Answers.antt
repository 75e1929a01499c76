use Rattle.iiif_machine.specs.declared.rows.Stage.TheVariants.{Ready}
use Rattle.iiif_world.specs.Code.{world_of}
use Rattle.iiif_world.proofs.Refused.{land_gone, land_other, lead_at}
use Rattle.iiif_world.proofs.contents.Contents.ready.Goals as goal

pub returns-in_default : goal.returns-in_default
returns-in_default c = λ keep. land_gone (world_of c.args.self.now) c.args.flight keep c.in_default.ensures

pub returns-in_default-stage : goal.returns-in_default-stage
returns-in_default-stage c = λ keep. land_other (world_of c.args.self.now) c.args.flight keep c.in-Some.row.now c.in-Some.ensures
    c.in_default-stage.not-Ready

pub returns : goal.returns
returns c = lead_at c.args.self.now.flights.items c.args.flight c.in-Some.row.now (Ready c.in-Ready.outcome c.in-Ready.place)
    c.in-Some.ensures c.in-Ready.is
