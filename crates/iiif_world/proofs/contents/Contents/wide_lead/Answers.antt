use Rattle.iiif_machine.specs.declared.rows.Stage.TheVariants.{Looked}
use Rattle.iiif_world.specs.Code.{world_of}
use Rattle.iiif_world.proofs.Refused.{ask_gone, ask_other, ask_own, lead_at}
use Rattle.iiif_world.proofs.contents.Contents.wide_lead.Goals as goal

pub returns-in_default : goal.returns-in_default
returns-in_default c = ask_gone (world_of c.args.self.now) c.args.flight c.in_default.ensures

pub returns-in_default-stage : goal.returns-in_default-stage
returns-in_default-stage c = ask_other (world_of c.args.self.now) c.args.flight c.in-Some.row.now c.in-Some.ensures
    c.in_default-stage.not-Looked

pub returns-in_default-class : goal.returns-in_default-class
returns-in_default-class c = ask_own (world_of c.args.self.now) c.args.flight c.in-Some.row.now c.in-Some.ensures
    c.in_default-class.not-Wide

pub returns : goal.returns
returns c = (lead_at c.args.self.now.flights.items c.args.flight c.in-Some.row.now Looked c.in-Some.ensures c.in-Looked.is, c.in-Wide.is)
