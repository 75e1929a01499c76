use Rattle.std.proofs.Common.{ap, ◌∙◌}
use Rattle.std.specs.Prelude.{slice_get}
use Rattle.std.proofs.lemmas.Option.{slice_get_within}
use Rattle.iiif_machine.specs.Steps.{stage_found}
use Rattle.iiif_machine.specs.Worlds.{World}
use Rattle.iiif_machine.specs.declared.events.Event.TheVariants.{Again}
use Rattle.iiif_machine.specs.declared.rows.Stage.TheVariants.{New}
use Rattle.iiif_machine.specs.Nodes.{node_of}
use Rattle.iiif_world.specs.Code.{world_of}
use Rattle.iiif_world.specs.Entering.{HasFlight}
use Rattle.iiif_world.proofs.Asked.{memory_wanted}
use Rattle.iiif_world.proofs.Stepped.{again_is, again_lost, again_done}
use Rattle.iiif_world.proofs.contents.Contents.again.Goals as goal

pub set_stage-requires : goal.set_stage-requires
set_stage-requires c =
    let l = c.in-Some.lead.now in
    let n = node_of c.in-Some-node_at._node.now in
    let has : HasFlight (world_of c.args.self.now) c.args.flight l n =
    record { stage = New; flight = c.in-Some.ensures; there = c.in-Some-node_at.ensures } in
    slice_get_within c.look.new.self.flights.items c.args.flight _
    (ap (λ (z : World). slice_get z.flights c.args.flight) (c.in_ok-found.ensures.node l n has) ∙ c.in-Some.ensures)

pub returns-clause-ok : goal.returns-clause-ok
returns-clause-ok c =
    let l = c.in-Some.lead.now in
    let n = node_of c.in-Some-node_at._node.now in
    let has : HasFlight (world_of c.args.self.now) c.args.flight l n =
    record { stage = New; flight = c.in-Some.ensures; there = c.in-Some-node_at.ensures } in
    let mid = c.in_ok-found.ensures.node l n has in
    let at = ap (λ (z : World). slice_get z.flights c.args.flight) mid ∙ c.in-Some.ensures in
    again_done (world_of c.args.self.now) (world_of c.look.new.self) (world_of c.set_stage.new.self) c.args.flight l n c.stage_found.result
    c.in-Some.ensures c.in-Some-node_at.ensures mid
    (c.stage_found.ensures ∙ ap stage_found (c.in_ok-found.ensures.found l n has)) (c.set_stage.ensures l New at)

pub returns-in_default-node_at-clause-not_now : goal.returns-in_default-node_at-clause-not_now
returns-in_default-node_at-clause-not_now c = λ same.
    again_lost (world_of c.args.self.now) c.args.flight c.in-Some.lead.now c.in-Some.ensures c.in_default-node_at.ensures

pub returns-in_err-found-clause-no_memory : goal.returns-in_err-found-clause-no_memory
returns-in_err-found-clause-no_memory c =
    memory_wanted (world_of c.args.self.now) _ (Again c.args.flight) c.from_residual.result
    (again_is (world_of c.args.self.now) c.args.flight c.in-Some.lead.now (node_of c.in-Some-node_at._node.now) c.in-Some.ensures
    c.in-Some-node_at.ensures)
