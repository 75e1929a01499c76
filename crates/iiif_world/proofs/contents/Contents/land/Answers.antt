use Rattle.std.proofs.Common.{◌<◌, length, sym, ap, subst, ◌∙◌, Some, arith}
use Rattle.std.specs.Prelude.{slice_get}
use Rattle.std.proofs.lemmas.Option.{none-some, slice_get_within}
use Rattle.iiif_machine.specs.Scenes.{IsProper}
use Rattle.iiif_machine.specs.Sound.{IsHonestWorld}
use Rattle.iiif_machine.specs.Worlds.{World, with_stage}
use Rattle.iiif_machine.specs.declared.events.Event.TheVariants.{Land}
use Rattle.iiif_machine.specs.declared.rows.Stage.TheVariants.{Ready, Ended}
use Rattle.iiif_machine.proofs.Apart.{set_there}
use Rattle.iiif_machine.specs.Nodes.{node_of}
use Rattle.iiif_world.specs.Code.{world_of}
use Rattle.iiif_world.specs.Entering.{HasFlight}
use Rattle.iiif_world.proofs.Changed.{length_set}
use Rattle.iiif_world.proofs.Found.{ended_honest, stage_back}
use Rattle.iiif_world.proofs.Asked.{memory_wanted}
use Rattle.iiif_world.proofs.Stepped.{land_is, land_lost, land_done}
use Rattle.iiif_world.proofs.contents.Contents.land.Goals as goal

pub end-requires : goal.end-requires
end-requires c = slice_get_within (world_of c.args.self.now).flights c.args.flight _ c.in-Some.ensures

pub settle_landed-requires-clause-proper : goal.settle_landed-requires-clause-proper
settle_landed-requires-clause-proper c =
    let mid = c.end.ensures c.in-Some.lead.now c.in-Some.outcome.now c.in-Some.place c.in-Some.ensures in
    subst (λ (z : World). IsProper z.scene) (sym mid) c.requires.sound.proper

pub settle_landed-requires-clause-honest : goal.settle_landed-requires-clause-honest
settle_landed-requires-clause-honest c =
    let mid = c.end.ensures c.in-Some.lead.now c.in-Some.outcome.now c.in-Some.place c.in-Some.ensures in
    subst IsHonestWorld (sym mid)
    (ended_honest (world_of c.args.self.now) c.args.flight c.in-Some.lead.now c.in-Some.outcome.now c.in-Some.place
    c.requires.sound.sound.honest c.in-Some.ensures)

pub settle_landed-requires-clause-there : goal.settle_landed-requires-clause-there
settle_landed-requires-clause-there c =
    let w = world_of c.args.self.now in
    let l = c.in-Some.lead.now in
    let mid = c.end.ensures l c.in-Some.outcome.now c.in-Some.place c.in-Some.ensures in (
      l,
      node_of c.in-Some-node_at._node.now,
      record {
        stage = Ended (Some c.in-Some.outcome.now);
        flight = ap (λ (z : World). slice_get z.flights c.args.flight) mid ∙ set_there w.flights c.args.flight _ _ c.in-Some.ensures;
        there = ap (λ (z : World). slice_get z.nodes l.node) mid ∙ c.in-Some-node_at.ensures;
      },
    )

pub reopen-requires : goal.reopen-requires
reopen-requires c =
    let w = world_of c.args.self.now in
    let mid = c.end.ensures c.in-Some.lead.now c.in-Some.outcome.now c.in-Some.place c.in-Some.ensures in
    let less : c.args.flight < length w.flights = slice_get_within w.flights c.args.flight _ c.in-Some.ensures in
    omega (
      arith,
      less,
      ap (λ (z : World). length z.flights) (c.in-Err.ensures.err ∙ mid),
      length_set w.flights c.args.flight (record { lead = c.in-Some.lead.now; stage = Ended (Some c.in-Some.outcome.now) }),
    )

pub returns-in-Ok-clause-ok : goal.returns-in-Ok-clause-ok
returns-in-Ok-clause-ok c =
    let w = world_of c.args.self.now in
    let l = c.in-Some.lead.now in
    let o = c.in-Some.outcome.now in
    let mid = c.end.ensures l o c.in-Some.place c.in-Some.ensures in
    let n = node_of c.in-Some-node_at._node.now in
    let has : HasFlight (world_of c.end.new.self) c.args.flight l n = record {
      stage = Ended (Some o);
      flight = ap (λ (z : World). slice_get z.flights c.args.flight) mid ∙ set_there w.flights c.args.flight _ _ c.in-Some.ensures;
      there = ap (λ (z : World). slice_get z.nodes l.node) mid ∙ c.in-Some-node_at.ensures;
    } in
    land_done w (world_of c.end.new.self) (world_of c.settle_landed.new.self) c.args.flight l n o c.in-Some.place c.args.keep
    c.in-Some.ensures c.in-Some-node_at.ensures mid
    (c.in-Ok.ensures.ok l n o has (sym c.in_ok-value.ensures))

pub returns-in-Err-clause-same : goal.returns-in-Err-clause-same
returns-in-Err-clause-same c =
    let w = world_of c.args.self.now in
    let l = c.in-Some.lead.now in
    let o = c.in-Some.outcome.now in
    let p = c.in-Some.place in
    let mid = c.end.ensures l o p c.in-Some.ensures in
    let back = c.in-Err.ensures.err ∙ mid in
    let at = ap (λ (z : World). slice_get z.flights c.args.flight) back ∙ set_there w.flights c.args.flight _ _ c.in-Some.ensures in
    c.reopen.ensures l o at
    ∙ ap (λ (z : World). with_stage z c.args.flight l (Ready o p)) back
    ∙ stage_back w c.args.flight l (Ready o p) (Ended (Some o)) c.in-Some.ensures

pub returns-in_default-node_at-clause-not_now : goal.returns-in_default-node_at-clause-not_now
returns-in_default-node_at-clause-not_now c = λ same.
    land_lost (world_of c.args.self.now) c.args.flight c.in-Some.lead.now c.in-Some.outcome.now c.in-Some.place c.args.keep
    c.in-Some.ensures c.in_default-node_at.ensures

pub returns-in_err-value-clause-no_memory : goal.returns-in_err-value-clause-no_memory
returns-in_err-value-clause-no_memory c =
    memory_wanted (world_of c.args.self.now) _ (Land c.args.flight c.args.keep) c.from_residual.result
    (land_is (world_of c.args.self.now) c.args.flight c.in-Some.lead.now (node_of c.in-Some-node_at._node.now) c.in-Some.outcome.now
    c.in-Some.place c.args.keep c.in-Some.ensures
    c.in-Some-node_at.ensures)

pub returns-in-Err-clause-no_memory : goal.returns-in-Err-clause-no_memory
returns-in-Err-clause-no_memory c = λ same none.
    none-some _
    (sym none
    ∙ land_is (world_of c.args.self.now) c.args.flight c.in-Some.lead.now (node_of c.in-Some-node_at._node.now) c.in-Some.outcome.now
    c.in-Some.place c.args.keep c.in-Some.ensures
    c.in-Some-node_at.ensures)
