use Rattle.std.proofs.Common.{Some, None, sym, ap, ◌∙◌}
use Rattle.std.specs.Prelude.{slice_get}
use Rattle.std.proofs.lemmas.Option.{slice_get_within}
use Rattle.iiif_machine.specs.Worlds.{World, owner_of}
use Rattle.iiif_machine.specs.declared.events.Event.TheVariants.{AskPeer}
use Rattle.iiif_machine.specs.declared.rows.Stage.TheVariants.{Looked}
use Rattle.iiif_machine.specs.Nodes.{node_of}
use Rattle.iiif_world.specs.Code.{world_of}
use Rattle.iiif_world.proofs.Allowing.{wants_memory}
use Rattle.iiif_world.proofs.Named.{placed_by}
use Rattle.iiif_world.proofs.Stepped.{ask_done, ask_lost, ask_none}
use Rattle.iiif_world.proofs.contents.Contents.ask_peer.Goals as goal

pub returns-in_default-place_of-clause-not_now : goal.returns-in_default-place_of-clause-not_now
returns-in_default-place_of-clause-not_now c = λ same.
    let l = c.in-Some.lead.now in
    ask_none (world_of c.args.self.now) c.args.flight l (node_of c.in-Some-node_at.node.now) c.in-Some.ensures.1 c.in-Some.ensures.0
    c.in-Some-node_at.ensures
    (placed_by c.args.self.now.nodes.items c.deref.result.now (owner_of (node_of c.in-Some-node_at.node.now) l.key) c.in_ok-owner.owner.now
    None c.in_ok-owner.ensures c.deref.ensures.value
    (sym c.place_of.ensures ∙ c.in_default-place_of.is))

pub set_stage-requires : goal.set_stage-requires
set_stage-requires c =
    slice_get_within c.add_ask.new.self.flights.items c.args.flight _
    (ap (λ (z : World). slice_get z.flights c.args.flight) c.in_ok-add_ask.ensures.ok ∙ c.in-Some.ensures.0)

pub returns-clause-ok : goal.returns-clause-ok
returns-clause-ok c =
    let l = c.in-Some.lead.now in
    let at = ap (λ (z : World). slice_get z.flights c.args.flight) c.in_ok-add_ask.ensures.ok ∙ c.in-Some.ensures.0 in
    ask_done (world_of c.args.self.now) (world_of c.add_ask.new.self) (world_of c.set_stage.new.self) c.args.flight c.in-Some-place_of.asked
    c.version-version.result l (node_of c.in-Some-node_at.node.now) c.in_ok-key.key
    c.in-Some.ensures.1 c.in-Some.ensures.0 c.in-Some-node_at.ensures
    (placed_by c.args.self.now.nodes.items c.deref.result.now (owner_of (node_of c.in-Some-node_at.node.now) l.key) c.in_ok-owner.owner.now
    (Some c.in-Some-place_of.asked)
    c.in_ok-owner.ensures c.deref.ensures.value (sym c.place_of.ensures ∙ c.in-Some-place_of.is))
    c.in_ok-key.ensures c.version-version.ensures c.in_ok-add_ask.ensures.ok (c.set_stage.ensures l Looked at)

pub returns-in_err-owner-clause-no_memory : goal.returns-in_err-owner-clause-no_memory
returns-in_err-owner-clause-no_memory c = wants_memory (world_of c.args.self.now) (AskPeer c.args.flight) c.from_residual.result
    c.requires.sound (c.in-Some.lead.now, c.in-Some.ensures.0, c.in-Some.ensures.1)

pub returns-in_err-key-clause-no_memory : goal.returns-in_err-key-clause-no_memory
returns-in_err-key-clause-no_memory c = wants_memory (world_of c.args.self.now) (AskPeer c.args.flight) c.from_residual-in_err-key.result
    c.requires.sound (c.in-Some.lead.now, c.in-Some.ensures.0, c.in-Some.ensures.1)

pub returns-in_err-add_ask-clause-no_memory : goal.returns-in_err-add_ask-clause-no_memory
returns-in_err-add_ask-clause-no_memory c = wants_memory (world_of c.args.self.now) (AskPeer c.args.flight)
    c.from_residual-in_err-add_ask.result c.requires.sound (c.in-Some.lead.now, c.in-Some.ensures.0, c.in-Some.ensures.1)

pub returns-in_default-node_at-clause-not_now : goal.returns-in_default-node_at-clause-not_now
returns-in_default-node_at-clause-not_now c = λ same.
    ask_lost (world_of c.args.self.now) c.args.flight c.in-Some.lead.now c.in-Some.ensures.0 c.in_default-node_at.ensures
