use Rattle.std.proofs.Common.{refl}
use Rattle.iiif_machine.specs.declared.events.Event.TheVariants.{Serve}
use Rattle.iiif_machine.specs.Nodes.{node_of}
use Rattle.iiif_world.specs.Code.{world_of}
use Rattle.iiif_world.proofs.Asked.{memory_wanted, serve_none, serve_lost, serve_mute, serve_is, serve_done}
use Rattle.iiif_world.proofs.contents.Contents.serve.Goals as goal

pub returns-in_default-clause-not_now : goal.returns-in_default-clause-not_now
returns-in_default-clause-not_now c = λ same. serve_none (world_of c.args.self.now) c.args.ask c.in_default.ensures

pub returns-in_default-node_at-clause-not_now : goal.returns-in_default-node_at-clause-not_now
returns-in_default-node_at-clause-not_now c = λ same.
    serve_lost (world_of c.args.self.now) c.args.ask c.in-Some.asked.now c.in-Some.ensures c.in_default-node_at.ensures

pub returns-then-not-speaks-clause-not_now : goal.returns-then-not-speaks-clause-not_now
returns-then-not-speaks-clause-not_now c = λ same.
    serve_mute (world_of c.args.self.now) c.args.ask c.in-Some.asked.now (node_of c.in-Some-node_at.node.now) c.in-Some.ensures
    c.in-Some-node_at.ensures (c.if-not-speaks.ensures.no refl)

pub returns-in_err-caller-clause-no_memory : goal.returns-in_err-caller-clause-no_memory
returns-in_err-caller-clause-no_memory c =
    memory_wanted (world_of c.args.self.now) _ (Serve c.args.ask) c.from_residual.result
    (serve_is (world_of c.args.self.now) c.args.ask c.in-Some.asked.now (node_of c.in-Some-node_at.node.now) c.in-Some.ensures
    c.in-Some-node_at.ensures (c.if-not-speaks.ensures.yes refl))

pub returns-in_err-add_call-clause-no_memory : goal.returns-in_err-add_call-clause-no_memory
returns-in_err-add_call-clause-no_memory c =
    memory_wanted (world_of c.args.self.now) _ (Serve c.args.ask) c.from_residual-in_err-add_call.result
    (serve_is (world_of c.args.self.now) c.args.ask c.in-Some.asked.now (node_of c.in-Some-node_at.node.now) c.in-Some.ensures
    c.in-Some-node_at.ensures (c.if-not-speaks.ensures.yes refl))

pub returns-clause-ok : goal.returns-clause-ok
returns-clause-ok c =
    serve_done (world_of c.args.self.now) (world_of c.add_call.new.self) c.args.ask c.in-Some.asked.now (node_of c.in-Some-node_at.node.now)
    c.in_ok-caller.caller c.in-Some.ensures
    c.in-Some-node_at.ensures (c.if-not-speaks.ensures.yes refl) c.in_ok-caller.ensures c.in_ok-add_call.ensures.ok
