use Rattle.std.proofs.Common.{arith, sym, ap, ◌∙◌}
use Rattle.iiif_machine.specs.Steps.{call_stopped}
use Rattle.iiif_machine.proofs.Mixed.{mixed_step, mixed_done}
use Rattle.iiif_machine.proofs.stopping.stop_calls.Goals as goal

pub loop-call-preserved : goal.loop-call-preserved
loop-call-preserved c =
    mixed_step (call_stopped c.args.node) c.args.calls.now c.loop-call.calls c.loop-call.call-index c.call-item.result c.stop_call.new.call
    c.loop-call.invariant (omega arith) c.call-item.is (c.stop_call.ensures ∙ ap (call_stopped c.args.node) (sym c.call-item.is))

pub returns : goal.returns
returns c = mixed_done (call_stopped c.args.node) c.args.calls.now c.loop-call.calls c.loop-call.call-index c.loop-call.invariant
    (omega arith)
