use Rattle.std.proofs.Common.{arith, sym, ap, ◌∙◌}
use Rattle.iiif_machine.specs.Steps.{request_stopped}
use Rattle.iiif_machine.proofs.Mixed.{mixed_step, mixed_done}
use Rattle.iiif_machine.proofs.stopping.stop_requests.Goals as goal

pub loop-request-preserved : goal.loop-request-preserved
loop-request-preserved c =
    mixed_step (request_stopped c.args.node) c.args.requests.now c.loop-request.requests c.loop-request.request-index c.request-item.result
    c.stop_request.new.request
    c.loop-request.invariant (omega arith) c.request-item.is
    (c.stop_request.ensures ∙ ap (request_stopped c.args.node) (sym c.request-item.is))

pub returns : goal.returns
returns c = mixed_done (request_stopped c.args.node) c.args.requests.now c.loop-request.requests c.loop-request.request-index
    c.loop-request.invariant (omega arith)
