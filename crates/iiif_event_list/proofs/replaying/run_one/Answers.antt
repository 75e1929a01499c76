use Rattle.std.proofs.Common.{◌++◌, codes, string_bytes, ap, ◌∙◌}
use Rattle.std.proofs.lemmas.Result.{IfOk-weaker}
use Rattle.iiif_world.specs.Code.{world_of}
use Rattle.iiif_event_list.specs.Texts.{outcome_text, said_text}
use Rattle.iiif_event_list.proofs.Outcome.{done_alone, not_done_alone}
use Rattle.iiif_event_list.proofs.replaying.run_one.Goals as goal

pub returns-in-Ok-clause-come : goal.returns-in-Ok-clause-come
returns-in-Ok-clause-come c =
    let number = c.args.number in
    let line = c.args.line.now in
    let after = world_of c.step.new.self in
    IfOk-weaker c.done.result _ _ (λ o h. done_alone number line (world_of c.args.world.now) after c.args.event o.allowed
    (string_bytes o.text) c.in-Ok.ensures.ok h.0
    (h.1 ∙ ap (λ n. outcome_text number line (codes "done" ++ said_text n c.args.event after)) c.flight_count-flights.ensures))
    c.done.ensures.line

pub returns-clause-come : goal.returns-clause-come
returns-clause-come c =
    IfOk-weaker c.not_done.result _ _ (λ o h. not_done_alone c.args.number c.args.line.now (world_of c.args.world.now)
    (world_of c.step.new.self) c.args.event c.in-Err.fault o.allowed (string_bytes o.text) c.in-Err.ensures.not_now c.in-Err.ensures.same
    h.0 h.1 h.2) c.not_done.ensures.line
