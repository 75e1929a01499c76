use Rattle.std.proofs.Common.{arith}
use Rattle.iiif_world.specs.Settling.{answered_if}
use Rattle.iiif_world.proofs.Changed.{joined_step, joined_done}
use Rattle.iiif_world.proofs.settling.put_answers.Goals as goal

pub loop-answer-preserved : goal.loop-answer-preserved
loop-answer-preserved c =
    joined_step answered_if c.loop-answer.requests.items _ c.loop-answer.left.items c.pop.new.self.items c.in-Some.answer
    c.index_mut.result.now c.put_answer.new.wanted c.len-place.result
    (omega (arith, c.len-place.ensures, c.pop.new.self.ok.0)) c.in-Some.ensures.items c.loop-answer.invariant.0 c.loop-answer.invariant.1
    c.index_mut.ensures.value c.put_answer.ensures

pub returns : goal.returns
returns c =
    joined_done answered_if c.loop-answer.requests.items _ c.loop-answer.left.items c.loop-answer.invariant.1
    (omega (arith, c.in_default.ensures.cases.0, c.loop-answer.left.ok.0))
