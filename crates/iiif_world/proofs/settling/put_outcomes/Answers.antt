use Rattle.std.proofs.Common.{arith}
use Rattle.iiif_world.specs.Settling.{ready_if}
use Rattle.iiif_world.proofs.Changed.{joined_step, joined_done}
use Rattle.iiif_world.proofs.settling.put_outcomes.Goals as goal

pub loop-outcome-preserved : goal.loop-outcome-preserved
loop-outcome-preserved c =
    joined_step ready_if c.loop-outcome.flights.items _ c.loop-outcome.left.items c.pop.new.self.items c.in-Some.outcome
    c.index_mut.result.now c.put_outcome.new.flight c.len-place.result
    (omega (arith, c.len-place.ensures, c.pop.new.self.ok.0)) c.in-Some.ensures.items c.loop-outcome.invariant.0 c.loop-outcome.invariant.1
    c.index_mut.ensures.value c.put_outcome.ensures

pub returns : goal.returns
returns c =
    joined_done ready_if c.loop-outcome.flights.items _ c.loop-outcome.left.items c.loop-outcome.invariant.1
    (omega (arith, c.in_default.ensures.cases.0, c.loop-outcome.left.ok.0))
