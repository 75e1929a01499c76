use Rattle.std.proofs.Common.{arith}
use Rattle.iiif_source.proofs.RunLemmas.{run_more, runs_together}
use Rattle.iiif_source.proofs.Source.read_runs.Goals as goal

pub returns-then-runs-clause-runs_there : goal.returns-then-runs-clause-runs_there
returns-then-runs-clause-runs_there g c = λ keeps j i below within.
    runs_together (g.Self.Source.bytes c.args.self.now) c.read_at.new.buffer c.args.runs.at c.args.runs.stride c.args.runs.len
    c.args.runs.count _ j i c.if-runs.true c.requires.length (c.in_ok-read_at.ensures.bytes_there keeps) below within

pub loop-j-preserved : goal.loop-j-preserved
loop-j-preserved g c = λ keeps.
    run_more (g.Self.Source.bytes c.args.self.now) c.loop-j.buffer c.read_at-in-loop-j.new.buffer c.args.runs.at c.args.runs.stride
    c.args.runs.len c.args.runs.count c.loop-j.j _
    (search arith) c.loop-j-test.true (omega arith) c.requires.runs.within
    (rw c.begin.ensures at (c.in_ok-read_at-2.ensures.bytes_there keeps)) (c.loop-j.invariant keeps)
