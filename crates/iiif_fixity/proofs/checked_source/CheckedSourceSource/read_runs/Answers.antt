use Rattle.std.proofs.Common.{arith}
use Rattle.iiif_source.proofs.RunLemmas.{run_more}
use Rattle.iiif_fixity.proofs.checked_source.CheckedSourceSource.read_runs.Goals as goal

pub returns-in-Err-clause-place : goal.returns-in-Err-clause-place
returns-in-Err-clause-place g c = (c.loop-j.j, c.loop-j-test.true, c.in-Err.ensures.place)

pub loop-j-preserved : goal.loop-j-preserved
loop-j-preserved g c = record {
  kept = c.in_default.ensures.kept;
  there = λ told.
      run_more (g.S.Source.bytes c.args.self.now.inner) c.loop-j.buffer c.read_with.new.buffer c.args.runs.at c.args.runs.stride
      c.args.runs.len c.args.runs.count c.loop-j.j _
      (search arith) c.loop-j-test.true (omega arith) c.requires.runs.within
      (c.in_default.ensures.bytes told) (c.loop-j.invariant.there told);
}
