use Rattle.std.proofs.Common.{◌+◌, ◌≤◌, length, arith}
use Rattle.iiif_fixity.proofs.Checking.{step_within, step_there}
use Rattle.iiif_fixity.proofs.checked_source.CheckedSource.read_with.Goals as goal

pub loop-done-preserved : goal.loop-done-preserved
loop-done-preserved g c =
    let fits : c.loop-done.done + c.min-count.result ≤ length c.loop-done.buffer =
    omega (arith, c.min-count.ensures, c.loop-done-test.true) in
    record {
      within = step_within c.loop-done.buffer c.read_part.new.part c.loop-done.done c.min-count.result fits c.in_default.ensures.length;
      kept = c.in_default.ensures.kept;
      there = λ told. step_there (g.S.Source.bytes c.args.self.now.inner) c.loop-done.buffer
          c.read_part.new.part c.args.at c.loop-done.done c.min-count.result (c.loop-done.invariant.there told) fits
          c.in_default.ensures.length (c.in_default.ensures.bytes told);
    }
