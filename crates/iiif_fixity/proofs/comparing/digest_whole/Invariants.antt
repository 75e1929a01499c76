use Rattle.std.proofs.Common.{◌≤◌, ◌-◌}
use Rattle.iiif_fixity.specs.Reads.{IsFed}
use Rattle.iiif_fixity.proofs.comparing.digest_whole.Given as goal

-- the hasher was fed with the front of the file
abbrev pub invariant-loop-at : goal.invariant-loop-at
invariant-loop-at g l = record {
  within : l.at ≤ l.len;
  fed : IsFed (g.S.Source.keeps l.source) (g.S.Source.bytes l.source) l.at l.hasher;
}

abbrev pub decreases-loop-at : goal.decreases-loop-at
decreases-loop-at g l = l.len - l.at
