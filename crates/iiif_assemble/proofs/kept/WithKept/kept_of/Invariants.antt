use Rattle.std.proofs.Common.{◌≤◌, length}
use Rattle.iiif_assemble.specs.Kept.{AreKept, AreOfItems}
use Rattle.iiif_assemble.proofs.kept.WithKept.kept_of.Given as goal

-- those so far
abbrev pub invariant-loop-sum : goal.invariant-loop-sum
invariant-loop-sum g l =
    record {
      kept : AreKept (g.B.Items.means l.self.sums.now) l.rest.items;
      own : AreOfItems l.keys l.items l.rest.items;
      few : length l.rest.items ≤ l.sum-index;
    }
