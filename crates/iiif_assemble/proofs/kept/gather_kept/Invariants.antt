use Rattle.std.proofs.Common.{take}
use Rattle.iiif_assemble.specs.Kept.{AreKept, AreOneEach}
use Rattle.iiif_assemble.proofs.kept.gather_kept.Given as goal

-- those so far
abbrev pub invariant-loop-n : goal.invariant-loop-n
invariant-loop-n g l =
    record {
      kept : AreKept (g.B.Items.means l.context.sums.now) l.asked.items;
      each : AreOneEach l.keys (take l.n l.items) l.asked.items;
    }
