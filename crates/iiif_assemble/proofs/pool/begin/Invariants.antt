use Rattle.std.proofs.Common.{◌≡◌, length, map, take}
use Rattle.std.specs.Arc.{arc_value}
use Rattle.iiif_assemble.specs.Gathering.{AreValues}
use Rattle.iiif_assemble.proofs.pool.begin.Given as goal

-- the items so far
abbrev pub invariant-loop-n : goal.invariant-loop-n
invariant-loop-n g l =
    record {
      count : length l.values.items ≡ l.n;
      values : AreValues (g.G.Items.means l.pool.group.now) l.keys (take l.n l.items) (map arc_value l.values.items);
    }
