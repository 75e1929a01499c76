use Rattle.std.proofs.Common.{◌≡◌, ◌*◌, ◌+◌, ◌-◌, ◌≤◌, take}
use Rattle.std.specs.Prelude.{◌^◌, IsTrue}
use Rattle.iiif_sum_group.specs.Below.{blocks_below}
use Rattle.iiif_sum_group.specs.Values.{AreValuesOf}
use Rattle.iiif_sum_group.proofs.+sums.Given as goal

-- the parts so far
abbrev pub invariant-below::Below::ask_parts-loop-part : goal.invariant-below::Below::ask_parts-loop-part
invariant-below::Below::ask_parts-loop-part g l =
    record {
      values : AreValuesOf g.J.System.pictures l.shape (g.J.System.stable l.key.name × IsTrue g.J.System.honest) (take l.part-index l.keys)
          l.values.items;
      tile : l.fn.passes.tile.gets ≤ l.passes.tile.gets;
      sum : l.fn.passes.sum.gets + l.part-index ≤ l.passes.sum.gets;
      most_sum : l.passes.sum.gets ≤ l.fn.passes.sum.gets + l.part-index * (2 * (1 + blocks_below (l.key.level - 1)));
      most_tile : l.passes.tile.gets ≤ l.fn.passes.tile.gets + l.part-index * (2 * 4 ^ (l.key.level - 1));
      tile_parts : l.passes.tile.parts ≡ l.fn.passes.tile.parts;
      sum_parts : l.passes.sum.parts ≡ l.fn.passes.sum.parts;
    }

-- the level falls from a sum to its parts, and a sum is made for its own flight
abbrev pub decreases-below::Below::ask_part : goal.decreases-below::Below::ask_part
decreases-below::Below::ask_part g l = 5 * l.key.now.level + 4

abbrev pub decreases-groups::Groups::enter : goal.decreases-groups::Groups::enter
decreases-groups::Groups::enter g l = 5 * l.key.now.level + 3

abbrev pub decreases-below::Below::make : goal.decreases-below::Below::make
decreases-below::Below::make g l = 5 * l.key.now.level + 2

abbrev pub decreases-below::Below::make_of_parts : goal.decreases-below::Below::make_of_parts
decreases-below::Below::make_of_parts g l = 5 * l.key.now.level + 1

abbrev pub decreases-below::Below::ask_parts : goal.decreases-below::Below::ask_parts
decreases-below::Below::ask_parts g l = 5 * l.key.now.level
