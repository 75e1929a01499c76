use Rattle.std.proofs.Common.{arith, ◌∙◌}
use Rattle.iiif_sum_group.proofs.groups.Groups.get_local.Goals as goal

pub returns-in-Ok-Load : goal.returns-in-Ok-Load
returns-in-Ok-Load g c =
    let entered = c.in-Ok-Load.ensures.counts in
    let made = c.make-made.ensures in
    record {
      below = record {
        sums = omega (arith, entered.counted, made.below.sums);
        tiles = omega (arith, made.below.tiles);
      };
      outcome = c.end.ensures;
      risen = omega (arith, entered.counted, made.counted.1);
      refused = tt;
      counted = (made.counted.0, omega (arith, entered.counted, made.counted.1));
      parts = (made.parts.0, made.parts.1 ∙ entered.parts);
      names = c.in_ok-shape.ensures.names;
      fault = tt;
    }
