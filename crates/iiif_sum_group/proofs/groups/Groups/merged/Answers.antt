use Rattle.std.proofs.Common.{rules}
use Rattle.iiif_sum_group.proofs.SumLemmas.{answered_values}
use Rattle.iiif_sum_group.proofs.groups.Groups.merged.Goals as goal

pub combine_parts-requires : goal.combine_parts-requires
combine_parts-requires g c = record {
  known = c.in-Ok.ensures.known;
  source = search rules;
  fits = search rules;
  level = c.requires.level;
  values_are = answered_values c.laws.ensures.shapes g.J.System.pictures _ g.J.System.stable g.J.System.honest c.args.key.now _
      c.args.values.items c.in-Ok.ensures.known (c.parts_are_exact.ensures.below c.args.key.now c.requires.level) c.requires.values;
}
