use Rattle.std.proofs.Common.{◌≡◌, ◌+◌, ◌++◌, map, take, vec_capacity, vec_len}
use Rattle.iiif_area.specs.Grid.{average_within}
use Rattle.iiif_area.proofs.averages.push_small_eight.Given as goal

abbrev pub invariant-loop-sum : goal.invariant-loop-sum
invariant-loop-sum l = record {
  values : l.samples.items ≡ l.initial.samples.items ++ map (average_within l.area 255) (take l.sum-index l.sums);
  count : vec_len l.samples ≡ vec_len l.initial.samples + l.sum-index;
  capacity : vec_capacity l.samples ≡ vec_capacity l.initial.samples;
}
