use Rattle.std.proofs.Common.{◌≡◌, ℕ, ◌+◌, ◌-◌, ◌<◌, ◌≤◌, ◌^◌, min, get_or}
use Rattle.iiif_area.proofs.merging.add_saturating.Given as goal

abbrev pub invariant-loop-k : goal.invariant-loop-k
invariant-loop-k l = record {
  added : (i : ℕ) → i < l.k → get_or l.sums i 0 ≡ min (2 ^ 64 - 1) (get_or l.initial.sums i 0 + get_or l.more i 0);
  kept : (i : ℕ) → l.k ≤ i → get_or l.sums i 0 ≡ get_or l.initial.sums i 0;
}
