use Rattle.std.proofs.Common.{◌≡◌, ℕ, ◌+◌, ◌-◌, ◌*◌, ◌^◌, ◌<◌, ◌≤◌, ◌⊎◌, min, get_or}
use Rattle.iiif_area.proofs.adding.add_eight.Given as goal

abbrev pub invariant-loop-k : goal.invariant-loop-k
invariant-loop-k l = record {
  added : (i : ℕ) → i < l.k → get_or l.sums (l.to + i) 0 ≡ min (2 ^ 64 - 1)
      (get_or l.initial.sums (l.to + i) 0 + l.weight * get_or l.samples (l.from + i) 0);
  kept : (i : ℕ) → (i < l.to) ⊎ (l.to + l.k ≤ i) → get_or l.sums i 0 ≡ get_or l.initial.sums i 0;
}
