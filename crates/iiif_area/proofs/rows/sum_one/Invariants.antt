use Rattle.std.proofs.Common.{◌≡◌, ℕ, ◌+◌, ◌<◌, ◌≤◌, get_or}
use Rattle.iiif_area.proofs.rows.sum_one.Given as goal

abbrev pub invariant-loop-t : goal.invariant-loop-t
invariant-loop-t l = record {
  added : (i : ℕ) → i < l.t → get_or l.short i 0 ≡ get_or l.initial.short i 0 + get_or l.row i 0;
  kept : (i : ℕ) → l.t ≤ i → get_or l.short i 0 ≡ get_or l.initial.short i 0;
}
