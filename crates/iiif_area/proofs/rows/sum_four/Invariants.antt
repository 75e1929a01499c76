use Rattle.std.proofs.Common.{◌≡◌, ℕ, ◌+◌, ◌<◌, ◌≤◌, get_or}
use Rattle.iiif_area.proofs.rows.sum_four.Given as goal

abbrev pub invariant-loop-t : goal.invariant-loop-t
invariant-loop-t l = record {
  added : (i : ℕ) → i < l.t → get_or l.short i 0 ≡ get_or l.initial.short i 0 +
      (get_or l.a i 0 + get_or l.b i 0 + get_or l.c i 0 + get_or l.d i 0);
  kept : (i : ℕ) → l.t ≤ i → get_or l.short i 0 ≡ get_or l.initial.short i 0;
}
