use Rattle.std.proofs.Common.{◌≡◌, ℕ, ◌+◌, ◌*◌, ◌<◌, get_or}
use Rattle.iiif_area.proofs.rows.join_rows.Given as goal

abbrev pub invariant-loop-t : goal.invariant-loop-t
invariant-loop-t l = record {
  joined : (i : ℕ) → i < l.t → get_or l.columns i 0 ≡ l.weights.above * get_or l.first i 0 + l.weights.between * get_or l.short i 0
      + l.weights.below * get_or l.last i 0;
}
