use Rattle.std.proofs.Common.{◌≡◌, ℕ, ◌+◌, ◌<◌, vec_len, get_or}
use Rattle.iiif_area.specs.declared.columns.Span.{Span}
use Rattle.iiif_area.specs.Code.{IsSpan}
use Rattle.iiif_area.proofs.columns.spans.Given as goal

abbrev pub invariant-loop-i : goal.invariant-loop-i
invariant-loop-i l = record {
  count : vec_len l.spans ≡ l.i;
  each : (t : ℕ) (d : Span) → t < l.i → IsSpan l.axis (l.first + t) (get_or l.spans.items t d);
}
