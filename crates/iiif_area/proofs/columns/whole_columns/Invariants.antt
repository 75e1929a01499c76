use Rattle.std.proofs.Common.{◌≡◌, ℕ, ◌*◌, ◌<◌, get_or}
use Rattle.iiif_area.specs.declared.columns.Span.{Span}
use Rattle.iiif_area.specs.Code.{IsWholeSpan}
use Rattle.iiif_area.proofs.columns.whole_columns.Given as goal

abbrev pub invariant-loop-span : goal.invariant-loop-span
invariant-loop-span l = record {
  start : l.start ≡ l.span-index * l.columns;
  each : (i : ℕ) (d : Span) → i < l.span-index → IsWholeSpan l.c l.columns i (get_or l.spans i d);
}
