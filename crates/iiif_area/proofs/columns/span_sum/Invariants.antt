use Rattle.std.proofs.Common.{◌≡◌, ◌+◌, ◌-◌, ◌*◌, ◌≤◌, get_or}
use Rattle.iiif_pixel.specs.Scaling.{sum_from}
use Rattle.iiif_area.proofs.columns.span_sum.Given as goal

abbrev pub invariant-loop-t : goal.invariant-loop-t
invariant-loop-t g l = record {
  within : l.t ≤ l.span.start + 1 + (l.span.end - 1 - (l.span.start + 1));
  added : l.inner ≡ sum_from (l.span.start + 1) (l.t - (l.span.start + 1))
      (λ t. get_or (g.N.Cell.numbers l.columns) (t * l.channels + l.k) 0);
}
