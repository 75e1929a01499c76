use Rattle.std.proofs.Common.{◌≡◌, ◌+◌, ◌*◌, get_or, vec_capacity}
use Rattle.iiif_pixel.specs.Scaling.{sum_from}
use Rattle.iiif_area.specs.Code.{IsMore}
use Rattle.iiif_area.proofs.columns.with_whole_of.Given as goal

abbrev pub invariant-loop-i : goal.invariant-loop-i
invariant-loop-i g l = record {
  row : IsMore l.initial.sums.items l.sums.items l.channels (l.i * l.channels)
      (λ i k. l.c * sum_from (i * l.n) l.n (λ t. get_or (g.N.Cell.numbers l.columns) (t * l.channels + k) 0));
  capacity : vec_capacity l.sums ≡ vec_capacity l.initial.sums;
}

abbrev pub invariant-loop-k : goal.invariant-loop-k
invariant-loop-k g l = record {
  row : IsMore l.fn.sums.items l.sums.items l.channels (l.i * l.channels + l.k)
      (λ i k. l.c * sum_from (i * l.n) l.n (λ t. get_or (g.N.Cell.numbers l.columns) (t * l.channels + k) 0));
  capacity : vec_capacity l.sums ≡ vec_capacity l.fn.sums;
}
