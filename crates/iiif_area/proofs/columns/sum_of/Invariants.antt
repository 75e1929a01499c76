use Rattle.std.proofs.Common.{◌≡◌, ◌+◌, ◌*◌, get_or}
use Rattle.iiif_pixel.specs.Scaling.{sum_from}
use Rattle.iiif_area.proofs.columns.sum_of.Given as goal

abbrev pub invariant-loop-t : goal.invariant-loop-t
invariant-loop-t g l = record { added : l.sum ≡ sum_from l.start l.t (λ t. get_or (g.N.Cell.numbers l.columns) (t * l.channels + l.k) 0) }
