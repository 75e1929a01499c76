use Rattle.std.proofs.Common.{◌≡◌, ℕ, ◌+◌, ◌-◌, ◌*◌, ◌<◌, ◌≤◌, get_or, length}
use Rattle.iiif_pixel.specs.Picture.{sample_at}
use Rattle.iiif_pixel.specs.Scaling.{sum_from}
use Rattle.iiif_area.proofs.narrow.sum_inner.Given as goal

abbrev pub invariant-loop-s : goal.invariant-loop-s
invariant-loop-s l = record {
  from : l.from ≤ l.s;
  to : l.s ≤ l.to;
  total : (t k : ℕ) → t < l.held.w → k < l.tile.channels → get_or l.short (t * l.tile.channels + k) 0
      ≡ sum_from l.from (l.s - l.from) (λ s. sample_at l.tile (l.held.x + t) (l.held.y + s) k);
  bound : (i : ℕ) → i < length l.short → get_or l.short i 0 ≤ (l.s - l.from) * 255;
}

abbrev pub decreases-loop-s : goal.decreases-loop-s
decreases-loop-s l = l.to - l.s
