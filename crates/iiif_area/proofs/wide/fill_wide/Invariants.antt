use Rattle.std.proofs.Common.{◌≡◌, ℕ, ◌+◌, ◌-◌, ◌*◌, ◌<◌, ◌≤◌, get_or, length}
use Rattle.iiif_pixel.specs.Picture.{sample_at}
use Rattle.iiif_pixel.specs.Scaling.{sum_from, weight_of}
use Rattle.iiif_area.specs.declared.wide.TheConstants.{FEW}
use Rattle.iiif_area.proofs.wide.fill_wide.Given as goal

abbrev pub invariant-loop-s : goal.invariant-loop-s
invariant-loop-s l = record {
  total : (t k : ℕ) → t < l.held.w → k < l.tile.channels →
      get_or l.columns (t * l.tile.channels + k) 0 + l.rows.c * get_or l.inner (t * l.tile.channels + k) 0
      ≡ sum_from l.start (l.s - l.start) (λ s.
      weight_of l.j (l.rows.from + s) l.rows.a l.rows.c * sample_at l.tile (l.held.x + t) (l.held.y + s) k);
  bound : (i : ℕ) → i < length l.inner → get_or l.inner i 0 ≤ (l.s - l.start) * 65535;
  clear : l.end ≤ l.start + FEW → (i : ℕ) → i < length l.inner → get_or l.inner i 0 ≡ 0;
}
