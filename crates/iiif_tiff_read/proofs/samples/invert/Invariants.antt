use Rattle.std.proofs.Common.{◌≡◌, ℕ, ◌-◌, ◌<◌, ◌≤◌, get_or}
use Rattle.iiif_tiff_read.proofs.samples.invert.Given as goal

abbrev pub invariant-loop-v : goal.invariant-loop-v
invariant-loop-v l = ((k : ℕ) → k < l.v-index → get_or l.samples k 0 ≡ 255 - get_or l.fn.samples k 0) ×
    ((k : ℕ) → l.v-index ≤ k → get_or l.samples k 0 ≡ get_or l.fn.samples k 0)
