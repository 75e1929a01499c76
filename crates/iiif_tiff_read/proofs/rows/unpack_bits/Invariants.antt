use Rattle.std.proofs.Common.{◌≡◌, ℕ, ◌+◌, ◌-◌, ◌<◌, ◌≤◌, length}
use Rattle.std.specs.Prelude.{slice_index}
use Rattle.iiif_tiff.specs.Tiff.{stored}
use Rattle.iiif_tiff_read.proofs.rows.unpack_bits.Given as goal

abbrev pub invariant-loop-i : goal.invariant-loop-i
invariant-loop-i l = (length l.samples ≡ length l.initial.samples) × (l.i ≤ length l.samples)
    × ((k : ℕ) → k < l.i → slice_index l.samples k ≡ stored 1 l.bytes 0 (l.skip + k))

abbrev pub decreases-loop-i : goal.decreases-loop-i
decreases-loop-i l = length l.samples - l.i
