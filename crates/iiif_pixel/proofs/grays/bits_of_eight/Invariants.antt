use Rattle.std.proofs.Common.{◌≡◌, ℕ, ◌<◌, length, slice_index}
use Rattle.iiif_pixel.specs.Operations.{black_or_white}
use Rattle.iiif_pixel.proofs.grays.bits_of_eight.Given as goal

abbrev pub invariant-loop-i : goal.invariant-loop-i
invariant-loop-i l = record {
  len : length l.bits.items ≡ length l.grays;
  each : (i : ℕ) → i < l.i → slice_index l.bits.items i ≡ black_or_white 255 (slice_index l.grays i);
}
