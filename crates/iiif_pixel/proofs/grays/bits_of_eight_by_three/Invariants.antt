use Rattle.std.proofs.Common.{◌≡◌, ℕ, ◌<◌, length, slice_index}
use Rattle.iiif_pixel.specs.Operations.{black_or_white}
use Rattle.iiif_pixel.specs.Code.{gray_sample}
use Rattle.iiif_pixel.proofs.grays.bits_of_eight_by_three.Given as goal

abbrev pub invariant-loop-i : goal.invariant-loop-i
invariant-loop-i l = record {
  len : length l.bits.items ≡ l.count;
  each : (i : ℕ) → i < l.i → slice_index l.bits.items i ≡ black_or_white 255 (gray_sample l.samples 3 i);
}
