use Rattle.std.proofs.Common.{◌≡◌, ℕ, ◌<◌, length, slice_index}
use Rattle.iiif_pixel.specs.Code.{gray_sample}
use Rattle.iiif_pixel.proofs.grays.grays_of_sixteen.Given as goal

abbrev pub invariant-loop-i : goal.invariant-loop-i
invariant-loop-i l = record {
  len : length l.grays.items ≡ l.count;
  each : (i : ℕ) → i < l.i → slice_index l.grays.items i ≡ gray_sample l.samples 3 i;
}
