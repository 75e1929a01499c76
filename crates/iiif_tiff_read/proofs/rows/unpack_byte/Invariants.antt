use Rattle.std.proofs.Common.{◌≡◌, ℕ, ◌-◌, ◌*◌, ◌/◌, ◌%◌, ◌^◌, ◌<◌}
use Rattle.std.specs.Prelude.{slice_index}
use Rattle.iiif_tiff_read.proofs.rows.unpack_byte.Given as goal

abbrev pub invariant-loop-bit : goal.invariant-loop-bit
invariant-loop-bit l = (k : ℕ) → k < l.bit → slice_index l.samples k ≡ 255 * (l.byte / 2 ^ (7 - k) % 2)
