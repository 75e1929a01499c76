use Rattle.std.proofs.Common.{◌≡◌, ℕ, ◌*◌, ◌<◌, length, get_or}
use Rattle.std.specs.Int.{w16}
use Rattle.iiif_tiff.specs.Tiff.{number, sample_of}
use Rattle.iiif_tiff_read.specs.Code.{endian}
use Rattle.iiif_tiff_read.proofs.samples.interpret_pairs.Given as goal

abbrev pub invariant-loop-i : goal.invariant-loop-i
invariant-loop-i l = (length l.samples ≡ length l.initial.samples)
    × ((k : ℕ) → k < l.i → get_or l.samples k 0 ≡ sample_of l.white_is_zero 65535 (number (endian l.order) w16 l.bytes (2 * k)))
