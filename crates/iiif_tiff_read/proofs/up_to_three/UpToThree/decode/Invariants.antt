use Rattle.std.proofs.Common.{◌≡◌, ◌*◌, length, map, take}
use Rattle.std.specs.List.{range_with_len}
use Rattle.iiif_tiff.specs.Tiff.{number, width_of, size}
use Rattle.iiif_tiff_read.specs.Code.{endian, code}
use Rattle.iiif_tiff_read.proofs.up_to_three.UpToThree.decode.Given as goal

abbrev pub invariant-loop-i : goal.invariant-loop-i
invariant-loop-i l = (length l.values ≡ 3) × (take l.i l.values ≡ map
    (λ i. number (endian l.order) (width_of (code l.kind)) l.bytes (i * size (code l.kind))) (range_with_len 0 l.i))
