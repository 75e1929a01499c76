use Rattle.std.proofs.Common.{◌≡◌, ◌*◌, map, length}
use Rattle.std.specs.List.{range_with_len}
use Rattle.iiif_tiff.specs.Tiff.{number, width_of, size}
use Rattle.iiif_tiff_read.specs.Code.{endian, code}
use Rattle.iiif_tiff_read.proofs.field_type.FieldType.decode_all.Given as goal

abbrev pub invariant-loop-i : goal.invariant-loop-i
invariant-loop-i l = (length l.numbers.items ≡ l.i) ×
    (l.numbers.items ≡ map (λ i. number (endian l.order) (width_of (code l.self)) l.bytes (i * size (code l.self))) (range_with_len 0 l.i))
