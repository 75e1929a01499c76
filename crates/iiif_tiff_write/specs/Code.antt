-- Words of private functions: rows of bits, and how far a loop has come.
--
--   bit_of samples i            the bit of sample i
--   byte_from samples i         the byte of samples i to i + 7
--   packed_bytes samples n      the first n bytes of a row of bits
--   packed_row samples          all bytes of a row of bits
--   rows_before kind p n        the first n rows of a strip
use Rattle.std.specs.Prelude.{ℕ, ◌+◌, ◌*◌, List, [], ◌∷◌, length, slice_index, nat_lt, if◌then◌else◌}
use Rattle.std.specs.Int.{div_ceil}
use Rattle.iiif_pixel.specs.Picture.{Picture, joined}
use Rattle.iiif_tiff_write.specs.File.{white_bit, packed, row}
use Rattle.iiif_tiff_write.specs.declared.kind.OutKind.{OutKind}

-- sample i of a row of 8 bits as a bit; 0 behind the last one
abbrev pub bit_of : List ℕ → ℕ → ℕ
bit_of samples i = if nat_lt i (length samples) then white_bit 255 (slice_index samples i) else 0

-- eight bits in a byte, that of sample i in the highest
unfoldable pub byte_from : List ℕ → ℕ → ℕ
byte_from samples i = packed (λ b. bit_of samples (i + b))

-- one byte for eight samples each
unfoldable pub packed_bytes : List ℕ → ℕ → List ℕ
packed_bytes samples n = joined n (λ j. byte_from samples (8 * j) ∷ [])

-- the last byte may be of fewer than eight samples
abbrev pub packed_row : List ℕ → List ℕ
packed_row samples = packed_bytes samples (div_ceil (length samples) 8)

-- rows one after another, from the top
unfoldable pub rows_before : OutKind → Picture → ℕ → List ℕ
rows_before kind p n = joined n (row kind p)
