-- The files that are refused, and why: checks of the whole file, of which the first that applies is the refusal. Read is the
-- baseline of TIFF 6.0, sections 2 to 8, and tiles, section 15; neither compression, palettes nor planes.
--
--   refusal    why a file is not read
--   check      a refusal where it applies, or none; checks in a row, joined by <|>, give the first that applies
--   fits       an entry is of an unsigned type and an allowed count, and its values end within the file
--   needed     of a field: its absence is a refusal
--   optional   of a field: its absence is none, since it has a default
use Rattle.std.specs.Prelude.{ℕ, ◌+◌, ◌*◌, ◌^◌, Bool, true, false, not, ◌&&◌, ◌||◌, List, [], ◌∷◌, length, map, slice_index, Option, Some}
use Rattle.std.specs.Prelude.{None, is_some, nat_lt, nat_le, ◌==◌, if◌then◌else◌}
use Rattle.std.specs.Option.{option_map_or}
use Rattle.std.specs.List.{range_with_len}
use Rattle.iiif_tiff.specs.Tiff.Tags.{ImageWidth, ImageLength, BitsPerSample, Compression, PhotometricInterpretation, FillOrder}
use Rattle.iiif_tiff.specs.Tiff.Tags.{Orientation, SamplesPerPixel, RowsPerStrip, PlanarConfiguration, TileWidth, TileLength, ExtraSamples}
use Rattle.iiif_tiff.specs.Tiff.Tags.{SampleFormat}
use Rattle.iiif_tiff.specs.Tiff.Structure.{Entry, directory, entry_count, entry_of, is_unsigned, size, is_inside, offset, value_or, all_are}
use Rattle.iiif_tiff.specs.Tiff.Image.{width, height, channels, is_tiled, rows_per_strip, pieces, offsets_tag, counts_tag, piece_offset}
use Rattle.iiif_tiff.specs.Tiff.Image.{piece_byte_count, scheme, piece_bytes}

-- Why a file is not read; a number is the tag of the field at fault. NotTiff: the header isn't one of a TIFF file. Truncated: the
-- directory, the values of a field or a piece end past the file. Missing: a needed field isn't there. Unsupported: a field has a
-- value that isn't read. BadField: a field has a type or a count that isn't allowed, is a side or a number of channels of 0, or
-- counts fewer bytes than its piece needs. TooLarge: the image, a tile or the number of tiles passes the limits.
pub data Refusal : Type 0 where
  NotTiff : Refusal
  Truncated : Refusal
  Missing : ℕ → Refusal
  Unsupported : ℕ → Refusal
  BadField : ℕ → Refusal
  TooLarge : Refusal

-- One check: this refusal, where its condition applies.
abbrev pub line : Bool → Refusal → Option Refusal
line true r = Some r
line false r = None

-- Two checks, of which the first that applies counts.
infixr 20 ◌<|>◌
abbrev pub ◌<|>◌ : Option Refusal → Option Refusal → Option Refusal
None <|> next = next
(Some r) <|> next = Some r

-- The first check of a list that applies.
unfoldable pub first : List (Option Refusal) → Option Refusal
first [] = None
first (check ∷ checks) = check <|> first checks

-- Whether the file has fewer than n bytes.
abbrev pub past_end : List ℕ → ℕ → Bool
past_end bytes n = nat_lt (length bytes) n

-- ---- Section 2: the header and the first directory

-- Section 2, "Image File Header": whether the file begins with these four bytes.
abbrev pub begins : List ℕ → ℕ → ℕ → ℕ → ℕ → Bool
begins bytes a b c d = slice_index bytes 0 == a && slice_index bytes 1 == b && slice_index bytes 2 == c && slice_index bytes 3 == d

-- Section 2, "Image File Header": eight bytes, of which the first four are II 2A 00 or MM 00 2A.
unfoldable pub header : List ℕ → Option Refusal
header bytes =
    line (nat_lt (length bytes) 8) NotTiff
    <|> line (not (begins bytes 73 73 42 0 || begins bytes 77 77 0 42)) NotTiff

-- Section 2, "Image File Directory": the count of entries and the entries end within the file. The offset of the next
-- directory, which follows them, may be missing.
unfoldable pub directory_fits : List ℕ → Option Refusal
directory_fits bytes =
    line (past_end bytes (directory bytes + 2)) Truncated
    <|> line (past_end bytes (directory bytes + 2 + 12 * entry_count bytes)) Truncated

-- Section 2: the header, and then the first directory.
unfoldable pub opening : List ℕ → Option Refusal
opening bytes = header bytes <|> directory_fits bytes

-- ---- Section 2: one field

-- Section 2, "IFD Entry": the type of an entry and its count, and then the end of all its values.
unfoldable pub entry_fits : List ℕ → ℕ → Bool → Entry → Option Refusal
entry_fits bytes tag count_allowed e =
    line (not (is_unsigned e.kind && count_allowed)) (BadField tag)
    <|> line (not (is_inside e) && past_end bytes (offset bytes e + e.count * size e.kind)) Truncated

-- Section 8: a field that has to be there.
unfoldable pub needed : List ℕ → ℕ → (ℕ → Bool) → Option Refusal
needed bytes tag allowed = option_map_or (λ e. entry_fits bytes tag (allowed e.count) e) (entry_of bytes tag) (Some (Missing tag))

-- Section 8: a field with a default.
unfoldable pub optional : List ℕ → ℕ → (ℕ → Bool) → Option Refusal
optional bytes tag allowed = option_map_or (λ e. entry_fits bytes tag (allowed e.count) e) (entry_of bytes tag) None

-- Section 8: a field of one value.
abbrev pub one : ℕ → Bool
one count = count == 1

-- Section 8: a field of one value, or of one for each channel.
abbrev pub one_or : ℕ → ℕ → Bool
one_or n count = count == 1 || count == n

-- Section 8: a field of one value, of which only the default is read.
unfoldable pub only : List ℕ → ℕ → ℕ → Option Refusal
only bytes tag n = optional bytes tag one <|> line (not (value_or bytes tag 0 n == n)) (Unsupported tag)

-- ---- Section 8: sides and samples

-- Section 8, ImageWidth and ImageLength: sides from 1 to 1,000,000, and at most 2^32 pixels.
unfoldable pub sides : List ℕ → Option Refusal
sides bytes =
    needed bytes ImageWidth one <|> line (width bytes == 0) (BadField ImageWidth) <|> line (nat_lt 1000000 (width bytes)) TooLarge
    <|> needed bytes ImageLength one <|> line (height bytes == 0) (BadField ImageLength) <|> line (nat_lt 1000000 (height bytes)) TooLarge
    <|> line (nat_lt (2 ^ 32) (width bytes * height bytes)) TooLarge

-- Section 8, SamplesPerPixel: one channel, or three.
unfoldable pub samples_per_pixel : List ℕ → Option Refusal
samples_per_pixel bytes = optional bytes SamplesPerPixel one <|> line (channels bytes == 0) (BadField SamplesPerPixel) <|> line
    (not (channels bytes == 1 || channels bytes == 3)) (Unsupported SamplesPerPixel)

-- Section 8, BitsPerSample: 8 bits in all channels, or 16, or 1 bit in the only one.
unfoldable pub bits_per_sample : List ℕ → Option Refusal
bits_per_sample bytes = optional bytes BitsPerSample (one_or (channels bytes)) <|> line
    (not (all_are bytes BitsPerSample 1 8 || all_are bytes BitsPerSample 1 16 || channels bytes == 1 && all_are bytes BitsPerSample 1 1))
    (Unsupported BitsPerSample)

-- Section 8, PhotometricInterpretation: WhiteIsZero (0) or BlackIsZero (1) with one channel, RGB (2) with three.
unfoldable pub photometric : List ℕ → Option Refusal
photometric bytes = needed bytes PhotometricInterpretation one <|> line
    (not (if channels bytes == 1 then nat_le (value_or bytes PhotometricInterpretation 0 0) 1 else value_or bytes PhotometricInterpretation
    0 0 == 2)) (Unsupported PhotometricInterpretation)

-- Section 8, PlanarConfiguration: chunky (1). With one channel the field has no meaning, and counts for nothing.
unfoldable pub planar_configuration : List ℕ → Option Refusal
planar_configuration bytes = if channels bytes == 1 then None else only bytes PlanarConfiguration 1

-- Section 18, ExtraSamples: no further channels, whatever the field says.
unfoldable pub extra_samples : List ℕ → Option Refusal
extra_samples bytes = line (is_some (entry_of bytes ExtraSamples)) (Unsupported ExtraSamples)

-- Section 19, SampleFormat: unsigned integers (1).
unfoldable pub sample_format : List ℕ → Option Refusal
sample_format bytes = optional bytes SampleFormat (one_or (channels bytes)) <|> line (not (all_are bytes SampleFormat 1 1))
    (Unsupported SampleFormat)

-- Sections 8, 18 and 19: the samples are of a kind that is read. They have no compression, their high bit first, the first row
-- at the top and the first column at the left.
unfoldable pub samples : List ℕ → Option Refusal
samples bytes =
    samples_per_pixel bytes <|> bits_per_sample bytes <|> only bytes Compression 1 <|> photometric bytes
    <|> only bytes FillOrder 1 <|> only bytes Orientation 1 <|> planar_configuration bytes <|> extra_samples bytes <|> sample_format bytes

-- ---- Sections 8 and 15: strips and tiles

-- Section 15, TileWidth and TileLength: a side from 1 to 2^20. The standard wants multiples of 16; any are taken.
unfoldable pub tile_side : List ℕ → ℕ → Option Refusal
tile_side bytes tag = needed bytes tag one <|> line (value_or bytes tag 0 0 == 0) (BadField tag) <|> line
    (nat_lt (2 ^ 20) (value_or bytes tag 0 0)) TooLarge

-- Section 15: both sides of a tile, and at most 2^20 tiles.
unfoldable pub tile_grid : List ℕ → Option Refusal
tile_grid bytes = tile_side bytes TileWidth <|> tile_side bytes TileLength <|> line (nat_lt (2 ^ 20) (pieces bytes)) TooLarge

-- Section 8, RowsPerStrip: at least one row in a strip.
unfoldable pub strip_grid : List ℕ → Option Refusal
strip_grid bytes = optional bytes RowsPerStrip one <|> line (rows_per_strip bytes == 0) (BadField RowsPerStrip)

-- Sections 8 and 15: how the image is cut into tiles or strips.
unfoldable pub grid : List ℕ → Option Refusal
grid bytes = if is_tiled bytes then tile_grid bytes else strip_grid bytes

-- Sections 8 and 15: piece i has the bytes that it needs or more, and those that it needs end within the file.
unfoldable pub piece : List ℕ → ℕ → Option Refusal
piece bytes i =
    line (nat_lt (piece_byte_count bytes i) (piece_bytes (scheme bytes) i)) (BadField (counts_tag bytes))
    <|> line (past_end bytes (piece_offset bytes i + piece_bytes (scheme bytes) i)) Truncated

-- Sections 8 and 15: an offset and a byte count for each piece or more, and then each piece.
unfoldable pub pieces_fit : List ℕ → Option Refusal
pieces_fit bytes =
    needed bytes (offsets_tag bytes) (nat_le (pieces bytes))
    <|> needed bytes (counts_tag bytes) (nat_le (pieces bytes))
    <|> first (map (piece bytes) (range_with_len 0 (pieces bytes)))

-- ---- The whole file

-- Sections 2 to 19: the refusal of a file, the first check that applies; or none.
unfoldable pub refusal_of : List ℕ → Option Refusal
refusal_of bytes = opening bytes <|> sides bytes <|> samples bytes <|> grid bytes <|> pieces_fit bytes
