-- The image that the fields describe: its sides, its samples, and the strips or tiles that hold them.
--
--   channels   samples of a pixel (SamplesPerPixel)
--   white      the greatest sample that is shown
--   piece      a strip or a tile; strips are as wide as the image
--   scheme     all that the fields say of where the samples stand
use Rattle.std.specs.Prelude.{ℕ, ◌*◌, ◌-◌, ◌^◌, Bool, List, map, min, is_some, ◌==◌, if◌then◌else◌}
use Rattle.std.specs.List.{range_with_len}
use Rattle.std.specs.Int.{div_ceil}
use Rattle.iiif_tiff.specs.Tiff.Tags.{ImageWidth, ImageLength, BitsPerSample, PhotometricInterpretation, SamplesPerPixel, RowsPerStrip}
use Rattle.iiif_tiff.specs.Tiff.Tags.{StripOffsets, StripByteCounts, TileWidth, TileLength, TileOffsets, TileByteCounts}
use Rattle.iiif_tiff.specs.Tiff.Structure.{ByteOrder, order, entry_of, value_or, all_are}

-- Section 8, ImageWidth: the columns of the image.
abbrev pub width : List ℕ → ℕ
width bytes = value_or bytes ImageWidth 0 0

-- Section 8, ImageLength: the rows of the image.
abbrev pub height : List ℕ → ℕ
height bytes = value_or bytes ImageLength 0 0

-- Section 8, SamplesPerPixel: 1 where there is no such field.
abbrev pub channels : List ℕ → ℕ
channels bytes = value_or bytes SamplesPerPixel 0 1

-- Section 8, BitsPerSample: 8 or 16 where all channels have so many, else the one bit of a bilevel image.
abbrev pub bits : List ℕ → ℕ
bits bytes = if all_are bytes BitsPerSample 1 8 then 8 else (if all_are bytes BitsPerSample 1 16 then 16 else 1)

-- Section 8, BitsPerSample: the greatest sample that is shown, which is white; a bit is shown in 8 bits.
abbrev pub white_of : ℕ → ℕ
white_of bits = if bits == 16 then 65535 else 255

-- Section 8, PhotometricInterpretation: 0 is WhiteIsZero.
abbrev pub white_is_zero : List ℕ → Bool
white_is_zero bytes = value_or bytes PhotometricInterpretation 0 0 == 0

-- Section 15, TileWidth: an image with this field is cut into tiles, any other into strips.
abbrev pub is_tiled : List ℕ → Bool
is_tiled bytes = is_some (entry_of bytes TileWidth)

-- Section 8, RowsPerStrip: without the field the image is one strip.
abbrev pub rows_per_strip : List ℕ → ℕ
rows_per_strip bytes = value_or bytes RowsPerStrip 0 (2 ^ 32 - 1)

-- Section 15, TileWidth: the columns of a tile.
abbrev pub tile_width : List ℕ → ℕ
tile_width bytes = value_or bytes TileWidth 0 0

-- Section 15, TileLength: the rows of a tile.
abbrev pub tile_length : List ℕ → ℕ
tile_length bytes = value_or bytes TileLength 0 0

-- Sections 3 and 15: the columns of a piece; a strip is as wide as the image.
abbrev pub piece_width : List ℕ → ℕ
piece_width bytes = if is_tiled bytes then tile_width bytes else width bytes

-- Sections 8 and 15, RowsPerStrip and TileLength: the rows of a piece.
abbrev pub piece_height : List ℕ → ℕ
piece_height bytes = if is_tiled bytes then tile_length bytes else rows_per_strip bytes

-- Section 15, "TilesAcross": the pieces side by side; one strip.
abbrev pub tiles_across : List ℕ → ℕ
tiles_across bytes = div_ceil (width bytes) (piece_width bytes)

-- Section 15, "TilesDown", and section 8, "StripsPerImage": the pieces one below another.
abbrev pub tiles_down : List ℕ → ℕ
tiles_down bytes = div_ceil (height bytes) (piece_height bytes)

-- Section 15, "TilesPerImage", and section 8, "StripsPerImage": all pieces.
abbrev pub pieces : List ℕ → ℕ
pieces bytes = tiles_across bytes * tiles_down bytes

-- Sections 8 and 15, StripOffsets and TileOffsets: the field of the pieces' offsets.
abbrev pub offsets_tag : List ℕ → ℕ
offsets_tag bytes = if is_tiled bytes then TileOffsets else StripOffsets

-- Sections 8 and 15, StripByteCounts and TileByteCounts: the field of the pieces' byte counts.
abbrev pub counts_tag : List ℕ → ℕ
counts_tag bytes = if is_tiled bytes then TileByteCounts else StripByteCounts

-- Sections 8 and 15: the offset of piece i. Strips count from the top, tiles from left to right and then from the top.
abbrev pub piece_offset : List ℕ → ℕ → ℕ
piece_offset bytes i = value_or bytes (offsets_tag bytes) i 0

-- Sections 8 and 15: the byte count of piece i.
abbrev pub piece_byte_count : List ℕ → ℕ → ℕ
piece_byte_count bytes i = value_or bytes (counts_tag bytes) i 0

-- Sections 8 and 15: where the samples of an image stand, all that its fields say of it.
pub record Scheme : Type 0 where
  pub order : ByteOrder
  pub width : ℕ
  pub height : ℕ
  pub channels : ℕ
  pub bits : ℕ
  pub white_is_zero : Bool
  pub tiled : Bool
  pub piece_width : ℕ
  pub piece_height : ℕ
  pub tiles_across : ℕ
  pub offsets : List ℕ

-- Sections 8 and 15: the scheme of a file.
abbrev pub scheme : List ℕ → Scheme
scheme bytes = record {
  order = order bytes;
  width = width bytes;
  height = height bytes;
  channels = channels bytes;
  bits = bits bytes;
  white_is_zero = white_is_zero bytes;
  tiled = is_tiled bytes;
  piece_width = piece_width bytes;
  piece_height = piece_height bytes;
  tiles_across = tiles_across bytes;
  offsets = map (piece_offset bytes) (range_with_len 0 (pieces bytes));
}

-- Section 8, Compression 1: the bytes of a row of a piece. Its samples are packed, and the row is padded to whole bytes.
abbrev pub row_bytes : Scheme → ℕ
row_bytes s = div_ceil (s.piece_width * s.channels * s.bits) 8

-- Sections 3 and 15: the rows of piece i. A tile at the edge is padded to its full length; the last strip may be shorter.
abbrev pub piece_rows : Scheme → ℕ → ℕ
piece_rows s i = if s.tiled then s.piece_height else min s.piece_height (s.height - i * s.piece_height)

-- Sections 3 and 15: the bytes that piece i needs.
unfoldable pub piece_bytes : Scheme → ℕ → ℕ
piece_bytes s i = piece_rows s i * row_bytes s
