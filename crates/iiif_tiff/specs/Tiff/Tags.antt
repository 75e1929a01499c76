-- The tags of fields: those that decide what an image shows (TIFF 6.0, sections 8, 15, 18 and 19), and those of its
-- resolution, which every baseline image has (section 8).
--
--   tag   the number of a field, by which a directory names it (section 2); each definition has the field's name
use Rattle.std.specs.Prelude.{ℕ}

-- Section 8: the columns of the image.
abbrev pub ImageWidth : ℕ
ImageWidth = 256

-- Section 8: the rows of the image.
abbrev pub ImageLength : ℕ
ImageLength = 257

-- Section 8: the bits of a sample, channel by channel.
abbrev pub BitsPerSample : ℕ
BitsPerSample = 258

-- Section 8: 1 is no compression.
abbrev pub Compression : ℕ
Compression = 259

-- Section 8: 0 is WhiteIsZero, 1 BlackIsZero, 2 RGB.
abbrev pub PhotometricInterpretation : ℕ
PhotometricInterpretation = 262

-- Section 8: 1 is the high bit of a byte first.
abbrev pub FillOrder : ℕ
FillOrder = 266

-- Section 8: the offset of each strip.
abbrev pub StripOffsets : ℕ
StripOffsets = 273

-- Section 8: 1 is the first row at the top and the first column at the left.
abbrev pub Orientation : ℕ
Orientation = 274

-- Section 8: the channels of a pixel.
abbrev pub SamplesPerPixel : ℕ
SamplesPerPixel = 277

-- Section 8: the rows of a strip.
abbrev pub RowsPerStrip : ℕ
RowsPerStrip = 278

-- Section 8: the bytes of each strip.
abbrev pub StripByteCounts : ℕ
StripByteCounts = 279

-- Section 8: the columns in a unit of length.
abbrev pub XResolution : ℕ
XResolution = 282

-- Section 8: the rows in a unit of length.
abbrev pub YResolution : ℕ
YResolution = 283

-- Section 8: 1 is chunky: the samples of a pixel side by side.
abbrev pub PlanarConfiguration : ℕ
PlanarConfiguration = 284

-- Section 8: the unit of length of the resolution.
abbrev pub ResolutionUnit : ℕ
ResolutionUnit = 296

-- Section 15: the columns of a tile.
abbrev pub TileWidth : ℕ
TileWidth = 322

-- Section 15: the rows of a tile.
abbrev pub TileLength : ℕ
TileLength = 323

-- Section 15: the offset of each tile.
abbrev pub TileOffsets : ℕ
TileOffsets = 324

-- Section 15: the bytes of each tile.
abbrev pub TileByteCounts : ℕ
TileByteCounts = 325

-- Section 18: the meaning of further channels.
abbrev pub ExtraSamples : ℕ
ExtraSamples = 338

-- Section 19: 1 is unsigned integers.
abbrev pub SampleFormat : ℕ
SampleFormat = 339
