-- The TIFF 6.0 file of a picture: low bytes first, one directory, one strip, no compression. Sections are those of TIFF 6.0.
--
--   file p kind                     the whole file: head, then strip
--   head_of kind dim                header, directory, values outside of the directory
--   header                          byte order, 42, offset of the directory
--   directory kind dim              how many entries, the entries, no further directory
--   fields kind dim                 the entries, by rising tags
--   short_field, long_field         an entry of one SHORT or one LONG
--   shorts_field_at                 an entry of several SHORTs, which stand at an offset
--   rational_field_at               an entry of one RATIONAL, which stands at an offset
--   entry_bytes e                   the twelve bytes of an entry
--   outside kind                    values that stand outside of the directory
--   strip kind p                    all rows, one after another from the top
--   row kind p y                    the bytes of row y
--   white_bit, packed, bit_at       samples as bits, and eight bits as a byte
--   row_len, strip_len, file_len    lengths of a row, of the strip, of the file
--   strip_offset kind               where the strip begins
use Rattle.std.specs.Prelude.{ℕ, ◌+◌, ◌*◌, ◌/◌, List, [], ◌∷◌, ◌++◌, codes, length, nat_lt, if◌then◌else◌}
use Rattle.std.specs.List.{flat_map}
use Rattle.std.specs.Int.{w16, w32, to_le_bytes, div_ceil}
use Rattle.iiif_pixel.specs.declared.geometry.Dim.{Dim}
use Rattle.iiif_pixel.specs.Picture.{Picture, dim_of, joined, row_of, sample_at}
use Rattle.iiif_tiff.specs.Tiff.{Entry, ImageWidth, ImageLength, BitsPerSample, Compression, PhotometricInterpretation, StripOffsets}
use Rattle.iiif_tiff.specs.Tiff.{SamplesPerPixel, RowsPerStrip, StripByteCounts, XResolution, YResolution, ResolutionUnit}
use Rattle.iiif_tiff_write.specs.OutKind.{samples_per_pixel}
use Rattle.iiif_tiff_write.specs.declared.kind.OutKind.{OutKind}
use Rattle.iiif_tiff_write.specs.declared.kind.OutKind.TheVariants.{Gray, Rgb, Bitonal, Gray16, Rgb16}

-- ---- Section 2: entries of the directory

-- Section 2, "IFD Entry": tag, type, count, and the four bytes that hold the value or its offset.
abbrev pub entry_bytes : Entry → List ℕ
entry_bytes e = to_le_bytes w16 e.tag ++ to_le_bytes w16 e.kind ++ to_le_bytes w32 e.count ++ e.inside

-- Section 2, "Types", SHORT (3): one value of 16 bits, which fills the first two of the four bytes.
abbrev pub short_field : ℕ → ℕ → Entry
short_field tag value = record { tag = tag; kind = 3; count = 1; inside = to_le_bytes w16 value ++ 0 ∷ 0 ∷ [] }

-- Section 2, "Types", LONG (4): one value of 32 bits.
abbrev pub long_field : ℕ → ℕ → Entry
long_field tag value = record { tag = tag; kind = 4; count = 1; inside = to_le_bytes w32 value }

-- Section 2, "Value/Offset": several SHORTs don't fit four bytes, so the entry has their offset.
abbrev pub shorts_field_at : ℕ → ℕ → ℕ → Entry
shorts_field_at tag count offset = record { tag = tag; kind = 3; count = count; inside = to_le_bytes w32 offset }

-- Section 2, "Types", RATIONAL (5): eight bytes don't fit four, so the entry has their offset.
abbrev pub rational_field_at : ℕ → ℕ → Entry
rational_field_at tag offset = record { tag = tag; kind = 5; count = 1; inside = to_le_bytes w32 offset }

-- ---- What differs from kind to kind

-- BitsPerSample, sections 3, 4 and 6: 1 in bilevel files; 8 or 16 in grayscale files; three such numbers in RGB files, which
-- stand behind the resolutions.
abbrev pub bits_per_sample : OutKind → Entry
bits_per_sample Gray = short_field BitsPerSample 8
bits_per_sample Rgb = shorts_field_at BitsPerSample 3 174
bits_per_sample Bitonal = short_field BitsPerSample 1
bits_per_sample Gray16 = short_field BitsPerSample 16
bits_per_sample Rgb16 = shorts_field_at BitsPerSample 3 174

-- BitsPerSample of red, green and blue
abbrev pub bits_outside : OutKind → List ℕ
bits_outside Gray = []
bits_outside Rgb = to_le_bytes w16 8 ++ to_le_bytes w16 8 ++ to_le_bytes w16 8
bits_outside Bitonal = []
bits_outside Gray16 = []
bits_outside Rgb16 = to_le_bytes w16 16 ++ to_le_bytes w16 16 ++ to_le_bytes w16 16

-- PhotometricInterpretation, sections 3, 4 and 6: BlackIsZero (1) or RGB (2).
abbrev pub photometric : OutKind → ℕ
photometric Gray = 1
photometric Rgb = 2
photometric Bitonal = 1
photometric Gray16 = 1
photometric Rgb16 = 2

-- StripOffsets, section 3: the one strip begins behind all else.
abbrev pub strip_offset : OutKind → ℕ
strip_offset Gray = 174
strip_offset Rgb = 180
strip_offset Bitonal = 174
strip_offset Gray16 = 174
strip_offset Rgb16 = 180

-- Section 8, Compression 1: the bytes of a row of w pixels. A row of bits is padded to a whole byte.
abbrev pub row_len : OutKind → ℕ → ℕ
row_len Gray w = w
row_len Rgb w = w * 3
row_len Bitonal w = div_ceil w 8
row_len Gray16 w = w * 2
row_len Rgb16 w = w * 6

-- StripByteCounts, section 3: the bytes of the one strip, which has all rows.
abbrev pub strip_len : OutKind → Dim → ℕ
strip_len kind dim = row_len kind dim.w * dim.h

-- the whole file
abbrev pub file_len : OutKind → Dim → ℕ
file_len kind dim = strip_offset kind + strip_len kind dim

-- ---- What stands before the strip

-- Sections 3 (bilevel), 4 (grayscale) and 6 (RGB) list the fields that an image needs, section 8 says what each means, and
-- section 2 sorts them by tag. No compression (Compression 1), one strip of all rows (RowsPerStrip), resolution 1 by 1 without
-- a unit (ResolutionUnit 1).
abbrev pub fields : OutKind → Dim → List Entry
fields kind dim =
    long_field ImageWidth dim.w
    ∷ long_field ImageLength dim.h
    ∷ bits_per_sample kind
    ∷ short_field Compression 1
    ∷ short_field PhotometricInterpretation (photometric kind)
    ∷ long_field StripOffsets (strip_offset kind)
    ∷ short_field SamplesPerPixel (samples_per_pixel kind)
    ∷ long_field RowsPerStrip dim.h
    ∷ long_field StripByteCounts (strip_len kind dim)
    ∷ rational_field_at XResolution 158
    ∷ rational_field_at YResolution 166
    ∷ short_field ResolutionUnit 1
    ∷ []

-- Section 2, "Image File Header": "II" for low bytes first, 42, the offset of the first directory.
abbrev pub header : List ℕ
header = codes "II" ++ to_le_bytes w16 42 ++ to_le_bytes w32 8

-- Section 2, "Image File Directory": the number of entries, the entries, and 0, as no further directory follows.
abbrev pub directory : OutKind → Dim → List ℕ
directory kind dim = to_le_bytes w16 (length (fields kind dim)) ++ flat_map entry_bytes (fields kind dim) ++ to_le_bytes w32 0

-- Section 2, "Types", RATIONAL: numerator, then denominator, each a LONG.
abbrev pub rational : ℕ → ℕ → List ℕ
rational numerator denominator = to_le_bytes w32 numerator ++ to_le_bytes w32 denominator

-- XResolution at 158, YResolution at 166, BitsPerSample of RGB at 174
abbrev pub outside : OutKind → List ℕ
outside kind = rational 1 1 ++ rational 1 1 ++ bits_outside kind

-- all bytes in front of the strip
unfoldable pub head_of : OutKind → Dim → List ℕ
head_of kind dim = header ++ directory kind dim ++ outside kind

-- ---- The strip

-- Section 3, BlackIsZero: black is 0, white is 1. A sample in the upper half, up to `top`, is white.
abbrev pub white_bit : ℕ → ℕ → ℕ
white_bit top v = if nat_lt v ((top + 1) / 2) then 0 else 1

-- Section 8, FillOrder 1: eight bits in a byte, the leftmost in the highest.
abbrev pub packed : (ℕ → ℕ) → ℕ
packed bit = bit 0 * 128 + bit 1 * 64 + bit 2 * 32 + bit 3 * 16 + bit 4 * 8 + bit 5 * 4 + bit 6 * 2 + bit 7

-- the bit in column x of row y; 0 right of the picture, where a row is padded
abbrev pub bit_at : Picture → ℕ → ℕ → ℕ
bit_at p y x = if nat_lt x p.width then white_bit p.top (sample_at p x y 0) else 0

-- Section 2, "Types", SHORT, low byte first: a row of w pixels, whose sample in column x and channel k is f x k.
unfoldable pub shorts_of : ℕ → ℕ → (ℕ → ℕ → ℕ) → List ℕ
shorts_of w c f = joined w (λ x. joined c (λ k. to_le_bytes w16 (f x k)))

-- Row y from the left: bits, eight to a byte, or samples; those of a pixel one after another, as red, green, blue (section 8,
-- PlanarConfiguration 1).
unfoldable pub row : OutKind → Picture → ℕ → List ℕ
row Gray p y = row_of p.width 1 (λ x k. sample_at p x y k)
row Rgb p y = row_of p.width 3 (λ x k. sample_at p x y k)
row Bitonal p y = joined (div_ceil p.width 8) (λ j. packed (λ b. bit_at p y (8 * j + b)) ∷ [])
row Gray16 p y = shorts_of p.width 1 (λ x k. sample_at p x y k)
row Rgb16 p y = shorts_of p.width 3 (λ x k. sample_at p x y k)

-- Section 8, Orientation 1: the rows from the top.
unfoldable pub strip : OutKind → Picture → List ℕ
strip kind p = joined p.height (row kind p)

-- ---- The file

-- the head, and then the one strip
abbrev pub file : Picture → OutKind → List ℕ
file p kind = head_of kind (dim_of p) ++ strip kind p
