-- The picture that a file shows: TIFF 6.0, sections 2 to 8 and 15.
--
--   stored sample   the sample in the file, of 1, 8 or 16 bits; a bit reads as 0 or 255
--   shown sample    the stored one, with WhiteIsZero counted down from white
--   shows           a picture of the file's sides and channels, each sample of which is the shown one
use Rattle.std.specs.Prelude.{◌≡◌, ℕ, ◌+◌, ◌*◌, ◌-◌, ◌/◌, ◌%◌, ◌^◌, ◌<◌, Bool, List, slice_index, ◌==◌, if◌then◌else◌}
use Rattle.std.specs.Int.{w16}
use Rattle.iiif_pixel.specs.Picture.{Picture, sample_at, IsWhole}
use Rattle.iiif_tiff.specs.Tiff.Structure.{ByteOrder, number}
use Rattle.iiif_tiff.specs.Tiff.Image.{Scheme, scheme, row_bytes, width, height, channels, bits, white_of}

-- Sections 3, 4 and 8, FillOrder 1: sample n of the row at an offset is byte n, or bit n with the high bit of each byte
-- first, where a bit 1 is 255.
abbrev pub stored : ℕ → List ℕ → ℕ → ℕ → ℕ
stored bits bytes row n = if bits == 8 then slice_index bytes (row + n) else 255 * (slice_index bytes (row + n / 8) / 2 ^ (7 - n % 8) % 2)

-- Sections 2 and 8, BitsPerSample: a sample of 16 bits is a SHORT, in the file's byte order.
abbrev pub stored_sample : ByteOrder → ℕ → List ℕ → ℕ → ℕ → ℕ
stored_sample order bits bytes row n = if bits == 16 then number order w16 bytes (row + 2 * n) else stored bits bytes row n

-- Section 8, PhotometricInterpretation: with WhiteIsZero a sample counts down from white.
abbrev pub sample_of : Bool → ℕ → ℕ → ℕ
sample_of white_is_zero white v = if white_is_zero then white - v else v

-- The sample in column x, row y and channel k. Section 15 numbers the tiles from left to right and then from the top: the
-- piece is the one that covers (x, y). Its rows stand one after another; in a row, by PlanarConfiguration 1 (section 8), the
-- samples of a pixel stand side by side.
unfoldable pub shown : List ℕ → Scheme → ℕ → ℕ → ℕ → ℕ
shown bytes s x y k =
    let piece = y / s.piece_height * s.tiles_across + x / s.piece_width in
    let row = slice_index s.offsets piece + y % s.piece_height * row_bytes s in
    sample_of s.white_is_zero (white_of s.bits) (stored_sample s.order s.bits bytes row (x % s.piece_width * s.channels + k))

-- Section 8: the bytes show the picture. It has the sides, the channels and the white of the fields, a sample for each pixel
-- and channel, and each sample is the one in the file.
pub record Shows (bytes : List ℕ) (p : Picture) : Type 0 where
  pub width_is : p.width ≡ width bytes
  pub height_is : p.height ≡ height bytes
  pub channels_is : p.channels ≡ channels bytes
  pub top_is : p.top ≡ white_of (bits bytes)
  pub whole : IsWhole p
  pub places : (x y k : ℕ) → x < p.width → y < p.height → k < p.channels → sample_at p x y k ≡ shown bytes (scheme bytes) x y k

-- Section 8: the bytes show one picture, and no other.
abbrev pub ShowsOnePicture : List ℕ → Type 0
ShowsOnePicture bytes = (p : Picture) × Shows bytes p × ((q : Picture) → Shows bytes q → q ≡ p)
