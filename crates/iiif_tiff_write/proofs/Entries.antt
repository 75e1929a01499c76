-- Fields of a written file, as a reader finds them. Look-ups compute: all bytes of a head are known but those of the sides.
use Rattle.std.proofs.Common.{◌≡◌, ℕ, ◌<◌, ◌^◌, List, ◌++◌, Some, refl, false, ◌≤◌, arith}
use Rattle.std.proofs.lemmas.Nat.{from_le_bytes-to_le_bytes_4}
use Rattle.iiif_pixel.specs.declared.geometry.Dim.{Dim}
use Rattle.iiif_pixel.specs.Geometry.{top_of}
use Rattle.iiif_tiff.specs.Tiff as tiff
use Rattle.iiif_tiff.specs.Tiff.{ImageWidth, ImageLength, RowsPerStrip, StripOffsets, StripByteCounts, Little}
use Rattle.iiif_tiff_write.specs.declared.kind.OutKind.{OutKind}
use Rattle.iiif_tiff_write.specs.declared.kind.OutKind.TheVariants.{Gray, Rgb, Bitonal, Gray16, Rgb16}
use Rattle.iiif_tiff_write.specs.OutKind.{out_depth, samples_per_pixel}
use Rattle.iiif_tiff_write.specs.File.{head_of, long_field, strip_len, strip_offset}

-- A file has its low bytes first.
pub low_first : (k : OutKind) (d : Dim) (s : List ℕ) → tiff.order (head_of k d ++ s) ≡ Little
unfolding head_of
low_first k d s = refl

-- The value of a field of one LONG is that LONG.
pub value-long : (b : List ℕ) (tag default v : ℕ) → tiff.order b ≡ Little → tiff.entry_of b tag ≡ Some (long_field tag v) → v < 2 ^ 32 →
    tiff.value_or b tag 0 default ≡ v
unfolding tiff.value_or tiff.value
value-long b tag default v o e small = rw (e, o) (from_le_bytes-to_le_bytes_4 v small)

-- A reader finds the entry ImageWidth.
pub width_entry : (k : OutKind) (d : Dim) (s : List ℕ) → tiff.entry_of (head_of k d ++ s) ImageWidth ≡ Some (long_field ImageWidth d.w)
unfolding head_of tiff.entry_of tiff.entries tiff.entry
width_entry Gray d s = refl
width_entry Rgb d s = refl
width_entry Bitonal d s = refl
width_entry Gray16 d s = refl
width_entry Rgb16 d s = refl

-- A reader finds the entry ImageLength.
pub height_entry : (k : OutKind) (d : Dim) (s : List ℕ) → tiff.entry_of (head_of k d ++ s) ImageLength ≡ Some (long_field ImageLength d.h)
unfolding head_of tiff.entry_of tiff.entries tiff.entry
height_entry Gray d s = refl
height_entry Rgb d s = refl
height_entry Bitonal d s = refl
height_entry Gray16 d s = refl
height_entry Rgb16 d s = refl

-- A reader finds the entry RowsPerStrip.
pub rows_entry : (k : OutKind) (d : Dim) (s : List ℕ) → tiff.entry_of (head_of k d ++ s) RowsPerStrip ≡ Some (long_field RowsPerStrip d.h)
unfolding head_of tiff.entry_of tiff.entries tiff.entry
rows_entry Gray d s = refl
rows_entry Rgb d s = refl
rows_entry Bitonal d s = refl
rows_entry Gray16 d s = refl
rows_entry Rgb16 d s = refl

-- A reader finds the entry StripOffsets.
pub offset_entry : (k : OutKind) (d : Dim) (s : List ℕ) →
    tiff.entry_of (head_of k d ++ s) StripOffsets ≡ Some (long_field StripOffsets (strip_offset k))
unfolding head_of tiff.entry_of tiff.entries tiff.entry
offset_entry Gray d s = refl
offset_entry Rgb d s = refl
offset_entry Bitonal d s = refl
offset_entry Gray16 d s = refl
offset_entry Rgb16 d s = refl

-- A reader finds the entry StripByteCounts.
pub count_entry : (k : OutKind) (d : Dim) (s : List ℕ) →
    tiff.entry_of (head_of k d ++ s) StripByteCounts ≡ Some (long_field StripByteCounts (strip_len k d))
unfolding head_of tiff.entry_of tiff.entries tiff.entry
count_entry Gray d s = refl
count_entry Rgb d s = refl
count_entry Bitonal d s = refl
count_entry Gray16 d s = refl
count_entry Rgb16 d s = refl

-- A file has strips, and no tiles.
pub no_tiles : (k : OutKind) (d : Dim) (s : List ℕ) → tiff.is_tiled (head_of k d ++ s) ≡ false
unfolding head_of tiff.entry_of tiff.entries tiff.entry
no_tiles Gray d s = refl
no_tiles Rgb d s = refl
no_tiles Bitonal d s = refl
no_tiles Gray16 d s = refl
no_tiles Rgb16 d s = refl

-- A reader finds as many channels as the kind has samples a pixel.
pub channels_are : (k : OutKind) (d : Dim) (s : List ℕ) → tiff.channels (head_of k d ++ s) ≡ samples_per_pixel k
unfolding head_of tiff.entry_of tiff.entries tiff.entry tiff.value_or tiff.value
channels_are Gray d s = refl
channels_are Rgb d s = refl
channels_are Bitonal d s = refl
channels_are Gray16 d s = refl
channels_are Rgb16 d s = refl

-- Bits a sample.
abbrev pub depth : OutKind → ℕ
depth Gray = 8
depth Rgb = 8
depth Bitonal = 1
depth Gray16 = 16
depth Rgb16 = 16

-- A reader finds as many bits a sample as the kind has.
pub bits_are : (k : OutKind) (d : Dim) (s : List ℕ) → tiff.bits (head_of k d ++ s) ≡ depth k
unfolding head_of tiff.entry_of tiff.entries tiff.entry tiff.value_or tiff.value tiff.values_or
bits_are Gray d s = refl
bits_are Rgb d s = refl
bits_are Bitonal d s = refl
bits_are Gray16 d s = refl
bits_are Rgb16 d s = refl

-- White of the kind's depth is the white that a reader takes for so many bits.
pub white_is : (k : OutKind) → top_of (out_depth k) ≡ tiff.white_of (depth k)
white_is Gray = refl
white_is Rgb = refl
white_is Bitonal = refl
white_is Gray16 = refl
white_is Rgb16 = refl

-- Black is 0 in each file.
pub black_is_zero : (k : OutKind) (d : Dim) (s : List ℕ) → tiff.white_is_zero (head_of k d ++ s) ≡ false
unfolding head_of tiff.entry_of tiff.entries tiff.entry tiff.value_or tiff.value
black_is_zero Gray d s = refl
black_is_zero Rgb d s = refl
black_is_zero Bitonal d s = refl
black_is_zero Gray16 d s = refl
black_is_zero Rgb16 d s = refl

-- A strip begins at 174 or later, and at 180 or before.
pub offset_bounds : (k : OutKind) → (174 ≤ strip_offset k) × (strip_offset k ≤ 180)
offset_bounds Gray = (omega arith, omega arith)
offset_bounds Rgb = (omega arith, omega arith)
offset_bounds Bitonal = (omega arith, omega arith)
offset_bounds Gray16 = (omega arith, omega arith)
offset_bounds Rgb16 = (omega arith, omega arith)
