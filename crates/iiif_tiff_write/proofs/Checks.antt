-- A written file passes each check of a reader.
use Rattle.std.proofs.Common.{◌≡◌, ℕ, ◌+◌, ◌*◌, ◌-◌, ◌<◌, ◌≤◌, ◌^◌, List, [], ◌∷◌, ◌++◌, length, Some, None, refl, true, false, ltb, eqb}
use Rattle.std.proofs.Common.{◌∙◌, arith}
use Rattle.std.specs.Prelude.{min}
use Rattle.std.proofs.lemmas.Bool.{le-ltb, ne_eqb}
use Rattle.iiif_pixel.specs.declared.geometry.Dim.{Dim}
use Rattle.iiif_tiff.specs.Tiff as tiff
use Rattle.iiif_tiff.proofs.Numbers.{one_piece}
use Rattle.iiif_tiff.specs.Tiff.{ImageWidth, ImageLength, BitsPerSample, RowsPerStrip, StripOffsets, StripByteCounts, IsReadable, Little}
use Rattle.iiif_tiff.specs.Tiff.{◌<|>◌}
use Rattle.iiif_tiff_write.specs.declared.kind.OutKind.{OutKind}
use Rattle.iiif_tiff_write.specs.declared.kind.OutKind.TheVariants.{Gray, Rgb, Bitonal, Gray16, Rgb16}
use Rattle.iiif_tiff_write.specs.OutKind.{samples_per_pixel}
use Rattle.iiif_tiff_write.specs.File.{head_of, bits_per_sample, long_field, row_len, strip_len, strip_offset, file_len}
use Rattle.iiif_tiff_write.proofs.Lengths.{length-head_before}
use Rattle.iiif_tiff_write.proofs.Entries.{low_first, value-long, width_entry, height_entry, rows_entry, offset_entry, count_entry}
use Rattle.iiif_tiff_write.proofs.Entries.{no_tiles, channels_are, depth, bits_are, black_is_zero, offset_bounds}

-- ---- The header and the directory

opening_from : (b : List ℕ) → tiff.begins b 73 73 42 0 ≡ true → tiff.directory b ≡ 8 → tiff.entry_count b ≡ 12 → 154 ≤ length b →
    tiff.opening b ≡ None
unfolding tiff.opening tiff.header tiff.directory_fits
opening_from b begins at count long =
    let x : ltb (length b) 8 ≡ false = le-ltb _ _ (omega arith) in
    let y : ltb (length b) 10 ≡ false = le-ltb _ _ (omega arith) in
    let z : ltb (length b) 154 ≡ false = le-ltb _ _ (omega arith) in
    rw (begins, count, at, x, y, z) refl

opening_passes : (k : OutKind) (d : Dim) (s : List ℕ) → tiff.opening (head_of k d ++ s) ≡ None
unfolding head_of
opening_passes Gray d s = opening_from _ refl refl refl (omega (arith, length-head_before Gray d s))
opening_passes Rgb d s = opening_from _ refl refl refl (omega (arith, length-head_before Rgb d s))
opening_passes Gray16 d s = opening_from _ refl refl refl (omega (arith, length-head_before Gray16 d s))
opening_passes Rgb16 d s = opening_from _ refl refl refl (omega (arith, length-head_before Rgb16 d s))
opening_passes Bitonal d s = opening_from _ refl refl refl (omega (arith, length-head_before Bitonal d s))

-- ---- The sides

sides_from : (b : List ℕ) (d : Dim) → tiff.entry_of b ImageWidth ≡ Some (long_field ImageWidth d.w) →
    tiff.entry_of b ImageLength ≡ Some (long_field ImageLength d.h)
    → tiff.width b ≡ d.w → tiff.height b ≡ d.h → IsReadable d → tiff.sides b ≡ None
unfolding tiff.sides tiff.needed tiff.entry_fits
sides_from b d we he w-is h-is l =
    let a : eqb d.w 0 ≡ false = ne_eqb d.w 0 (λ e. omega (arith, l.width_some)) in
    let c : eqb d.h 0 ≡ false = ne_eqb d.h 0 (λ e. omega (arith, l.height_some)) in
    let e : ltb 1000000 d.w ≡ false = le-ltb _ _ l.width_most in
    let f : ltb 1000000 d.h ≡ false = le-ltb _ _ l.height_most in
    let g : ltb (2 ^ 32) (d.w * d.h) ≡ false = le-ltb _ _ l.area in
    rw (we, he, w-is, h-is, a, c, e, f, g) refl

-- ---- The samples

gray_samples : (d : Dim) (s : List ℕ) → tiff.samples (head_of Gray d ++ s) ≡ None
unfolding head_of tiff.entry_of tiff.entries tiff.entry tiff.value_or tiff.value tiff.values_or tiff.samples tiff.samples_per_pixel
    tiff.bits_per_sample tiff.only tiff.optional tiff.needed tiff.entry_fits tiff.photometric tiff.planar_configuration tiff.extra_samples
    tiff.sample_format
gray_samples d s = refl

gray16_samples : (d : Dim) (s : List ℕ) → tiff.samples (head_of Gray16 d ++ s) ≡ None
unfolding head_of tiff.entry_of tiff.entries tiff.entry tiff.value_or tiff.value tiff.values_or tiff.samples tiff.samples_per_pixel
    tiff.bits_per_sample tiff.only tiff.optional tiff.needed tiff.entry_fits tiff.photometric tiff.planar_configuration tiff.extra_samples
    tiff.sample_format
gray16_samples d s = refl

bitonal_samples : (d : Dim) (s : List ℕ) → tiff.samples (head_of Bitonal d ++ s) ≡ None
unfolding head_of tiff.entry_of tiff.entries tiff.entry tiff.value_or tiff.value tiff.values_or tiff.samples tiff.samples_per_pixel
    tiff.bits_per_sample tiff.only tiff.optional tiff.needed tiff.entry_fits tiff.photometric tiff.planar_configuration tiff.extra_samples
    tiff.sample_format
bitonal_samples d s = refl

three_bits : (d : Dim) (s : List ℕ) → tiff.entry_of (head_of Rgb d ++ s) BitsPerSample ≡ Some (bits_per_sample Rgb)
unfolding head_of tiff.entry_of tiff.entries tiff.entry
three_bits d s = refl

all_eight : (d : Dim) (s : List ℕ) → tiff.all_are (head_of Rgb d ++ s) BitsPerSample 1 8 ≡ true
unfolding head_of tiff.entry_of tiff.entries tiff.entry tiff.value tiff.values_or
all_eight d s = refl

bits_from : (b : List ℕ) → tiff.order b ≡ Little → tiff.entry_of b BitsPerSample ≡ Some (bits_per_sample Rgb) → tiff.channels b ≡ 3 →
    tiff.all_are b BitsPerSample 1 8 ≡ true → 180 ≤ length b → tiff.bits_per_sample b ≡ None
unfolding tiff.bits_per_sample tiff.optional tiff.entry_fits
bits_from b o e c all long =
    let x : ltb (length b) 180 ≡ false = le-ltb _ _ long in
    rw (e, c, o, all, x) refl

rgb_bits : (d : Dim) (s : List ℕ) → tiff.bits_per_sample (head_of Rgb d ++ s) ≡ None
rgb_bits d s = bits_from _ (low_first Rgb d s) (three_bits d s) (channels_are Rgb d s) (all_eight d s)
    (omega (arith, length-head_before Rgb d s))

rgb_rest : (d : Dim) (s : List ℕ) → tiff.bits_per_sample (head_of Rgb d ++ s) ≡ None → tiff.samples (head_of Rgb d ++ s) ≡ None
unfolding head_of tiff.entry_of tiff.entries tiff.entry tiff.value_or tiff.value tiff.values_or tiff.samples tiff.samples_per_pixel
    tiff.only tiff.optional tiff.needed tiff.entry_fits tiff.photometric tiff.planar_configuration tiff.extra_samples tiff.sample_format
rgb_rest d s e = rw e refl

three_bits16 : (d : Dim) (s : List ℕ) → tiff.entry_of (head_of Rgb16 d ++ s) BitsPerSample ≡ Some (bits_per_sample Rgb16)
unfolding head_of tiff.entry_of tiff.entries tiff.entry
three_bits16 d s = refl

all_sixteen : (d : Dim) (s : List ℕ) → tiff.all_are (head_of Rgb16 d ++ s) BitsPerSample 1 16 ≡ true
unfolding head_of tiff.entry_of tiff.entries tiff.entry tiff.value tiff.values_or
all_sixteen d s = refl

not_eight : (d : Dim) (s : List ℕ) → tiff.all_are (head_of Rgb16 d ++ s) BitsPerSample 1 8 ≡ false
unfolding head_of tiff.entry_of tiff.entries tiff.entry tiff.value tiff.values_or
not_eight d s = refl

bits_from16 : (b : List ℕ) → tiff.order b ≡ Little → tiff.entry_of b BitsPerSample ≡ Some (bits_per_sample Rgb16) → tiff.channels b ≡ 3 →
    tiff.all_are b BitsPerSample 1 8 ≡ false → tiff.all_are b BitsPerSample 1 16 ≡ true → 180 ≤ length b → tiff.bits_per_sample b ≡ None
unfolding tiff.bits_per_sample tiff.optional tiff.entry_fits
bits_from16 b o e c eight all long =
    let x : ltb (length b) 180 ≡ false = le-ltb _ _ long in
    rw (e, c, o, eight, all, x) refl

rgb16_bits : (d : Dim) (s : List ℕ) → tiff.bits_per_sample (head_of Rgb16 d ++ s) ≡ None
rgb16_bits d s = bits_from16 _ (low_first Rgb16 d s) (three_bits16 d s) (channels_are Rgb16 d s) (not_eight d s) (all_sixteen d s)
    (omega (arith, length-head_before Rgb16 d s))

rgb16_rest : (d : Dim) (s : List ℕ) → tiff.bits_per_sample (head_of Rgb16 d ++ s) ≡ None → tiff.samples (head_of Rgb16 d ++ s) ≡ None
unfolding head_of tiff.entry_of tiff.entries tiff.entry tiff.value_or tiff.value tiff.values_or tiff.samples tiff.samples_per_pixel
    tiff.only tiff.optional tiff.needed tiff.entry_fits tiff.photometric tiff.planar_configuration tiff.extra_samples tiff.sample_format
rgb16_rest d s e = rw e refl

samples_pass : (k : OutKind) (d : Dim) (s : List ℕ) → tiff.samples (head_of k d ++ s) ≡ None
samples_pass Gray d s = gray_samples d s
samples_pass Rgb d s = rgb_rest d s (rgb_bits d s)
samples_pass Gray16 d s = gray16_samples d s
samples_pass Rgb16 d s = rgb16_rest d s (rgb16_bits d s)
samples_pass Bitonal d s = bitonal_samples d s

-- ---- The strip

grid_from : (b : List ℕ) (h : ℕ) → tiff.is_tiled b ≡ false → tiff.entry_of b RowsPerStrip ≡ Some (long_field RowsPerStrip h) →
    tiff.rows_per_strip b ≡ h → 0 < h → tiff.grid b ≡ None
unfolding tiff.grid tiff.strip_grid tiff.optional tiff.entry_fits
grid_from b h strips e is some =
    let a : eqb h 0 ≡ false = ne_eqb h 0 (λ z. omega arith) in
    rw (strips, e, is, a) refl

-- The scheme that a reader takes from the fields: one strip of all rows.
abbrev pub scheme_of : OutKind → Dim → tiff.Scheme
scheme_of k d = record {
  order = Little;
  width = d.w;
  height = d.h;
  channels = samples_per_pixel k;
  bits = depth k;
  white_is_zero = false;
  tiled = false;
  piece_width = d.w;
  piece_height = d.h;
  tiles_across = 1;
  offsets = strip_offset k ∷ [];
}

-- The values that a reader finds in a file b with the head of such a picture.
pub record Fields (b : List ℕ) (k : OutKind) (d : Dim) : Type 0 where
  pub width : tiff.width b ≡ d.w
  pub height : tiff.height b ≡ d.h
  pub rows : tiff.rows_per_strip b ≡ d.h
  pub offset : tiff.value_or b StripOffsets 0 0 ≡ strip_offset k
  pub count : tiff.value_or b StripByteCounts 0 0 ≡ strip_len k d
  pub strips : tiff.is_tiled b ≡ false
  pub scheme : tiff.scheme b ≡ scheme_of k d

scheme_from : (b : List ℕ) (k : OutKind) (d : Dim) → tiff.order b ≡ Little → tiff.width b ≡ d.w → tiff.height b ≡ d.h →
    tiff.channels b ≡ samples_per_pixel k → tiff.bits b ≡ depth k → tiff.white_is_zero b ≡ false
    → tiff.is_tiled b ≡ false → tiff.rows_per_strip b ≡ d.h → tiff.value_or b StripOffsets 0 0 ≡ strip_offset k → 0 < d.w → 0 < d.h →
    tiff.scheme b ≡ scheme_of k d
scheme_from b k d o w-is h-is c n z strips rows offset wp hp =
    rw (o, strips, w-is, h-is, c, n, z, rows, one_piece d.w wp, one_piece d.h hp, strips, offset) refl

-- A reader finds these values in each file.
pub fields : (k : OutKind) (d : Dim) (s : List ℕ) → IsReadable d → file_len k d < 2 ^ 32 → Fields (head_of k d ++ s) k d
fields k d s l small =
    let b = head_of k d ++ s in
    let o = low_first k d s in
    let off = offset_bounds k in
    let w-is : tiff.width b ≡ d.w = value-long b ImageWidth 0 d.w o (width_entry k d s) (omega (arith, l.width_most)) in
    let h-is : tiff.height b ≡ d.h = value-long b ImageLength 0 d.h o (height_entry k d s) (omega (arith, l.height_most)) in
    let rows : tiff.rows_per_strip b ≡ d.h = value-long b RowsPerStrip (2 ^ 32 - 1) d.h o (rows_entry k d s) (omega (arith, l.height_most))
    in
    let offset : tiff.value_or b StripOffsets 0 0 ≡ strip_offset k =
    value-long b StripOffsets 0 (strip_offset k) o (offset_entry k d s) (omega (arith, off.1)) in
    let count : tiff.value_or b StripByteCounts 0 0 ≡ strip_len k d =
    value-long b StripByteCounts 0 (strip_len k d) o (count_entry k d s) (omega (arith, small)) in
    let strips = no_tiles k d s in
    record {
      width = w-is;
      height = h-is;
      rows = rows;
      offset = offset;
      count = count;
      strips = strips;
      scheme = scheme_from b k d o w-is h-is (channels_are k d s) (bits_are k d s) (black_is_zero k d s) strips rows offset l.width_some
          l.height_some;
    }

-- A reader takes a row to be as long as it is.
pub row_bytes_are : (k : OutKind) (d : Dim) → tiff.row_bytes (scheme_of k d) ≡ row_len k d.w
row_bytes_are Gray d = omega arith
row_bytes_are Rgb d = omega arith
row_bytes_are Bitonal d = omega arith
row_bytes_are Gray16 d = omega arith
row_bytes_are Rgb16 d = omega arith

one_strip : (h r : ℕ) → min h (h - 0 * h) * r ≡ r * h
one_strip h r =
    let e : min h (h - 0 * h) ≡ h = omega arith in
    rw e (omega arith)

strip_bytes : (k : OutKind) (d : Dim) → tiff.piece_bytes (scheme_of k d) 0 ≡ strip_len k d
unfolding tiff.piece_bytes
strip_bytes k d = rw (row_bytes_are k d) (one_strip d.h (row_len k d.w))

piece_from : (b : List ℕ) (k : OutKind) (d : Dim) → Fields b k d → length b ≡ file_len k d → tiff.piece b 0 ≡ None
unfolding tiff.piece
piece_from b k d f len =
    let need : tiff.piece_bytes (tiff.scheme b) 0 ≡ strip_len k d = rw f.scheme (strip_bytes k d) in
    let x : ltb (strip_len k d) (strip_len k d) ≡ false = le-ltb _ _ (omega arith) in
    let y : ltb (length b) (strip_offset k + strip_len k d) ≡ false = le-ltb _ _ (omega (arith, len)) in
    rw (need, f.strips, f.count, f.offset, x, y) refl

pieces_from : (b : List ℕ) (k : OutKind) (d : Dim) → Fields b k d →
    tiff.entry_of b StripOffsets ≡ Some (long_field StripOffsets (strip_offset k)) →
    tiff.entry_of b StripByteCounts ≡ Some (long_field StripByteCounts (strip_len k d))
    → 0 < d.w → 0 < d.h → tiff.piece b 0 ≡ None → tiff.pieces_fit b ≡ None
unfolding tiff.pieces_fit tiff.needed tiff.entry_fits tiff.first
pieces_from b k d f o n wp hp fits =
    let one : tiff.pieces b ≡ 1 = rw (f.strips, f.width, f.height, f.rows, one_piece d.w wp, one_piece d.h hp) refl in
    rw (one, f.strips, o, n, fits) refl

-- ---- The whole file

-- A reader refuses no file.
pub passes : (k : OutKind) (d : Dim) (s : List ℕ) → IsReadable d → length s ≡ strip_len k d → file_len k d < 2 ^ 32 →
    tiff.refusal_of (head_of k d ++ s) ≡ None
unfolding tiff.refusal_of
passes k d s l len small =
    let b = head_of k d ++ s in
    let f = fields k d s l small in
    let a = opening_passes k d s in
    let c = sides_from b d (width_entry k d s) (height_entry k d s) f.width f.height l in
    let e = samples_pass k d s in
    let g = grid_from b d.h f.strips (rows_entry k d s) f.rows l.height_some in
    let h = pieces_from b k d f (offset_entry k d s) (count_entry k d s) l.width_some l.height_some
    (piece_from b k d f (length-head_before k d s ∙ rw len refl)) in
    rw (a, c, e, g, h) refl
