-- A file gives back the picture that it was written from.
use Rattle.std.proofs.Common.{◌≡◌, ℕ, ◌+◌, ◌*◌, ◌-◌, ◌/◌, ◌%◌, ◌<◌, ◌≤◌, ◌^◌, ◌⊎◌, List, get_or, None, refl, sym, ap, ◌∙◌, arith}
use Rattle.std.specs.Prelude.{slice_index}
use Rattle.std.specs.Int.{to_le_bytes, w16}
use Rattle.std.proofs.lemmas.Nat.{div_below, div-add-mod', from_le_bytes-to_le_bytes_2}
use Rattle.std.proofs.lemmas.List.{get_or-append_right}
use Rattle.iiif_pixel.specs.declared.geometry.Dim.{Dim}
use Rattle.iiif_pixel.specs.Picture.{Picture, IsWhole, dim_of, sample_at}
use Rattle.iiif_pixel.specs.Operations.{bitonal, black_or_white, gray_at}
use Rattle.iiif_pixel.proofs.SampleLists.{get_or-row_of, index_below}
use Rattle.iiif_pixel.proofs.Reading.{sample_at-bitonal}
use Rattle.iiif_pixel.proofs.Whole.{whole_bitonal}
use Rattle.iiif_tiff.specs.Tiff as tiff
use Rattle.iiif_tiff.specs.Tiff.{IsReadable, Little, Shows, number, shown, stored, stored_sample}
use Rattle.iiif_tiff.proofs.Numbers.{same_number}
use Rattle.iiif_tiff_write.specs.declared.kind.OutKind.{OutKind}
use Rattle.iiif_tiff_write.specs.declared.kind.OutKind.TheVariants.{Gray, Rgb, Bitonal, Gray16, Rgb16}
use Rattle.iiif_tiff_write.specs.OutKind.{samples_per_pixel}
use Rattle.iiif_tiff_write.specs.File.{head_of, file, file_len, row, row_len, strip, strip_offset}
use Rattle.iiif_tiff_write.specs.Reading.{Holds}
use Rattle.iiif_tiff_write.proofs.Lengths.{length-head_of, length-strip}
use Rattle.iiif_tiff_write.proofs.Entries.{depth, bits_are, channels_are, white_is}
use Rattle.iiif_tiff_write.proofs.Checks.{scheme_of, fields, row_bytes_are, passes}
use Rattle.iiif_tiff_write.proofs.Strips.{get_or-shorts_of, get_or-strip, bit_back, white_bit-read, black_or_white-same}

-- A reader accepts each file.
pub accepted : (p : Picture) (k : OutKind) → IsReadable (dim_of p) → file_len k (dim_of p) < 2 ^ 32 → tiff.refusal_of (file p k) ≡ None
accepted p k l small = passes k (dim_of p) (strip k p) l (length-strip k p) small

div_small : (x w : ℕ) → x < w → x / w ≡ 0
div_small x w lt = omega (arith, div_below x w 1 (omega arith) (omega arith))

mod_small : (x w : ℕ) → x < w → x % w ≡ x
mod_small x w lt = omega (arith, rw (div_small x w lt) at (div-add-mod' x w))

-- in one strip, a sample is that of its row
in_strip : (b : List ℕ) (k : OutKind) (d : Dim) (x y c : ℕ) → x < d.w → y < d.h →
    shown b (scheme_of k d) x y c ≡ stored_sample Little (depth k) b (strip_offset k + y * row_len k d.w) (x * samples_per_pixel k + c)
unfolding shown
in_strip b k d x y c lx ly =
    rw (div_small x d.w lx, mod_small x d.w lx, div_small y d.h ly, mod_small y d.h ly, row_bytes_are k d) refl

-- byte n of row y
byte_at : (p : Picture) (k : OutKind) (y n : ℕ) → y < p.height → n < row_len k p.width →
    slice_index (file p k) (strip_offset k + y * row_len k p.width + n) ≡ get_or (row k p y) n 0
byte_at p k y n ly ln =
    let here : strip_offset k + y * row_len k p.width + n - strip_offset k ≡ y * row_len k p.width + n = omega arith in
    get_or-append_right (head_of k (dim_of p)) (strip k p) (strip_offset k) (strip_offset k + y * row_len k p.width + n) 0
    (length-head_of k (dim_of p)) (omega arith)
    ∙ ap (λ (i : ℕ). get_or (strip k p) i 0) here ∙ get_or-strip k p y n ly ln

gray_row : (p : Picture) (y x : ℕ) → x < p.width → get_or (row Gray p y) (x * 1 + 0) 0 ≡ sample_at p x y 0
unfolding row
gray_row p y x lx = get_or-row_of p.width 1 (λ x k. sample_at p x y k) x 0 0 lx (omega arith)

rgb_row : (p : Picture) (y x c : ℕ) → x < p.width → c < 3 → get_or (row Rgb p y) (x * 3 + c) 0 ≡ sample_at p x y c
unfolding row
rgb_row p y x c lx lc = get_or-row_of p.width 3 (λ x k. sample_at p x y k) x c 0 lx lc

-- a bit of a written file, read
bit_read : (p : Picture) (x y c : ℕ) → x < p.width → y < p.height → c < 1 →
    stored 1 (file p Bitonal) (strip_offset Bitonal + y * row_len Bitonal p.width) (x * 1 + c) ≡ black_or_white p.top (sample_at p x y 0)
bit_read p x y c lx ly lc =
    let zero_is : c ≡ 0 = omega arith in
    let at : x * 1 + 0 ≡ x = omega arith in
    let byte = byte_at p Bitonal y (x / 8) ly (omega arith) in
    rw (zero_is, at, byte, bit_back p x y lx) (white_bit-read p.top (sample_at p x y 0))

held_bit : (p : Picture) (x y : ℕ) → Holds Bitonal p → x < p.width → y < p.height → (sample_at p x y 0 ≡ 0) ⊎ (sample_at p x y 0 ≡ 255)
unfolding sample_at
held_bit p x y f lx ly =
    let channel : 0 < p.channels = omega (arith, f.channels) in
    f.samples ((y * p.width + x) * p.channels + 0) 0
    (omega (arith, f.whole.count, index_below p.width p.height p.channels x y 0 lx ly channel))

-- a sample of 16 bits is below 2^16
below_top : (p : Picture) (x y c : ℕ) → IsWhole p → p.top ≡ 65535 → x < p.width → y < p.height → c < p.channels → sample_at p x y c < 2 ^ 16
unfolding sample_at
below_top p x y c whole top lx ly lc =
    let le : get_or p.samples ((y * p.width + x) * p.channels + c) 0 ≤ p.top =
    whole.bound ((y * p.width + x) * p.channels + c) 0
    (omega (arith, whole.count, index_below p.width p.height p.channels x y c lx ly lc)) in
    omega (arith, le, top)

-- two bytes of a row of samples of 16 bits, read
pair_read : (b : List ℕ) (at v : ℕ) → v < 2 ^ 16 → ((j : ℕ) → j < 2 → slice_index b (at + j) ≡ get_or (to_le_bytes w16 v) j 0) →
    number Little w16 b at ≡ v
pair_read b at v small bytes =
    let first : get_or b at 0 ≡ get_or (to_le_bytes w16 v) 0 0 = ap (λ (i : ℕ). get_or b i 0) (omega arith) ∙ bytes 0 (omega arith) in
    same_number Little b (to_le_bytes w16 v) at 0 first (bytes 1 (omega arith)) ∙ from_le_bytes-to_le_bytes_2 v small

gray16_row : (p : Picture) (y x j : ℕ) → x < p.width → j < 2 →
    get_or (row Gray16 p y) (2 * (x * 1 + 0) + j) 0 ≡ get_or (to_le_bytes w16 (sample_at p x y 0)) j 0
unfolding row
gray16_row p y x j lx lj =
    let at : 2 * (x * 1 + 0) + j ≡ x * (1 * 2) + (0 * 2 + j) = omega arith in
    rw at (get_or-shorts_of p.width 1 (λ x k. sample_at p x y k) x 0 j lx (omega arith) lj)

rgb16_row : (p : Picture) (y x c j : ℕ) → x < p.width → c < 3 → j < 2 →
    get_or (row Rgb16 p y) (2 * (x * 3 + c) + j) 0 ≡ get_or (to_le_bytes w16 (sample_at p x y c)) j 0
unfolding row
rgb16_row p y x c j lx lc lj =
    let at : 2 * (x * 3 + c) + j ≡ x * (3 * 2) + (c * 2 + j) = omega arith in
    rw at (get_or-shorts_of p.width 3 (λ x k. sample_at p x y k) x c j lx lc lj)

places : (p : Picture) (k : OutKind) (x y c : ℕ) → Holds k p → x < p.width → y < p.height → c < samples_per_pixel k →
    stored_sample Little (depth k) (file p k) (strip_offset k + y * row_len k p.width) (x * samples_per_pixel k + c) ≡ sample_at p x y c
places p Gray x y c f lx ly lc =
    let zero_is : c ≡ 0 = omega arith in
    rw zero_is (byte_at p Gray y (x * 1 + 0) ly (omega arith) ∙ gray_row p y x lx)
places p Rgb x y c f lx ly lc = byte_at p Rgb y (x * 3 + c) ly (omega arith) ∙ rgb_row p y x c lx lc
places p Gray16 x y c f lx ly lc =
    let zero_is : c ≡ 0 = omega arith in
    let small = below_top p x y 0 f.whole f.top lx ly (omega (arith, f.channels)) in
    rw zero_is (pair_read (file p Gray16) (strip_offset Gray16 + y * row_len Gray16 p.width + 2 * (x * 1 + 0)) (sample_at p x y 0) small
    (λ j lj.
    ap (slice_index (file p Gray16)) (omega arith) ∙ byte_at p Gray16 y (2 * (x * 1 + 0) + j) ly (omega arith) ∙ gray16_row p y x j lx lj))
places p Rgb16 x y c f lx ly lc =
    let small = below_top p x y c f.whole f.top lx ly (omega (arith, f.channels)) in
    pair_read (file p Rgb16) (strip_offset Rgb16 + y * row_len Rgb16 p.width + 2 * (x * 3 + c)) (sample_at p x y c) small (λ j lj.
    ap (slice_index (file p Rgb16)) (omega arith) ∙ byte_at p Rgb16 y (2 * (x * 3 + c) + j) ly (omega arith) ∙ rgb16_row p y x c j lx lc lj)
places p Bitonal x y c f lx ly lc =
    let zero_is : c ≡ 0 = omega arith in
    bit_read p x y c lx ly lc
    ∙ ap (λ top. black_or_white top (sample_at p x y 0)) f.top
    ∙ black_or_white-same (sample_at p x y 0) (held_bit p x y f lx ly)
    ∙ ap (sample_at p x y) (sym zero_is)

-- A file shows the picture that it was written from, where its kind holds that picture.
pub shows : (p : Picture) (k : OutKind) → IsReadable (dim_of p) → file_len k (dim_of p) < 2 ^ 32 → Holds k p → Shows (file p k) p
shows p k l small f =
    let d = dim_of p in
    let b = fields k d (strip k p) l small in
    record {
      width_is = sym b.width;
      height_is = sym b.height;
      channels_is = f.channels ∙ sym (channels_are k d (strip k p));
      top_is = f.top ∙ white_is k ∙ ap tiff.white_of (sym (bits_are k d (strip k p)));
      whole = f.whole;
      places = λ x y c lx ly lc. rw b.scheme (sym (in_strip (file p k) k d x y c lx ly ∙ places p k x y c f lx ly (rw (← f.channels) lc)));
    }

one_gray : (p : Picture) (x y : ℕ) → p.channels ≡ 1 → gray_at p x y 0 ≡ sample_at p x y 0
unfolding gray_at
one_gray p x y e = rw e refl

bit_is : (p : Picture) (x y c : ℕ) → p.channels ≡ 1 → x < p.width → y < p.height → c < 1 →
    sample_at (bitonal p) x y c ≡ black_or_white p.top (sample_at p x y 0)
bit_is p x y c e lx ly lc =
    let zero_is : c ≡ 0 = omega arith in
    rw zero_is (sample_at-bitonal p x y lx ly ∙ ap (black_or_white p.top) (one_gray p x y e))

-- A file of bits shows any gray picture in black and white.
pub shows_bitonal : (p : Picture) → IsReadable (dim_of p) → file_len Bitonal (dim_of p) < 2 ^ 32 → p.channels ≡ 1 →
    Shows (file p Bitonal) (bitonal p)
shows_bitonal p l small e =
    let d = dim_of p in
    let b = fields Bitonal d (strip Bitonal p) l small in
    record {
      width_is = sym b.width;
      height_is = sym b.height;
      channels_is = sym (channels_are Bitonal d (strip Bitonal p));
      top_is = ap tiff.white_of (sym (bits_are Bitonal d (strip Bitonal p)));
      whole = whole_bitonal p;
      places = λ x y c lx ly lc. bit_is p x y c e lx ly lc ∙
          rw b.scheme (sym (in_strip (file p Bitonal) Bitonal d x y c lx ly ∙ bit_read p x y c lx ly lc));
    }
