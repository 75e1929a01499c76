-- Lengths of the parts of a file.
use Rattle.std.proofs.Common.{◌≡◌, ℕ, ◌+◌, ◌*◌, ◌≤◌, List, ◌++◌, length, refl, ◌∙◌, arith, length-append}
use Rattle.std.proofs.lemmas.Nat.{mul-le}
use Rattle.std.specs.Int.{div_ceil, to_le_bytes, w16}
use Rattle.iiif_pixel.specs.declared.geometry.Dim.{Dim}
use Rattle.iiif_pixel.specs.Picture.{Picture, dim_of, joined, sample_at}
use Rattle.iiif_pixel.proofs.Joined.{length-joined, length-singles}
use Rattle.iiif_pixel.proofs.SampleLists.{length-row_of}
use Rattle.iiif_tiff_write.specs.declared.kind.OutKind.{OutKind}
use Rattle.iiif_tiff_write.specs.declared.kind.OutKind.TheVariants.{Gray, Rgb, Bitonal, Gray16, Rgb16}
use Rattle.iiif_tiff_write.specs.File.{head_of, file, file_len, row, strip, row_len, strip_len, strip_offset, packed, bit_at, shorts_of}

-- The head ends where the strip begins.
pub length-head_of : (k : OutKind) (d : Dim) → length (head_of k d) ≡ strip_offset k
unfolding head_of
length-head_of Gray d = refl
length-head_of Rgb d = refl
length-head_of Bitonal d = refl
length-head_of Gray16 d = refl
length-head_of Rgb16 d = refl

-- A pixel of c samples of 16 bits takes two bytes for each.
pub length-shorts : (c : ℕ) (f : ℕ → ℕ) → length (joined c (λ k. to_le_bytes w16 (f k))) ≡ c * 2
length-shorts c f = length-joined c 2 (λ k. to_le_bytes w16 (f k)) (λ k lk. refl)

-- A row of w pixels of c samples of 16 bits takes two bytes for each.
pub length-shorts_of : (w c : ℕ) (f : ℕ → ℕ → ℕ) → length (shorts_of w c f) ≡ w * (c * 2)
unfolding shorts_of
length-shorts_of w c f = length-joined w (c * 2) (λ x. joined c (λ k. to_le_bytes w16 (f x k))) (λ x lx. length-shorts c (f x))

-- A row is as long as row_len says.
pub length-row : (k : OutKind) (p : Picture) (y : ℕ) → length (row k p y) ≡ row_len k p.width
unfolding row
length-row Gray p y = length-row_of p.width 1 (λ x k. sample_at p x y k) ∙ omega arith
length-row Rgb p y = length-row_of p.width 3 (λ x k. sample_at p x y k)
length-row Gray16 p y = length-shorts_of p.width 1 (λ x k. sample_at p x y k)
length-row Rgb16 p y = length-shorts_of p.width 3 (λ x k. sample_at p x y k)
length-row Bitonal p y = length-singles (div_ceil p.width 8) (λ j. packed (λ b. bit_at p y (8 * j + b)))

-- A strip is as long as strip_len says.
pub length-strip : (k : OutKind) (p : Picture) → length (strip k p) ≡ strip_len k (dim_of p)
unfolding strip
length-strip k p = length-joined p.height (row_len k p.width) (row k p) (λ y l. length-row k p y) ∙ omega arith

-- A head with any bytes behind it is as long as both.
pub length-head_before : (k : OutKind) (d : Dim) (s : List ℕ) → length (head_of k d ++ s) ≡ strip_offset k + length s
length-head_before k d s = length-append (head_of k d) s ∙ rw (length-head_of k d) refl

-- A file is as long as file_len says.
pub length-file : (k : OutKind) (p : Picture) → length (file p k) ≡ file_len k (dim_of p)
length-file k p = length-head_before k (dim_of p) (strip k p) ∙ rw (length-strip k p) refl

-- A row takes at most six bytes a pixel.
row_small : (k : OutKind) (w n : ℕ) → w ≤ n → row_len k w ≤ n * 6
row_small Gray w n l = omega arith
row_small Rgb w n l = omega arith
row_small Bitonal w n l = omega arith
row_small Gray16 w n l = omega arith
row_small Rgb16 w n l = omega arith

-- The head takes at most 180 bytes.
offset_small : (k : OutKind) → strip_offset k ≤ 180
offset_small Gray = omega arith
offset_small Rgb = omega arith
offset_small Bitonal = omega arith
offset_small Gray16 = omega arith
offset_small Rgb16 = omega arith

-- The file of a picture within n by n pixels takes at most 180 + 6 n² bytes.
pub file_small : (k : OutKind) (d : Dim) (n : ℕ) → d.w ≤ n → d.h ≤ n → file_len k d ≤ 180 + n * 6 * n
file_small k d n lw lh = omega (arith, offset_small k, mul-le (row_len k d.w) d.h (n * 6) n (row_small k d.w n lw) lh)
