-- Rows of a band are rows of the picture, so strips of bands make the strip of the picture.
use Rattle.std.proofs.Common.{◌≡◌, ℕ, zero, suc, ◌+◌, ◌*◌, ◌<◌, List, [], ◌∷◌, ◌++◌, refl, sym, ap, ◌∙◌, arith, append_assoc, true, false}
use Rattle.std.proofs.Common.{ltb, inl, inr}
use Rattle.std.proofs.lemmas.List.{append-nil}
use Rattle.std.proofs.lemmas.Bool.{lt-ltb, le-ltb, cases_lt}
use Rattle.std.proofs.lemmas.List.Sums.{sum_by-cons}
use Rattle.std.specs.Int.{div_ceil, to_le_bytes, w16}
use Rattle.std.specs.Prelude.{sum}
use Rattle.std.specs.List.{flat_map}
use Rattle.iiif_pixel.specs.Picture.{Picture, joined, sample_at}
use Rattle.iiif_pixel.proofs.Joined.{joined_more, joined-same}
use Rattle.iiif_pixel.proofs.SampleLists.{row_of-same}
use Rattle.iiif_pixel.proofs.Reading.{sample_at-crop}
use Rattle.iiif_tiff_write.specs.declared.kind.OutKind.{OutKind}
use Rattle.iiif_tiff_write.specs.declared.kind.OutKind.TheVariants.{Gray, Rgb, Bitonal, Gray16, Rgb16}
use Rattle.iiif_tiff_write.specs.OutKind.{samples_per_pixel}
use Rattle.iiif_tiff_write.specs.File.{row, strip, bit_at, shorts_of}
use Rattle.iiif_tiff_write.specs.Bands.{band, bands}

sample_of_band : (p : Picture) (y n x j c : ℕ) → x < p.width → j < n → c < p.channels →
    sample_at (band p y n) x j c ≡ sample_at p x (y + j) c
sample_of_band p y n x j c lx lj lc =
    sample_at-crop p (record { x = 0; y = y; w = p.width; h = n }) x j c lx lj lc ∙ ap (λ (i : ℕ). sample_at p i (y + j) c) (omega arith)

bit_of_band : (p : Picture) (y n x j : ℕ) → j < n → 0 < p.channels → bit_at (band p y n) j x ≡ bit_at p (y + j) x
bit_of_band p y n x j lj lc = elim (cases_lt x p.width) [
  | inl inside ↦ let is : ltb x p.width ≡ true = lt-ltb _ _ inside in rw (is, sample_of_band p y n x j 0 inside lj lc) refl
  | inr outside ↦ let is : ltb x p.width ≡ false = le-ltb _ _ outside in rw is refl
]

shorts_of-same : (w c : ℕ) (f g : ℕ → ℕ → ℕ) → ((x k : ℕ) → x < w → k < c → f x k ≡ g x k) → shorts_of w c f ≡ shorts_of w c g
unfolding shorts_of
shorts_of-same w c f g e = joined-same w _ _ (λ x lx. joined-same c _ _ (λ k lk. ap (to_le_bytes w16) (e x k lx lk)))

row_of_band : (p : Picture) (k : OutKind) (y n j : ℕ) → p.channels ≡ samples_per_pixel k → j < n → row k (band p y n) j ≡ row k p (y + j)
unfolding row
row_of_band p Gray y n j e lj = row_of-same p.width 1 _ _ (λ x c lx lc. sample_of_band p y n x j c lx lj (omega arith))
row_of_band p Rgb y n j e lj = row_of-same p.width 3 _ _ (λ x c lx lc. sample_of_band p y n x j c lx lj (omega arith))
row_of_band p Gray16 y n j e lj = shorts_of-same p.width 1 _ _ (λ x c lx lc. sample_of_band p y n x j c lx lj (omega arith))
row_of_band p Rgb16 y n j e lj = shorts_of-same p.width 3 _ _ (λ x c lx lc. sample_of_band p y n x j c lx lj (omega arith))
row_of_band p Bitonal y n j e lj = joined-same (div_ceil p.width 8) _ _ (λ i li. rw (
  bit_of_band p y n (8 * i + 0) j lj (omega arith),
  bit_of_band p y n (8 * i + 1) j lj (omega arith),
  bit_of_band p y n (8 * i + 2) j lj (omega arith),
  bit_of_band p y n (8 * i + 3) j lj (omega arith),
  bit_of_band p y n (8 * i + 4) j lj (omega arith),
  bit_of_band p y n (8 * i + 5) j lj (omega arith),
  bit_of_band p y n (8 * i + 6) j lj (omega arith),
  bit_of_band p y n (8 * i + 7) j lj (omega arith),
) refl)

joined-add : (m n : ℕ) (g : ℕ → List ℕ) → joined (m + n) g ≡ joined m g ++ joined n (λ i. g (m + i))
joined-add m zero g =
    let same : m + 0 ≡ m = omega arith in
    rw (same, append-nil) refl
joined-add m (suc n) g =
    let next : m + suc n ≡ (m + n) + 1 = omega arith in
    rw (next, joined_more (m + n) g, joined-add m n g) (append_assoc (joined m g) (joined n (λ i. g (m + i))) (g (m + n)))

strip_of_band : (p : Picture) (k : OutKind) (y n : ℕ) → p.channels ≡ samples_per_pixel k →
    strip k (band p y n) ≡ joined n (λ j. row k p (y + j))
unfolding strip
strip_of_band p k y n e = joined-same n (row k (band p y n)) (λ j. row k p (y + j)) (λ j lj. row_of_band p k y n j e lj)

-- The strip of m + n rows is that of the first m, and then that of the n below.
pub strip_more_rows : (p : Picture) (k : OutKind) (y m n : ℕ) → p.channels ≡ samples_per_pixel k →
    strip k (band p y (m + n)) ≡ strip k (band p y m) ++ strip k (band p (y + m) n)
strip_more_rows p k y m n e =
    rw (strip_of_band p k y (m + n) e, strip_of_band p k y m e, strip_of_band p k (y + m) n e)
    (joined-add m n (λ j. row k p (y + j)) ∙ ap (λ (s : List ℕ). joined m (λ j. row k p (y + j)) ++ s)
    (joined-same n _ _ (λ i li. ap (row k p) (omega arith))))

-- The strip of the band of all rows is that of the picture.
pub strip_all_rows : (p : Picture) (k : OutKind) → p.channels ≡ samples_per_pixel k → strip k (band p 0 p.height) ≡ strip k p
unfolding strip
strip_all_rows p k e = joined-same p.height (row k (band p 0 p.height)) (row k p)
    (λ j lj. row_of_band p k 0 p.height j e lj ∙ ap (row k p) (omega arith))

-- The strip of a band without rows is empty.
pub strip_no_rows : (p : Picture) (k : OutKind) (y : ℕ) → strip k (band p y 0) ≡ []
unfolding strip
strip_no_rows p k y = refl

-- The strips of bands, one after another, are the strip of the band that they cover.
strip_bands_from : (p : Picture) (k : OutKind) (y : ℕ) (heights : List ℕ) → p.channels ≡ samples_per_pixel k →
    flat_map (strip k) (bands p y heights) ≡ strip k (band p y (sum heights))
strip_bands_from p k y [] e = sym (strip_no_rows p k y)
strip_bands_from p k y (n ∷ ns) e =
    let total : sum (n ∷ ns) ≡ n + sum ns = sum_by-cons (λ (x : ℕ). x) n ns in
    rw (strip_bands_from p k (y + n) ns e) (sym (strip_more_rows p k y n (sum ns) e) ∙ ap (λ (m : ℕ). strip k (band p y m)) (sym total))

-- The strips of bands that cover a picture, one after another, are its strip.
pub strip_bands : (p : Picture) (k : OutKind) (heights : List ℕ) → p.channels ≡ samples_per_pixel k → sum heights ≡ p.height →
    flat_map (strip k) (bands p 0 heights) ≡ strip k p
strip_bands p k heights e total = rw (strip_bands_from p k 0 heights e, total) (strip_all_rows p k e)
