-- Parts of mirrored, turned, gray, bitonal and scaled pictures, and parts of parts.
use Rattle.std.proofs.Common.{◌≡◌, ℕ, ◌+◌, ◌-◌, ◌<◌, ◌≤◌, List, ◌++◌, Bool, true, false, zero, suc, refl, sym, ap, ◌∙◌, arith, add-zero}
use Rattle.std.proofs.Common.{append_assoc, ◌==◌, if◌then◌else◌}
use Rattle.std.proofs.lemmas.Bool.{eqb-true}
use Rattle.std.proofs.lemmas.List.{append-nil}
use Rattle.iiif_pixel.specs.Geometry.{LiesIn, sides_of, nested}
use Rattle.iiif_pixel.specs.Picture.{Picture, row_of, samples_of, dim_of, picture_of, sample_at, IsWhole}
use Rattle.iiif_pixel.specs.Operations.{crop, crop_at, mirrored, quarter_turned, gray, gray_at, gray_of, bitonal, black_or_white, quality}
use Rattle.iiif_pixel.specs.Scaling.{scale, scaled_at}
use Rattle.iiif_pixel.specs.Laws.{rows_from}
use Rattle.iiif_pixel.specs.declared.geometry.Dim.{Dim}
use Rattle.iiif_pixel.specs.declared.geometry.Rect.{Rect}
use Rattle.iiif_pixel.specs.declared.geometry.Quality.{Quality}
use Rattle.iiif_pixel.specs.declared.geometry.Quality.TheVariants.{Default, Color, Gray, Bitonal}
use Rattle.iiif_pixel.proofs.SampleLists.{samples_of-same, sample_at-picture_of, picture_of-samples}
use Rattle.iiif_pixel.proofs.TurnLemmas.{sample_at-mirrored, sample_at-quarter_turned}
use Rattle.iiif_pixel.proofs.Reading.{sample_at-crop}

-- two pictures of the same sides, channels and top that are built of the same samples
pub same_built : (w h c t : ℕ) (f g : ℕ → ℕ → ℕ → ℕ) → ((x y k : ℕ) → x < w → y < h → k < c → f x y k ≡ g x y k) →
    picture_of w h c t f ≡ picture_of w h c t g
same_built w h c t f g e =
    let P : List ℕ → Picture = λ s. record { width = w; height = h; channels = c; top = t; samples = s } in
    ap P (samples_of-same w h c f g e)

-- the part in r of a mirrored picture
pub mirrored_part : (p : Picture) (r : Rect) → r.x + r.w ≤ p.width → r.y + r.h ≤ p.height →
    mirrored (crop p (record { x = p.width - r.x - r.w; y = r.y; w = r.w; h = r.h })) ≡ crop (mirrored p) r
unfolding crop_at
mirrored_part p r columns rows =
    let from : Rect = record { x = p.width - r.x - r.w; y = r.y; w = r.w; h = r.h } in
    same_built r.w r.h p.channels p.top _ _ (λ x y k lx ly lk.
    sample_at-crop p from (r.w - 1 - x) y k (omega arith) ly lk
    ∙ ap (λ u. sample_at p u (r.y + y) k) (omega arith)
    ∙ sym (sample_at-mirrored p (r.x + x) (r.y + y) k (omega arith) (omega arith) lk))

-- the part in r of a picture after one quarter
pub part_after_one : (p : Picture) (r : Rect) → r.x + r.w ≤ p.height → r.y + r.h ≤ p.width →
    quarter_turned (crop p (record { x = r.y; y = p.height - r.x - r.w; w = r.h; h = r.w })) ≡ crop (quarter_turned p) r
unfolding crop_at
part_after_one p r columns rows =
    let from : Rect = record { x = r.y; y = p.height - r.x - r.w; w = r.h; h = r.w } in
    same_built r.w r.h p.channels p.top _ _ (λ x y k lx ly lk.
    sample_at-crop p from y (r.w - 1 - x) k ly (omega arith) lk
    ∙ ap (λ v. sample_at p (r.y + y) v k) (omega arith)
    ∙ sym (sample_at-quarter_turned p (r.x + x) (r.y + y) k (omega arith) (omega arith) lk))

-- the part in r of a picture after two quarters
pub part_after_two : (p : Picture) (r : Rect) → r.x + r.w ≤ p.width → r.y + r.h ≤ p.height →
    quarter_turned (quarter_turned (crop p (record { x = p.width - r.x - r.w; y = p.height - r.y - r.h; w = r.w; h = r.h }))) ≡ crop
    (quarter_turned (quarter_turned p)) r
part_after_two p r columns rows =
    let between : Rect = record { x = r.y; y = p.width - r.x - r.w; w = r.h; h = r.w } in
    ap quarter_turned (part_after_one p between (omega arith) (omega arith))
    ∙ part_after_one (quarter_turned p) r columns rows

-- the part in r of a picture after three quarters
pub part_after_three : (p : Picture) (r : Rect) → r.x + r.w ≤ p.height → r.y + r.h ≤ p.width →
    quarter_turned (quarter_turned (quarter_turned (crop p (record { x = p.width - r.y - r.h; y = r.x; w = r.h; h = r.w })))) ≡ crop
    (quarter_turned (quarter_turned (quarter_turned p))) r
part_after_three p r columns rows =
    let between : Rect = record { x = r.y; y = p.height - r.x - r.w; w = r.h; h = r.w } in
    let from : ℕ → Rect = λ y. record { x = p.width - r.y - r.h; y = y; w = r.h; h = r.w } in
    ap (λ y. quarter_turned (quarter_turned (quarter_turned (crop p (from y))))) (omega arith)
    ∙ ap quarter_turned (part_after_two p between (omega arith) (omega arith))
    ∙ part_after_one (quarter_turned (quarter_turned p)) r columns rows

-- a part of a part
pub crop-crop : (p : Picture) (a b : Rect) → LiesIn b (sides_of a) → crop (crop p a) b ≡ crop p (nested a b)
unfolding crop_at
crop-crop p a b inside =
    same_built b.w b.h p.channels p.top _ _ (λ x y k lx ly lk.
    sample_at-crop p a (b.x + x) (b.y + y) k (omega arith) (omega arith) lk
    ∙ ap (λ u. sample_at p u (a.y + (b.y + y)) k) (omega arith)
    ∙ ap (λ v. sample_at p (a.x + b.x + x) v k) (omega arith))

-- all places, as a part
pub crop-all : (p : Picture) → IsWhole p → crop p (record { x = 0; y = 0; w = p.width; h = p.height }) ≡ p
unfolding crop_at
crop-all p whole =
    same_built p.width p.height p.channels p.top _ _ (λ x y k lx ly lk.
    ap (λ u. sample_at p u (0 + y) k) (omega arith) ∙ ap (λ v. sample_at p x v k) (omega arith))
    ∙ picture_of-samples p whole

-- the gray value of a place of a part
gray_at-crop : (p : Picture) (r : Rect) (x y k : ℕ) → 0 < p.channels → x < r.w → y < r.h →
    gray_at (crop p r) x y k ≡ gray_at p (r.x + x) (r.y + y) k
unfolding gray_at
gray_at-crop p r x y k some lx ly =
    go (p.channels == 3) refl
  where
    at : (j : ℕ) → j < p.channels → sample_at (crop p r) x y j ≡ sample_at p (r.x + x) (r.y + y) j
    at j lj = sample_at-crop p r x y j lx ly lj

    value : (ℕ → ℕ) → Bool → ℕ
    value s b = if b then gray_of (s 0) (s 1) (s 2) else s 0

    go : (b : Bool) → (p.channels == 3) ≡ b → value (λ j. sample_at (crop p r) x y j) b ≡ value (λ j. sample_at p (r.x + x) (r.y + y) j) b
    go true e =
        let three : p.channels ≡ 3 = eqb-true p.channels 3 e in
        rw (at 0 some, at 1 (omega arith), at 2 (omega arith)) refl
    go false e = at 0 some

-- a part in gray is the part of the gray picture
pub gray-crop : (p : Picture) (r : Rect) → 0 < p.channels → LiesIn r (dim_of p) → gray (crop p r) ≡ crop (gray p) r
unfolding crop_at
gray-crop p r some inside =
    same_built r.w r.h 1 p.top _ _ (λ x y k lx ly lk.
    gray_at-crop p r x y k some lx ly
    ∙ sym (sample_at-picture_of p.width p.height 1 p.top (gray_at p) (r.x + x) (r.y + y) k (omega arith) (omega arith) lk))

-- a part in black and white is the part of the black and white picture
pub bitonal-crop : (p : Picture) (r : Rect) → 0 < p.channels → LiesIn r (dim_of p) → bitonal (crop p r) ≡ crop (bitonal p) r
unfolding crop_at
bitonal-crop p r some inside =
    same_built r.w r.h 1 255 _ _ (λ x y k lx ly lk.
    ap (black_or_white p.top) (gray_at-crop p r x y k some lx ly)
    ∙ sym (sample_at-picture_of p.width p.height 1 255 (λ x y k. black_or_white p.top (gray_at p x y k)) (r.x + x) (r.y + y) k (omega arith)
    (omega arith) lk))

-- a part in any quality is the part of the picture in that quality
pub quality-crop : (p : Picture) (r : Rect) (q : Quality) → 0 < p.channels → LiesIn r (dim_of p) →
    quality (crop p r) q ≡ crop (quality p q) r
quality-crop p r Default some inside = refl
quality-crop p r Color some inside = refl
quality-crop p r Gray some inside = gray-crop p r some inside
quality-crop p r Bitonal some inside = bitonal-crop p r some inside

-- a part of a scaled picture
pub crop-scale : (p : Picture) (size : Dim) (r : Rect) → LiesIn r size →
    crop (scale p size) r ≡ picture_of r.w r.h p.channels p.top (λ i j k. scaled_at p size (r.x + i) (r.y + j) k)
unfolding crop_at
crop-scale p size r inside =
    same_built r.w r.h p.channels p.top _ _ (λ x y k lx ly lk.
    sample_at-picture_of size.w size.h p.channels p.top (scaled_at p size) (r.x + x) (r.y + y) k (omega arith) (omega arith) lk)

-- the sample of a part of a scaled picture at a place
pub sample_at-crop-scale : (p : Picture) (size : Dim) (r : Rect) (i j k : ℕ) → LiesIn r size → i < r.w → j < r.h → k < p.channels →
    sample_at (crop (scale p size) r) i j k ≡ scaled_at p size (r.x + i) (r.y + j) k
sample_at-crop-scale p size r i j k inside li lj lk =
    sample_at-crop (scale p size) r i j k li lj lk
    ∙ sample_at-picture_of size.w size.h p.channels p.top (scaled_at p size) (r.x + i) (r.y + j) k (omega arith) (omega arith) lk

-- m rows, and the n rows after them
pub samples_of-split : (w m n c : ℕ) (f : ℕ → ℕ → ℕ → ℕ) →
    samples_of w (m + n) c f ≡ samples_of w m c f ++ samples_of w n c (λ x y k. f x (m + y) k)
unfolding samples_of
samples_of-split w m zero c f = rw (add-zero, append-nil) refl
samples_of-split w m (suc n) c f =
    let more : m + suc n ≡ suc (m + n) = omega arith in
    rw more
    (ap (λ s. s ++ row_of w c (λ x k. f x (m + n) k)) (samples_of-split w m n c f)
    ∙ append_assoc (samples_of w m c f) (samples_of w n c (λ x y k. f x (m + y) k)) (row_of w c (λ x k. f x (m + n) k)))

-- as crops of a picture
pub rows_after_rows : (p : Picture) (from m n : ℕ) →
    (crop p (rows_from p from (m + n))).samples ≡ (crop p (rows_from p from m)).samples ++ (crop p (rows_from p (from + m) n)).samples
unfolding crop_at
rows_after_rows p from m n =
    let at : ℕ → ℕ → ℕ → ℕ = λ x y k. sample_at p (0 + x) (from + y) k in
    samples_of-split p.width m n p.channels at
    ∙ ap (λ s. samples_of p.width m p.channels at ++ s) (samples_of-same p.width n p.channels _ _ (λ x y k lx ly lk.
    ap (λ v. sample_at p (0 + x) v k) (omega arith)))
