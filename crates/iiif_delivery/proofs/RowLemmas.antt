-- Rows written one band after another are those of one image.
use Rattle.std.proofs.Common.{◌≡◌, ℕ, ◌+◌, ◌-◌, ◌<◌, ◌≤◌, ltb, true, false, List, ◌++◌, inl, inr, refl, sym, ap, ◌∙◌, arith, append_assoc}
use Rattle.std.specs.Prelude.{if◌then◌else◌}
use Rattle.std.proofs.lemmas.Bool.{lt-ltb, le-ltb, cases_lt}
use Rattle.iiif_pixel.specs.Geometry.{channels_of}
use Rattle.iiif_pixel.specs.Operations.{crop, crop_at}
use Rattle.iiif_pixel.specs.Picture.{Picture, IsWhole, dim_of, sample_at}
use Rattle.iiif_pixel.specs.declared.geometry.Dim.{Dim}
use Rattle.iiif_pixel.proofs.SampleLists.{sample_at-picture_of, picture_of-samples}
use Rattle.iiif_pixel.proofs.CropLaws.{same_built}
use Rattle.iiif_pixel.proofs.Reading.{sample_at-crop}
use Rattle.iiif_canonical.specs.Images.{resolved_image}
use Rattle.iiif_keys.specs.Names.{named, Pictures}
use Rattle.iiif_keys.specs.declared.keys.SumKey.{SumKey}
use Rattle.iiif_keys.specs.declared.keys.TileKey.{TileKey}
use Rattle.iiif_keys.specs.declared.values.SumVal.{SumVal}
use Rattle.iiif_keys.specs.declared.values.TileVal.{TileVal}
use Rattle.iiif_assemble.specs.Jobs.{channels_in, IsShown}
use Rattle.iiif_assemble.specs.declared.job.Job.{Job}
use Rattle.iiif_tiff_write.specs.Bands.{band}
use Rattle.iiif_tiff_write.specs.File.{file, head_of, strip}
use Rattle.iiif_tiff_write.specs.Laws.{StripOfAllRows, StripOfMoreRows}
use Rattle.iiif_tiff_write.specs.OutKind.{samples_per_pixel}
use Rattle.iiif_tiff_write.specs.declared.kind.OutKind.{OutKind}
use Rattle.iiif_delivery.specs.Delivery.{result_dim, IsImageFor}
use Rattle.iiif_delivery.specs.Code.{with_rows, HasText, IsBandFor}

-- ---- A picture with other rows

-- above them it has its own
sample_above : (p : Picture) (y : ℕ) (b : Picture) (u v k : ℕ) → u < p.width → v < p.height → k < p.channels → v < y →
    sample_at (with_rows p y b) u v k ≡ sample_at p u v k
unfolding with_rows
sample_above p y b u v k lu lv lk above =
    let first : ltb v y ≡ true = lt-ltb _ _ above in
    sample_at-picture_of p.width p.height p.channels p.top _ u v k lu lv lk ∙ rw first refl

-- there it has those
sample_there : (p : Picture) (y : ℕ) (b : Picture) (u v k : ℕ) → u < p.width → y + v < p.height → k < p.channels → v < b.height →
    sample_at (with_rows p y b) u (y + v) k ≡ sample_at b u v k
unfolding with_rows
sample_there p y b u v k lu lv lk within =
    let first : ltb (y + v) y ≡ false = le-ltb _ _ (omega arith) in
    let last : ltb (y + v) (y + b.height) ≡ true = lt-ltb _ _ (omega arith) in
    sample_at-picture_of p.width p.height p.channels p.top _ u (y + v) k lu lv lk
    ∙ rw (first, last) (ap (λ i. sample_at b u i k) (omega arith))

-- the rows above are as they were
rows_above : (p : Picture) (y : ℕ) (b : Picture) → y ≤ p.height → band (with_rows p y b) 0 y ≡ band p 0 y
unfolding with_rows crop_at
rows_above p y b within =
    same_built p.width y p.channels p.top _ _
    (λ u v k lu lv lk. sample_above p y b (0 + u) (0 + v) k (omega arith) (omega arith) lk (omega arith))

-- and there are the others
rows_there : (p : Picture) (y : ℕ) (b : Picture) → IsWhole b → b.width ≡ p.width → b.channels ≡ p.channels → b.top ≡ p.top →
    y + b.height ≤ p.height →
    band (with_rows p y b) y b.height ≡ b
unfolding with_rows crop_at
rows_there p y b whole width channels top within =
    same_built p.width b.height p.channels p.top _ (λ u v k. sample_at b u v k)
    (λ u v k lu lv lk. sample_there p y b (0 + u) v k (omega arith) (omega arith) lk lv ∙ ap (λ i. sample_at b i v k) (omega arith))
    ∙ rw (← width, ← channels, ← top) (picture_of-samples b whole)

-- its own rows in place of its own change nothing
own_sample : (p : Picture) (y n u v k : ℕ) → u < p.width → k < p.channels →
    (if ltb v y then sample_at p u v k else (if ltb v (y + n) then sample_at (crop p (record { x = 0; y = y; w = p.width; h = n })) u
    (v - y) k else sample_at p u v k)) ≡ sample_at p u v k
own_sample p y n u v k lu lk = elim (cases_lt v y) [
  | inl above ↦ let first : ltb v y ≡ true = lt-ltb _ _ above in rw first refl
  | inr below ↦
      let first : ltb v y ≡ false = le-ltb _ _ below in
      elim (cases_lt v (y + n)) [
        | inl within ↦
            let last : ltb v (y + n) ≡ true = lt-ltb _ _ within in
            rw (first, last)
            (sample_at-crop p (record { x = 0; y = y; w = p.width; h = n }) u (v - y) k lu (omega arith) lk
            ∙ ap (λ i. sample_at p i (y + (v - y)) k) (omega arith) ∙ ap (λ i. sample_at p u i k) (omega arith))
        | inr past ↦ let last : ltb v (y + n) ≡ false = le-ltb _ _ past in rw (first, last) refl
      ]
]

rows_same : (p : Picture) (y n : ℕ) → IsWhole p → with_rows p y (crop p (record { x = 0; y = y; w = p.width; h = n })) ≡ p
unfolding with_rows
rows_same p y n whole =
    same_built p.width p.height p.channels p.top _ (λ u v k. sample_at p u v k) (λ u v k lu lv lk. own_sample p y n u v k lu lk)
    ∙ picture_of-samples p whole

-- ---- Texts

module _ (shows : Pictures) (j : Job) (tile_means : TileKey → TileVal → Type 0) (sum_means : SumKey → SumVal → Type 0) (kind : OutKind)
    (start : List ℕ)
    (fits : channels_in j.resolved.quality (channels_of j.shape.kind) ≡ samples_per_pixel kind)
    (more : StripOfMoreRows) (all_rows : StripOfAllRows)
    (whole : IsWhole (resolved_image (named shows j.name) j.resolved))
    (sides : dim_of (resolved_image (named shows j.name) j.resolved) ≡ result_dim j) where
  asked : Picture
  asked = resolved_image (named shows j.name) j.resolved

  same_after : (image b : Picture) (y n : ℕ) → IsImageFor shows j tile_means sum_means image →
      IsBandFor j tile_means sum_means (record { x = 0; y = y; w = (result_dim j).w; h = n }) b → IsShown shows j tile_means sum_means →
      with_rows image y b ≡ resolved_image (named shows j.name) j.resolved
  same_after image b y n is_for is_band shown =
      let r = resolved_image (named shows j.name) j.resolved in
      let width : (result_dim j).w ≡ r.width = sym (ap (λ (d : Dim). d.w) sides) in
      ap (λ p. with_rows p y b) (is_for.same shown)
      ∙ ap (with_rows r y) (is_band.same shows shown ∙ ap (λ w. crop r (record { x = 0; y = y; w = w; h = n })) width)
      ∙ rows_same r y n whole

  image_after : (image b : Picture) (y n : ℕ) → IsImageFor shows j tile_means sum_means image →
      IsBandFor j tile_means sum_means (record { x = 0; y = y; w = (result_dim j).w; h = n }) b →
      IsImageFor shows j tile_means sum_means (with_rows image y b)
  unfolding with_rows
  image_after image b y n is_for is_band = record {
    sides = is_for.sides;
    channels = is_for.channels;
    top = is_for.top;
    same = same_after image b y n is_for is_band;
  }

  -- a band behind the rows above it
  pub more_text : (all : List ℕ) (b : Picture) (y n : ℕ) → y + n ≤ (result_dim j).h →
      HasText shows j tile_means sum_means kind start all y →
      IsBandFor j tile_means sum_means (record { x = 0; y = y; w = (result_dim j).w; h = n }) b →
      HasText shows j tile_means sum_means kind start (all ++ strip kind b) (y + n)
  more_text all b y n within has is_band =
      let image = has.image in
      let next = with_rows image y b in
      let is_for = image_after image b y n has.is_for is_band in
      let width : image.width ≡ (result_dim j).w = ap (λ (d : Dim). d.w) has.is_for.sides in
      let height : image.height ≡ (result_dim j).h = ap (λ (d : Dim). d.h) has.is_for.sides in
      let tall : b.height ≡ n = ap (λ (d : Dim). d.h) is_band.sides in
      let wide : b.width ≡ image.width = ap (λ (d : Dim). d.w) is_band.sides ∙ sym width in
      let above : band next 0 y ≡ band image 0 y = rows_above image y b (omega arith) in
      let there : band next y b.height ≡ b =
      rows_there image y b is_band.whole wide (is_band.channels ∙ sym has.is_for.channels) (is_band.top ∙ sym has.is_for.top) (omega arith)
      in
      let down : band next (0 + y) n ≡ b = ap (λ i. band next i n) (omega arith) ∙ ap (band next y) (sym tall) ∙ there in
      let cut : strip kind (band next 0 (y + n)) ≡ strip kind (band image 0 y) ++ strip kind b =
      more next kind 0 y n (is_for.channels ∙ fits) ∙ ap (λ p. strip kind p ++ strip kind (band next (0 + y) n)) above
      ∙ ap (λ p. strip kind (band image 0 y) ++ strip kind p) down in
      let front = start ++ head_of kind (result_dim j) in
      record {
        image = next;
        is_for = is_for;
        are = ap (λ t. t ++ strip kind b) has.are
            ∙ append_assoc front (strip kind (band image 0 y)) (strip kind b)
            ∙ ap (λ t. front ++ t) (sym cut);
      }

  -- what is left of the whole text
  pub text_left : (all : List ℕ) (y : ℕ) → y ≤ (result_dim j).h → (has : HasText shows j tile_means sum_means kind start all y) →
      (rest : List ℕ) × (start ++ file has.image kind ≡ all ++ rest)
  text_left all y within has =
      let image = has.image in
      let height : image.height ≡ (result_dim j).h = ap (λ (d : Dim). d.h) has.is_for.sides in
      let n = image.height - y in
      let rest = strip kind (band image (0 + y) n) in
      let total : image.height ≡ y + n = omega arith in
      let cut : strip kind image ≡ strip kind (band image 0 y) ++ rest =
      sym (all_rows image kind (has.is_for.channels ∙ fits)) ∙ ap (λ m. strip kind (band image 0 m)) total ∙
      more image kind 0 y n (has.is_for.channels ∙ fits) in
      let head = head_of kind (result_dim j) in
      let front = start ++ head in (
        rest,
        ap (λ (d : Dim). start ++ (head_of kind d ++ strip kind image)) has.is_for.sides
            ∙ sym (append_assoc start head (strip kind image))
            ∙ ap (λ t. front ++ t) cut
            ∙ sym (append_assoc front (strip kind (band image 0 y)) rest)
            ∙ ap (λ t. t ++ rest) (sym has.are),
      )
