-- The steps of an image that is sent band by band.
use Rattle.std.proofs.Common.{◌≡◌, ℕ, ◌+◌, ◌*◌, ◌%◌, ◌<◌, ◌≤◌, ◌⊎◌, ◌==◌, eqb, min, max, Bool, true, false, List, [], ◌++◌, length}
use Rattle.std.proofs.Common.{take, inl, inr, ⊎_elim, refl, sym, ap, subst, ◌∙◌, arith, append_assoc, length-append, Option}
use Rattle.std.specs.Prelude.{if◌then◌else◌}
use Rattle.std.specs.Int.{div_ceil}
use Rattle.std.specs.Io.KnownBytes.{Appends}
use Rattle.std.proofs.KnownBytes.{Appends-nil, Appends-trans}
use Rattle.std.proofs.lemmas.Grind.{div_ceil_times}
use Rattle.std.proofs.lemmas.List.{append-nil, take-append-le}
use Rattle.std.proofs.Math.Nat.{mul-le-mul_left, mul-le-mul_right}
use Rattle.std.proofs.Math.Seq.{take-append_seam, take-append-add}
use Rattle.iiif_io.specs.Sending.{WasCut}
use Rattle.iiif_pixel.proofs.Channels.{channels_some}
use Rattle.iiif_pixel.specs.Geometry.{channels_of}
use Rattle.iiif_pixel.specs.Operations.{crop, turn, quality}
use Rattle.iiif_pixel.specs.Picture.{Picture, IsWhole, dim_of}
use Rattle.iiif_pixel.specs.Scaling.{scale, whole_of}
use Rattle.iiif_pixel.specs.TurnPlaces.{turned_dim}
use Rattle.iiif_pixel.specs.declared.geometry.Dim.{Dim}
use Rattle.iiif_canonical.specs.Images.{resolved_image}
use Rattle.iiif_canonical.specs.declared.resolved.Resolved.{Resolved}
use Rattle.iiif_keys.specs.Names.{named, IsSource, Pictures}
use Rattle.iiif_keys.specs.Shapes.{HasPicture}
use Rattle.iiif_keys.specs.declared.fault.Fault.{Fault}
use Rattle.iiif_keys.specs.declared.fault.Fault.TheVariants.{NoMemory}
use Rattle.iiif_keys.specs.declared.keys.SumKey.{SumKey}
use Rattle.iiif_keys.specs.declared.keys.TileKey.{TileKey}
use Rattle.iiif_keys.specs.declared.values.SumVal.{SumVal}
use Rattle.iiif_keys.specs.declared.values.TileVal.{TileVal}
use Rattle.iiif_planner.specs.declared.banding.Band.{Band}
use Rattle.iiif_assemble.specs.Faults.{IsBandFault}
use Rattle.iiif_assemble.specs.Jobs.{channels_in, top_in, IsBandOf, IsHeldFor}
use Rattle.iiif_assemble.specs.declared.job.Job.{Job}
use Rattle.iiif_assemble.proofs.ImageLemmas.{all_rows, image_top, picture_shown, quality_channels, turned_channels}
use Rattle.iiif_tiff_write.specs.Bands.{band}
use Rattle.iiif_tiff_write.specs.File.{file, file_len, head_of, row_len, strip, strip_len, strip_offset}
use Rattle.iiif_tiff_write.specs.OutKind.{samples_per_pixel}
use Rattle.iiif_tiff_write.specs.declared.kind.OutKind.{OutKind}
use Rattle.iiif_tiff_write.specs.declared.kind.OutKind.TheVariants.{Gray, Rgb, Bitonal, Gray16, Rgb16}
use Rattle.iiif_tiff_write.proofs.Lengths.{length-head_of, length-strip, length-file}
use Rattle.iiif_delivery.specs.Delivery.{band_from, front_len, len_with, result_dim, FailsFor, IsBufferedIn, IsHeldInBands}
use Rattle.iiif_delivery.specs.Delivery.{IsImageFor, Stops}
use Rattle.iiif_delivery.specs.Code.{HasBuffered, HasCounted, HasRows, HasText, IsBandFor, Laws, StopsFor}
use Rattle.iiif_delivery.specs.declared.delivery.Delivered.{Delivered}
use Rattle.iiif_delivery.specs.declared.delivery.Stopped.{Stopped}
use Rattle.iiif_delivery.specs.declared.delivery.Stopped.TheVariants.{Load}
use Rattle.iiif_delivery.specs.declared.sending.Sending.{Sending}
use Rattle.iiif_delivery.proofs.RowLemmas.{more_text, text_left}

-- ---- The image that is asked for

asked_whole : Laws → (p : Picture) (r : Resolved) → IsWhole p → IsWhole (resolved_image p r)
unfolding resolved_image
asked_whole laws p r whole =
    let s = scale (crop p r.rect) r.size in
    laws.qualities (turn s r.turn) r.quality (laws.turns s r.turn (laws.scales (crop p r.rect) r.size (laws.crops p r.rect whole)))

asked_sides : Laws → (p : Picture) (r : Resolved) → IsWhole p → r.turn.quarters < 4 → dim_of (resolved_image p r) ≡ turned_dim r.turn r.size
asked_sides laws p r whole few =
    sym (ap dim_of (all_rows laws.rows laws.crops laws.scales laws.turns laws.qualities p r (whole_of (turned_dim r.turn r.size)) whole few
    refl))

asked_channels : (p : Picture) (r : Resolved) → r.turn.quarters < 4 → (resolved_image p r).channels ≡ channels_in r.quality p.channels
unfolding resolved_image
asked_channels p r few =
    let s = scale (crop p r.rect) r.size in
    quality_channels (turn s r.turn) r.quality ∙ ap (channels_in r.quality) (turned_channels r.turn s few)

asked_top : (p : Picture) (r : Resolved) → (resolved_image p r).top ≡ top_in r.quality p.top
unfolding resolved_image
asked_top p r =
    let s = scale (crop p r.rect) r.size in
    image_top s (turn s r.turn) (quality (turn s r.turn) r.quality) r.turn r.quality p.top refl refl refl

-- ---- Bands in their order

-- the last band ends with the last row
pub bands_end : (h rows i : ℕ) → 0 < rows → div_ceil h rows ≤ i → min (i * rows) h ≡ h
bands_end h rows i some past =
    let reached : h ≤ div_ceil h rows * rows = (div_ceil_times h rows some).0 in
    let later : div_ceil h rows * rows ≤ i * rows = mul-le-mul_right rows past in
    omega (arith, reached, later)

-- ---- Lengths

row_some : (k : OutKind) (w : ℕ) → 0 < w → 0 < row_len k w
row_some Gray w l = l
row_some Rgb w l = omega arith
row_some Bitonal w l = omega arith
row_some Gray16 w l = omega arith
row_some Rgb16 w l = omega arith

offset_some : (k : OutKind) → 0 < strip_offset k
offset_some Gray = omega arith
offset_some Rgb = omega arith
offset_some Bitonal = omega arith
offset_some Gray16 = omega arith
offset_some Rgb16 = omega arith

pub length_front : (start : List ℕ) (k : OutKind) (d : Dim) → length (start ++ head_of k d) ≡ length start + strip_offset k
length_front start k d = length-append start (head_of k d) ∙ ap (λ n. length start + n) (length-head_of k d)

pub length_whole : (start : List ℕ) (k : OutKind) (p : Picture) (d : Dim) → dim_of p ≡ d →
    length (start ++ file p k) ≡ length start + file_len k d
length_whole start k p d sides = length-append start (file p k) ∙ ap (λ n. length start + n) (length-file k p ∙ ap (file_len k) sides)

-- rows above the last leave a byte
pub rows_short : (k : OutKind) (w y h : ℕ) → 0 < w → y < h → row_len k w * y < row_len k w * h
rows_short k w y h some above =
    let row = row_len k w in
    let more : row * (y + 1) ≤ row * h = mul-le-mul_left row (omega arith) in
    let sum : row * (y + 1) ≡ row * y + row = omega arith in
    omega (arith, more, sum, row_some k w some)

-- ---- Counts

-- where something is held a band was made; where nothing is, none was
pub counted_len : (j : Job) (kind : OutKind) (front rows : ℕ) (text : List ℕ) (sent held y all : ℕ) →
    HasCounted j kind front rows text sent held y → 0 < held →
    all ≡ sent + length text → (0 < y) × (all ≡ len_with kind front (result_dim j).w y)
counted_len j kind front rows text sent held y all counted some is = elim counted.begun [
  | inl none ↦ absurd (omega (arith, none.2, some))
  | inr begun ↦
      let above : 0 < y = begun.0 in
      let later : eqb y 0 ≡ false = grind arith in
      let t = counted.total in
      (above, rw later (omega (arith, t, is)))
]

pub counted_none : (j : Job) (kind : OutKind) (front rows : ℕ) (text : List ℕ) (sent held y : ℕ) →
    HasCounted j kind front rows text sent held y → held ≡ 0 →
    0 < (result_dim j).w → (y ≡ 0) × (sent ≡ 0)
counted_none j kind front rows text sent held y counted zero some = elim counted.begun [
  | inl none ↦ (none.0, none.1)
  | inr begun ↦
      let c = channels_of j.shape.kind in
      let one : 1 * c ≤ (result_dim j).w * c = mul-le-mul_right c (omega (arith, some)) in
      absurd (omega (arith, begun.1, zero, one, channels_some j.shape.kind))
]

pub counted_before : (j : Job) (kind : OutKind) (front rows : ℕ) (text : List ℕ) (sent held y : ℕ) →
    HasCounted j kind front rows text sent held y → held ≡ 0 →
    0 < (result_dim j).w → sent ≡ len_with kind front (result_dim j).w y
counted_before j kind front rows text sent held y counted zero some =
    let none = counted_none j kind front rows text sent held y counted zero some in
    let first : eqb y 0 ≡ true = rw (none.0) refl in
    rw first (none.1)

-- a band more
pub counted_more : (j : Job) (kind : OutKind) (front rows : ℕ) (text more after : List ℕ) (sent held most y n y2 held2 : ℕ) →
    HasCounted j kind front rows text sent held y →
    length more ≡ row_len kind (result_dim j).w * n → IsHeldFor (record { w = (result_dim j).w; h = n }) (channels_of j.shape.kind) most →
    n ≤ min rows (result_dim j).h → 0 < n →
    (y ≡ 0 → n ≡ min rows (result_dim j).h) → held2 ≡ max held most → y2 ≡ y + n → after ≡ text ++ more →
    HasCounted j kind front rows after sent held2 y2
counted_more j kind front rows text more after sent held most y n y2 held2 counted len is_held few some whole greater next ready =
    let d = result_dim j in
    let c = channels_of j.shape.kind in
    let row = row_len kind d.w in
    let both : length after ≡ length text + length more = ap length ready ∙ length-append text more in
    let sum : row * y2 ≡ row * y + row * n = ap (λ m. row * m) next ∙ omega arith in
    let narrow : n * (d.w * c) ≤ min rows d.h * (d.w * c) = mul-le-mul_right (d.w * c) few in
    let one : 1 * (d.w * c) ≤ n * (d.w * c) = mul-le-mul_right (d.w * c) some in
    let own : d.w * n * c ≡ n * (d.w * c) = omega arith in
    let wide : min rows d.h * d.w * c ≡ min rows d.h * (d.w * c) = omega arith in
    record {
      total = let t = counted.total in omega (arith, t, both, sum, len);
      band = let a = counted.band in let b = is_held.twice in omega (arith, a, b, narrow, own, wide, greater);
      begun = inr (omega (arith, next, some), let b = is_held.own in omega (arith, b, one, own, greater));
      first = λ _. elim counted.begun [
        | inl none ↦
            let same : n * (d.w * c) ≡ min rows d.h * (d.w * c) = ap (λ m. m * (d.w * c)) (whole none.0) in
            let b = is_held.own in omega (arith, b, own, same, wide, greater)
        | inr begun ↦ let a = counted.first begun.0 in omega (arith, a, greater)
      ];
    }

-- what stood ready is written
pub counted_flushed : (j : Job) (kind : OutKind) (front rows : ℕ) (text after : List ℕ) (sent held y sent2 : ℕ) →
    HasCounted j kind front rows text sent held y → 0 < y →
    sent2 ≡ sent + length text → after ≡ [] → HasCounted j kind front rows after sent2 held y
counted_flushed j kind front rows text after sent held y sent2 counted some written none = record {
  total = let t = counted.total in let empty : length after ≡ 0 = ap length none in omega (arith, t, written, empty);
  band = counted.band;
  begun = elim counted.begun [
    | inl first ↦ absurd (omega (arith, first.0, some))
    | inr begun ↦ inr begun
  ];
  first = counted.first;
}

pub counted_first : (j : Job) (kind : OutKind) (front rows y : ℕ) (text : List ℕ) → length text ≡ front → y ≡ 0 →
    HasCounted j kind front rows text 0 0 y
counted_first j kind front rows y text len none = record {
  total = let zero : row_len kind (result_dim j).w * y ≡ 0 = ap (λ m. row_len kind (result_dim j).w * m) none ∙ omega arith in
      omega (arith, len, zero);
  band = omega arith;
  begun = inl (none, refl, refl);
  first = λ some. absurd (omega (arith, none, some));
}

-- all rows
pub counted_done : (j : Job) (kind : OutKind) (front rows : ℕ) (text : List ℕ) (sent held y : ℕ) → 0 < (result_dim j).h →
    y ≡ (result_dim j).h →
    HasCounted j kind front rows text sent held y → IsHeldInBands (result_dim j) rows (channels_of j.shape.kind) held
counted_done j kind front rows text sent held y some end counted =
    record { band = counted.first (omega (arith, end, some)); twice = counted.band }

-- ---- What is buffered

-- what stands before the rows
pub buffered_first : (j : Job) (kind : OutKind) (front rows y : ℕ) (text : List ℕ) → length text ≡ front → y ≡ 0 →
    HasBuffered j kind front rows text 0 y
buffered_first j kind front rows y text len none =
    record { now = omega (arith, len); least = λ some. absurd (omega (arith, none, some)); most = omega arith }

-- a band more, of which nothing is buffered any longer where it is flushed
pub buffered_more : (j : Job) (kind : OutKind) (front rows : ℕ) (text more after left : List ℕ) (sent held y n y2 buffered buffered2 : ℕ) →
    HasCounted j kind front rows text sent held y → HasBuffered j kind front rows text buffered y →
    length more ≡ row_len kind (result_dim j).w * n → n ≤ min rows (result_dim j).h → after ≡ text ++ more →
    buffered2 ≡ max buffered (length after) → length left ≤ 65536 + front → HasBuffered j kind front rows left buffered2 y2
buffered_more j kind front rows text more after left sent held y n y2 buffered buffered2 counted has len few ready greater short =
    let row = row_len kind (result_dim j).w in
    let both : length after ≡ length text + length more = ap length ready ∙ length-append text more in
    let narrow : row * n ≤ row * min rows (result_dim j).h = mul-le-mul_left row few in
    record {
      now = short;
      least = λ _. elim counted.begun [
        | inl none ↦
            let t = counted.total in
            let zero : row * y ≡ 0 = ap (λ m. row * m) (none.0) ∙ omega arith in
            omega (arith, t, zero, none.1, both, greater)
        | inr begun ↦ let l = has.least (begun.0) in omega (arith, l, greater)
      ];
      most = let m = has.most in let now = has.now in omega (arith, m, now, both, len, narrow, greater);
    }

-- all rows
pub buffered_done : (s : Sending) (d : Delivered) (text : List ℕ) (y : ℕ) → 0 < (result_dim s.job.now).h → y ≡ (result_dim s.job.now).h →
    HasBuffered s.job.now s.kind (front_len s) s.rows text d.buffered y → IsBufferedIn s d
buffered_done s d text y some end has = record { front = has.least (omega (arith, end, some)); bounded = has.most }

-- ---- What is written

module _ (laws : Laws) (j : Job) (tile_means : TileKey → TileVal → Type 0) (sum_means : SumKey → SumVal → Type 0) (kind : OutKind)
    (start : List ℕ)
    (few : j.resolved.turn.quarters < 4) (fits : channels_in j.resolved.quality (channels_of j.shape.kind) ≡ samples_per_pixel kind) where
  first_image : (shows : Pictures) → HasPicture shows j.name j.shape → IsSource (named shows j.name) →
      IsImageFor shows j tile_means sum_means (resolved_image (named shows j.name) j.resolved)
  first_image shows has source =
      let p = named shows j.name in
      let r = j.resolved in
      let of = picture_shown shows j has source in
      record {
        sides = asked_sides laws p r of.whole few;
        channels = asked_channels p r few ∙ ap (channels_in r.quality) of.samples_a_place;
        top = asked_top p r ∙ ap (top_in r.quality) of.depth;
        same = λ shown. refl;
      }

  -- before the first band
  pub first_rows : (old : Option (List ℕ)) (text : List ℕ) (y : ℕ) → text ≡ start ++ head_of kind (result_dim j) → y ≡ 0 →
      (shows : Pictures) → HasPicture shows j.name j.shape → IsSource (named shows j.name) →
      HasRows shows j tile_means sum_means kind start old old text 0 y
  first_rows old text y is none shows has source =
      let image = resolved_image (named shows j.name) j.resolved in
      let front = start ++ head_of kind (result_dim j) in
      record {
        written = [];
        appended = Appends-nil old;
        count = refl;
        has = record {
          image = image;
          is_for = first_image shows has source;
          are = is ∙ sym (append-nil front) ∙ ap (λ s. front ++ s)
              (sym (laws.none image kind 0) ∙ ap (λ m. strip kind (band image 0 m)) (sym none));
        };
      }

  -- nothing was sent
  pub none_sent : (old : Option (List ℕ)) (shows : Pictures) → HasPicture shows j.name j.shape → IsSource (named shows j.name) →
      (image : Picture) × IsImageFor shows j tile_means sum_means image
      × ((0 < length (start ++ file image kind)) × Appends old old [] ×
      ((◌≡◌ {A = ℕ} 0 0) ⊎ (length (start ++ head_of kind (result_dim j)) ≤ 0)))
  none_sent old shows has source =
      let image = resolved_image (named shows j.name) j.resolved in
      let is_for = first_image shows has source in
      let long = length_whole start kind image (result_dim j) is_for.sides in
      (image, is_for, (omega (arith, long, offset_some kind), Appends-nil old, inl refl))

  -- so much as was written before a band is there stays less than all
  rows_left : (old new : Option (List ℕ)) (text : List ℕ) (sent held rows y : ℕ) → y < (result_dim j).h → 0 < (result_dim j).w →
      HasCounted j kind (length (start ++ head_of kind (result_dim j))) rows text sent held y →
      (shows : Pictures) → HasPicture shows j.name j.shape → IsSource (named shows j.name) →
      HasRows shows j tile_means sum_means kind start old new text sent y →
      (image : Picture) × IsImageFor shows j tile_means sum_means image
      × (sent < length (start ++ file image kind)) × Appends old new (take sent (start ++ file image kind))
  rows_left old new text sent held rows y above some counted shows has source so_far =
      let p = named shows j.name in
      let of = picture_shown shows j has source in
      let image = so_far.has.image in
      let left = text_left shows j tile_means sum_means kind start fits laws.more laws.all (asked_whole laws p j.resolved of.whole)
      (asked_sides laws p j.resolved of.whole few)
      (so_far.written ++ text) y (omega (arith, above)) so_far.has in
      let full : start ++ file image kind ≡ so_far.written ++ (text ++ left.0) = left.1 ∙ append_assoc so_far.written text left.0 in
      let long = length_whole start kind image (result_dim j) so_far.has.is_for.sides in
      let front = length_front start kind (result_dim j) in
      let short = rows_short kind (result_dim j).w y (result_dim j).h some above in
      let total = counted.total in
      let part : take sent (start ++ file image kind) ≡ so_far.written =
      ap (λ n. take n (start ++ file image kind)) so_far.count ∙ ap (take (length so_far.written)) full ∙
      take-append_seam so_far.written (text ++ left.0) in (
        image,
        so_far.has.is_for,
        omega (arith, long, front, short, total),
        subst (Appends old new) (sym part) so_far.appended,
      )

  -- so much of it as was written before a band failed: nothing, or all that stood ready
  pub load_stopped : (old new : Option (List ℕ)) (text : List ℕ) (sent held rows y : ℕ) → y < (result_dim j).h → 0 < (result_dim j).w →
      HasCounted j kind (length (start ++ head_of kind (result_dim j))) rows text sent held y → (sent ≡ 0) ⊎ (text ≡ []) →
      (shows : Pictures) → HasPicture shows j.name j.shape → IsSource (named shows j.name) →
      HasRows shows j tile_means sum_means kind start old new text sent y →
      (image : Picture) × IsImageFor shows j tile_means sum_means image
      × ((sent < length (start ++ file image kind)) × Appends old new (take sent (start ++ file image kind)) ×
      ((sent ≡ 0) ⊎ (length (start ++ head_of kind (result_dim j)) ≤ sent)))
  load_stopped old new text sent held rows y above some counted ready shows has source so_far =
      let left = rows_left old new text sent held rows y above some counted shows has source so_far in
      let total = counted.total in (
        left.0,
        left.1,
        (
          left.2,
          left.3,
          ⊎_elim (λ none. inl none) (λ (none : text ≡ []). let empty : length text ≡ 0 = ap length none in
              inr (omega (arith, total, empty))) ready,
        ),
      )

  -- and so where who reads is found to be gone before a band is made
  pub gone_stopped : {W : Type 0} (contents : W → Option (List ℕ)) (fails : W → W → Type 0) (old mid : W) (text : List ℕ)
      (sent held rows y : ℕ) → y < (result_dim j).h → 0 < (result_dim j).w →
      HasCounted j kind (length (start ++ head_of kind (result_dim j))) rows text sent held y → fails mid mid →
      (shows : Pictures) → HasPicture shows j.name j.shape → IsSource (named shows j.name) →
      HasRows shows j tile_means sum_means kind start (contents old) (contents mid) text sent y →
      (image : Picture) × IsImageFor shows j tile_means sum_means image ×
      WasCut contents fails old mid (start ++ file image kind) sent
  gone_stopped contents fails old mid text sent held rows y above some counted gone shows has source so_far =
      let left = rows_left (contents old) (contents mid) text sent held rows y above some counted shows has source so_far in (
        left.0,
        left.1,
        record { strict = left.2; written = left.3; before = mid; reached = left.3; failed = gone },
      )

  -- so much as was written before the writer failed
  pub writer_stopped : {W : Type 0} (contents : W → Option (List ℕ)) (fails : W → W → Type 0) (old mid new : W) (text : List ℕ)
      (sent y m : ℕ) → y ≤ (result_dim j).h →
      WasCut contents fails mid new text m → (shows : Pictures) → HasPicture shows j.name j.shape → IsSource (named shows j.name) →
      HasRows shows j tile_means sum_means kind start (contents old) (contents mid) text sent y →
      (image : Picture) × IsImageFor shows j tile_means sum_means image ×
      WasCut contents fails old new (start ++ file image kind) (sent + m)
  writer_stopped contents fails old mid new text sent y m within cut shows has source so_far =
      let p = named shows j.name in
      let of = picture_shown shows j has source in
      let image = so_far.has.image in
      let left = text_left shows j tile_means sum_means kind start fits laws.more laws.all (asked_whole laws p j.resolved of.whole)
      (asked_sides laws p j.resolved of.whole few)
      (so_far.written ++ text) y within so_far.has in
      let full : start ++ file image kind ≡ so_far.written ++ (text ++ left.0) = left.1 ∙ append_assoc so_far.written text left.0 in
      let strict = cut.strict in
      let longer : length (start ++ file image kind) ≡ length so_far.written + (length text + length left.0) =
      ap length full ∙ length-append so_far.written (text ++ left.0) ∙ ap (λ k. length so_far.written + k) (length-append text left.0) in
      let part : take (sent + m) (start ++ file image kind) ≡ so_far.written ++ take m text =
      ap (λ k. take (k + m) (start ++ file image kind)) so_far.count ∙ ap (take (length so_far.written + m)) full
      ∙ take-append-add so_far.written (text ++ left.0) m
      ∙ ap (λ t. so_far.written ++ t) (take-append-le m text left.0 (omega (arith, strict))) in
      let count = so_far.count in (
        image,
        so_far.has.is_for,
        record {
          strict = omega (arith, longer, strict, count);
          written = subst (Appends (contents old) (contents new)) (sym part) (Appends-trans _ _ _ _ _ so_far.appended cut.written);
          before = cut.before;
          reached = subst (Appends (contents old) (contents cut.before)) (sym part) (Appends-trans _ _ _ _ _ so_far.appended cut.reached);
          failed = cut.failed;
        },
      )

  -- what stood ready is written
  pub flushed_rows : (old mid new : Option (List ℕ)) (text after : List ℕ) (sent sent2 y : ℕ) → Appends mid new text → after ≡ [] →
      sent2 ≡ sent + length text →
      (shows : Pictures) → HasRows shows j tile_means sum_means kind start old mid text sent y →
      HasRows shows j tile_means sum_means kind start old new after sent2 y
  flushed_rows old mid new text after sent sent2 y appended none written shows so_far =
      let all = so_far.written ++ text in
      let same : all ≡ all ++ after = sym (append-nil all) ∙ ap (λ t. all ++ t) (sym none) in
      let count = so_far.count in
      record {
        written = all;
        appended = Appends-trans _ _ _ _ _ so_far.appended appended;
        count = omega (arith, count, written, length-append so_far.written text);
        has = subst (λ t. HasText shows j tile_means sum_means kind start t y) same so_far.has;
      }

  -- so much of it as was written where a band can't be made
  pub band_stopped : {W : Type 0} (contents : W → Option (List ℕ)) (fails : W → W → Type 0) (old mid new : W) (text : List ℕ)
      (sent held rows y : ℕ) (f : Fault) (s : Stopped) → y < (result_dim j).h → 0 < (result_dim j).w →
      HasCounted j kind (length (start ++ head_of kind (result_dim j))) rows text sent held y →
      StopsFor contents fails mid new text sent held f s →
      (shows : Pictures) → HasPicture shows j.name j.shape → IsSource (named shows j.name) →
      HasRows shows j tile_means sum_means kind start (contents old) (contents mid) text sent y →
      (image : Picture) × IsImageFor shows j tile_means sum_means image ×
      Stops contents fails old new (length (start ++ head_of kind (result_dim j))) (start ++ file image kind) s
  band_stopped {W} contents fails old mid new text sent held rows y f s above some counted (inl none) shows has source so_far =
      let front = length (start ++ head_of kind (result_dim j)) in
      let begun = counted_none j kind front rows text sent held y counted none.0 some in
      let left = load_stopped (contents old) (contents mid) text sent held rows y above some counted (inl begun.1) shows has source so_far
      in
      let all = start ++ file left.0 kind in (
        left.0,
        left.1,
        subst (λ (e : Stopped). Stops contents fails old new front all e) (sym none.2)
            (subst (λ (w : W). Stops contents fails old w front all (Load sent f)) (sym none.1) left.2),
      )
  band_stopped contents fails old mid new text sent held rows y f s above some counted (inr (inl ready)) shows has source so_far =
      let front = length (start ++ head_of kind (result_dim j)) in
      let all = sent + length text in
      let begun = (counted_len j kind front rows text sent held y all counted ready.0 refl).0 in
      let flushed = counted_flushed j kind front rows text [] sent held y all counted begun refl refl in
      let written = flushed_rows (contents old) (contents mid) (contents new) text [] sent all y ready.1 refl refl shows so_far in
      let left = load_stopped (contents old) (contents new) [] all held rows y above some flushed (inr refl) shows has source written in (
        left.0,
        left.1,
        subst (λ (e : Stopped). Stops contents fails old new front (start ++ file left.0 kind) e) (sym ready.2) left.2,
      )
  band_stopped contents fails old mid new text sent held rows y f s above some counted (inr (inr cut)) shows has source so_far =
      let front = length (start ++ head_of kind (result_dim j)) in
      let w = writer_stopped contents fails old mid new text sent y cut.0 (omega (arith, above)) cut.2 shows has source so_far in
      (w.0, w.1, subst (λ (e : Stopped). Stops contents fails old new front (start ++ file w.0 kind) e) (sym cut.1) w.2)

  -- a band more stands ready
  pub more_rows : (old mid : Option (List ℕ)) (text after : List ℕ) (sent y n y2 : ℕ) (b : Picture) → y + n ≤ (result_dim j).h →
      IsBandFor j tile_means sum_means (record { x = 0; y = y; w = (result_dim j).w; h = n }) b → after ≡ text ++ strip kind b →
      y2 ≡ y + n →
      (shows : Pictures) → HasPicture shows j.name j.shape → IsSource (named shows j.name) →
      HasRows shows j tile_means sum_means kind start old mid text sent y →
      HasRows shows j tile_means sum_means kind start old mid after sent y2
  more_rows old mid text after sent y n y2 b within is_band ready is shows has source so_far =
      let p = named shows j.name in
      let of = picture_shown shows j has source in
      let whole = asked_whole laws p j.resolved of.whole in
      let sides = asked_sides laws p j.resolved of.whole few in
      let next = more_text shows j tile_means sum_means kind start fits laws.more laws.all whole sides (so_far.written ++ text) b y n within
      so_far.has is_band in
      let same : (so_far.written ++ text) ++ strip kind b ≡ so_far.written ++ after =
      append_assoc so_far.written text (strip kind b) ∙ ap (λ t. so_far.written ++ t) (sym ready) in
      record {
        written = so_far.written;
        appended = so_far.appended;
        count = so_far.count;
        has = subst (λ k. HasText shows j tile_means sum_means kind start (so_far.written ++ after) k) (sym is)
            (subst (λ t. HasText shows j tile_means sum_means kind start t (y + n)) same next);
      }

  -- all of it
  pub all_sent : (old new : Option (List ℕ)) (text : List ℕ) (sent y : ℕ) → y ≡ (result_dim j).h → text ≡ [] → (shows : Pictures) →
      HasRows shows j tile_means sum_means kind start old new text sent y →
      (image : Picture) × IsImageFor shows j tile_means sum_means image × Appends old new (start ++ file image kind) ×
      (sent ≡ length (start ++ file image kind))
  all_sent old new text sent y end none shows so_far =
      let image = so_far.has.image in
      let is_for = so_far.has.is_for in
      let d = result_dim j in
      let front = start ++ head_of kind d in
      let height : y ≡ image.height = end ∙ sym (ap (λ (e : Dim). e.h) is_for.sides) in
      let full : so_far.written ≡ start ++ file image kind =
      sym (append-nil so_far.written) ∙ ap (λ t. so_far.written ++ t) (sym none) ∙ so_far.has.are
      ∙ ap (λ m. front ++ strip kind (band image 0 m)) height ∙ ap (λ t. front ++ t) (laws.all image kind (is_for.channels ∙ fits))
      ∙ append_assoc start (head_of kind d) (strip kind image) ∙
      ap (λ (e : Dim). start ++ (head_of kind e ++ strip kind image)) (sym is_for.sides) in
      (image, is_for, subst (Appends old new) full so_far.appended, so_far.count ∙ ap length full)

-- and why: that band's fault, behind the rows above it
pub band_fails : {W : Type 0} (contents : W → Option (List ℕ)) (fails : W → W → Type 0) (j : Job) (tile_means : TileKey → TileVal → Type 0)
    (tile_failed : TileKey → Fault → Type 0) (sum_means : SumKey → SumVal → Type 0) (sum_failed : SumKey → Fault → Type 0) (kind : OutKind)
    (mid new : W) (text : List ℕ) (front sent held rows y : ℕ) (f : Fault) (s : Stopped) → 0 < (result_dim j).w →
    HasCounted j kind front rows text sent held y → StopsFor contents fails mid new text sent held f s →
    (f ≡ NoMemory) ⊎ ((b : Band) × (b.rect ≡ band_from (result_dim j) rows y) × IsBandOf j b ×
    IsBandFault tile_means tile_failed sum_means sum_failed j.plan b.items.items f) →
    FailsFor j tile_means tile_failed sum_means sum_failed kind rows front s
band_fails contents fails j tm tf sm sf kind mid new text front sent held rows y f s some counted (inl none) why =
    subst (λ (e : Stopped). FailsFor j tm tf sm sf kind rows front e) (sym none.2)
    (y, counted_before j kind front rows text sent held y counted none.0 some, why)
band_fails contents fails j tm tf sm sf kind mid new text front sent held rows y f s some counted (inr (inl ready)) why =
    subst (λ (e : Stopped). FailsFor j tm tf sm sf kind rows front e) (sym ready.2)
    (y, (counted_len j kind front rows text sent held y (sent + length text) counted ready.0 refl).1, why)
band_fails contents fails j tm tf sm sf kind mid new text front sent held rows y f s some counted (inr (inr cut)) why =
    subst (λ (e : Stopped). FailsFor j tm tf sm sf kind rows front e) (sym cut.1) tt

-- ---- Sides

either_some : (b : Bool) (m n : ℕ) → 0 < m → 0 < n → 0 < (if b then m else n)
either_some true m n p q = p
either_some false m n p q = q

-- a result has a place
pub result_some : (j : Job) → 0 < j.resolved.size.w → 0 < j.resolved.size.h → (0 < (result_dim j).w) × (0 < (result_dim j).h)
result_some j w h =
    let size = j.resolved.size in (
      either_some (j.resolved.turn.quarters % 2 == 0) size.w size.h w h,
      either_some (j.resolved.turn.quarters % 2 == 0) size.h size.w h w,
    )

-- ---- Bands written

pub more_len : (j : Job) (tile_means : TileKey → TileVal → Type 0) (sum_means : SumKey → SumVal → Type 0) (kind : OutKind) (y n : ℕ)
    (b : Picture) →
    IsBandFor j tile_means sum_means (record { x = 0; y = y; w = (result_dim j).w; h = n }) b →
    length (strip kind b) ≡ row_len kind (result_dim j).w * n
more_len j tile_means sum_means kind y n b is_band = length-strip kind b ∙ ap (strip_len kind) is_band.sides

-- what was written and stands ready is within the answer
pub sent_within : (j : Job) (kind : OutKind) (start : List ℕ) (rows : ℕ) (text : List ℕ) (sent held y : ℕ) →
    HasCounted j kind (length (start ++ head_of kind (result_dim j))) rows text sent held y → y ≤ (result_dim j).h →
    sent + length text ≤ length start + file_len kind (result_dim j)
sent_within j kind start rows text sent held y counted within =
    let row = row_len kind (result_dim j).w in
    let below : row * y ≤ row * (result_dim j).h = mul-le-mul_left row within in
    let t = counted.total in
    omega (arith, t, below, length_front start kind (result_dim j))
