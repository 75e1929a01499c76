-- Requests: reading is sound and complete.
use Rattle.std.proofs.Common.{◌≡◌, ℕ, ◌+◌, ◌^◌, ◌<◌, ◌≤◌, Bool, true, false, List, ◌++◌, length, refl, sym, ap, ◌∙◌, subst, arith, rules}
use Rattle.std.proofs.Common.{Some, None, Option, Ok, Err, Result, inl, inr, ⊎_elim, codes}
use Rattle.std.specs.Prelude.{bytes_eq, IfOk}
use Rattle.std.specs.Char.{is_ascii_digit}
use Rattle.std.specs.List.{list_all}
use Rattle.std.proofs.lemmas.Bool.{and_from, both_ways}
use Rattle.std.proofs.lemmas.List.{length-append}
use Rattle.std.proofs.lemmas.List.Folds.{list_all-append}
use Rattle.std.proofs.lemmas.Str.Parse.{digits_value_short}
use Rattle.std.proofs.lemmas.Slice.Eq.{bytes_eq-Decides}
use Rattle.std.proofs.lemmas.Option.{same_Some, none-some}
use Rattle.iiif_pixel.specs.declared.geometry.Quality.{Quality}
use Rattle.iiif_pixel.specs.declared.geometry.Quality.TheVariants.{Default, Color, Gray, Bitonal}
use Rattle.iiif_request.specs.declared.request.Decimal.{Decimal}
use Rattle.iiif_request.specs.declared.request.Region.{Region}
use Rattle.iiif_request.specs.declared.request.Region.TheVariants.{Full, Square, Pixels, Percents}
use Rattle.iiif_request.specs.declared.request.Form.{Form}
use Rattle.iiif_request.specs.declared.request.Form.TheVariants.{Max, Width, Height, Percent, Both, Within}
use Rattle.iiif_request.specs.declared.request.Size.{Size}
use Rattle.iiif_request.specs.declared.request.Rotation.{Rotation}
use Rattle.iiif_request.specs.declared.request.Request.{Request}
use Rattle.iiif_request.specs.declared.request.Refusal.{Refusal}
use Rattle.iiif_request.specs.declared.request.Refusal.TheVariants as refusal
use Rattle.iiif_request.specs.Code.{region_of, size_of, rotation_of, quality_of, first_missing, request_of}
use Rattle.iiif_request.specs.Requests.{IsShortRegion, IsShortForm, IsSmallRegion, IsSmallForm, HasShortDecimals, HasSmallNumbers}
use Rattle.iiif_request.specs.Spells.{IsWhole, IsDecimal, SpellsRegion, SpellsForm, SpellsSize, SpellsRotation, SpellsQuality}
use Rattle.iiif_request.specs.Spells.{SpellsFormat, Texts, SpellsRequest, IsSpelled, Says}
use Rattle.iiif_request.proofs.OptionLemmas.{cond_some_cases}
use Rattle.iiif_request.proofs.NumeralLemmas.{digit_numerals}
use Rattle.iiif_request.proofs.RegionLemmas.{bytes_eq_true, region_of_sound, region_of_complete}
use Rattle.iiif_request.proofs.SizeLemmas.{size_of_sound, size_of_complete}
use Rattle.iiif_request.proofs.RotationLemmas.{rotation_of_sound, rotation_of_complete}

-- A quality that is read is spelled by its text.
pub quality_of_sound : (text : List ℕ) (q : Quality) → quality_of text ≡ Some q → SpellsQuality text q
quality_of_sound text q h = ⊎_elim
    (λ color. subst (SpellsQuality text) (same_Some Color q color.1) (bytes_eq_true text (codes "color") color.0))
    (λ other. ⊎_elim
    (λ gray. subst (SpellsQuality text) (same_Some Gray q gray.1) (bytes_eq_true text (codes "gray") gray.0))
    (λ third. ⊎_elim
    (λ bitonal. subst (SpellsQuality text) (same_Some Bitonal q bitonal.1) (bytes_eq_true text (codes "bitonal") bitonal.0))
    (λ fourth. ⊎_elim
    (λ default. subst (SpellsQuality text) (same_Some Default q default.1) (bytes_eq_true text (codes "default") default.0))
    (λ none. absurd (none-some q none.1))
    (cond_some_cases (bytes_eq text (codes "default")) (Some Default) None q fourth.1))
    (cond_some_cases (bytes_eq text (codes "bitonal")) (Some Bitonal) _ q third.1))
    (cond_some_cases (bytes_eq text (codes "gray")) (Some Gray) _ q other.1))
    (cond_some_cases (bytes_eq text (codes "color")) (Some Color) _ q h)

-- A quality that is spelled is read.
pub quality_of_complete : (text : List ℕ) (q : Quality) → SpellsQuality text q → quality_of text ≡ Some q
quality_of_complete text Default s = ap quality_of s
quality_of_complete text Color s = ap quality_of s
quality_of_complete text Gray s = ap quality_of s
quality_of_complete text Bitonal s = ap quality_of s

-- nothing is spelled where nothing is read
unread : {X : Type 0} (spells : List ℕ → X → Type 0) (read : List ℕ → Option X) →
    ((text : List ℕ) (x : X) → spells text x → read text ≡ Some x)
    → (text : List ℕ) → read text ≡ None → ¬ (IsSpelled spells text)
unread spells read to text none s = none-some s.0 (sym none ∙ to text s.0 s.1)

SpellsFormat_not : (text : List ℕ) → bytes_eq text (codes "tif") ≡ false → ¬ (SpellsFormat text)
SpellsFormat_not text h s = both_ways (bytes_eq text (codes "tif")) h ((bytes_eq-Decides text (codes "tif")).1 s)

-- what the five parts say
first_missing_sound : (w : Texts) (r : Option Region) (s : Option Size) (t : Option Rotation) (q : Option Quality) (f : Bool)
    → region_of w.region ≡ r → size_of w.size ≡ s → rotation_of w.rotation ≡ t → quality_of w.quality ≡ q →
    bytes_eq w.format (codes "tif") ≡ f
    → Says w (first_missing r s t q f)
first_missing_sound w None s t q f er es et eq ef = unread SpellsRegion region_of region_of_complete w.region er
first_missing_sound w (Some r) None t q f er es et eq ef =
    ((r, region_of_sound w.region r er), unread SpellsSize size_of size_of_complete w.size es)
first_missing_sound w (Some r) (Some s) None q f er es et eq ef = (
  (r, region_of_sound w.region r er),
  (s, size_of_sound w.size s es),
  unread SpellsRotation rotation_of rotation_of_complete w.rotation
      et,
)
first_missing_sound w (Some r) (Some s) (Some t) None f er es et eq ef = (
  (r, region_of_sound w.region r er),
  (s, size_of_sound w.size s es),
  (t, rotation_of_sound w.rotation t et),
  unread SpellsQuality quality_of quality_of_complete w.quality eq,
)
first_missing_sound w (Some r) (Some s) (Some t) (Some q) false er es et eq ef = (
  (r, region_of_sound w.region r er),
  (s, size_of_sound w.size s es),
  (t, rotation_of_sound w.rotation t et),
  (q, quality_of_sound w.quality q eq),
  SpellsFormat_not w.format ef,
)
first_missing_sound w (Some r) (Some s) (Some t) (Some q) true er es et eq ef = record {
  region = region_of_sound w.region r er;
  size = size_of_sound w.size s es;
  rotation = rotation_of_sound w.rotation t et;
  quality = quality_of_sound w.quality q eq;
  format = bytes_eq_true w.format (codes "tif") ef;
}

-- The words say the request, or the refusal, that is read.
pub request_of_sound : (w : Texts) (a : Result Request Refusal) → a ≡ request_of w → Says w a
request_of_sound w a e = subst (Says w) (sym e)
    (first_missing_sound w (region_of w.region) (size_of w.size) (rotation_of w.rotation) (quality_of w.quality) (bytes_eq w.format (codes
    "tif")) refl
    refl refl refl refl)

-- Words spell at most one request.
pub SpellsRequest_once : (w : Texts) (q r : Request) → SpellsRequest w q → SpellsRequest w r → q ≡ r
SpellsRequest_once w q r a b =
    let region : q.region ≡ r.region = same_Some _ _ (sym (region_of_complete w.region q.region a.region) ∙
    region_of_complete w.region r.region b.region) in
    let size : q.size ≡ r.size = same_Some _ _ (sym (size_of_complete w.size q.size a.size) ∙ size_of_complete w.size r.size b.size) in
    let rotation : q.rotation ≡ r.rotation = same_Some _ _
    (sym (rotation_of_complete w.rotation q.rotation a.rotation) ∙ rotation_of_complete w.rotation r.rotation b.rotation) in
    let quality : q.quality ≡ r.quality = same_Some _ _
    (sym (quality_of_complete w.quality q.quality a.quality) ∙ quality_of_complete w.quality r.quality b.quality) in
    ap (λ (x : Region). record { region = x; size = q.size; rotation = q.rotation; quality = q.quality }) region
    ∙ ap (λ (x : Size). record { region = r.region; size = x; rotation = q.rotation; quality = q.quality }) size
    ∙ ap (λ (x : Rotation). record { region = r.region; size = r.size; rotation = x; quality = q.quality }) rotation
    ∙ ap (λ (x : Quality). record { region = r.region; size = r.size; rotation = r.rotation; quality = x }) quality

-- A whole number that is spelled is below 10 ^ 9.
pub IsWhole_small : (text : List ℕ) (n : ℕ) → IsWhole text n → n < 10 ^ 9
IsWhole_small text n s = let P : ℕ → Type 0 = λ m. m < 10 ^ 9 in subst P s.1 (digits_value_short digit_numerals text 9 s.0.digits s.0.few)

IsDecimal_short : (text : List ℕ) (d : Decimal) → IsDecimal text d → d.places ≤ 10
IsDecimal_short text d (inl s) = omega (arith, s.1)
IsDecimal_short text d (inr s) = omega (arith, s.6, s.3.few)

IsDecimal_small : (text : List ℕ) (d : Decimal) → IsDecimal text d → d.digits < 10 ^ (9 + d.places)
IsDecimal_small text d (inl s) =
    let P : ℕ → Type 0 = λ m. d.digits < 10 ^ (9 + m) in
    subst P (sym s.1) (IsWhole_small text d.digits s.0)
IsDecimal_small text d (inr s) =
    let P : ℕ → Type 0 = λ m. d.digits < 10 ^ (9 + m) in
    let Q : ℕ → Type 0 = λ m. m < 10 ^ (9 + length s.1) in
    let all : list_all is_ascii_digit (s.0 ++ s.1) ≡ true = list_all-append is_ascii_digit s.0 s.1 ∙ and_from _ _ s.2.digits s.3.digits in
    subst P (sym s.6) (subst Q (sym s.5) (digits_value_short digit_numerals (s.0 ++ s.1) (9 + length s.1) all
    (omega (arith, length-append s.0 s.1, s.2.few))))

SpellsRegion_short : (text : List ℕ) (r : Region) → SpellsRegion text r → IsShortRegion r
SpellsRegion_short text Full s = tt
SpellsRegion_short text Square s = tt
SpellsRegion_short text (Pixels x y w h) s = tt
SpellsRegion_short text (Percents x y w h) s = (
  IsDecimal_short s.0 x s.4,
  IsDecimal_short s.1 y s.5,
  IsDecimal_short s.2 w s.6,
  IsDecimal_short s.3 h s.7,
)

SpellsRegion_small : (text : List ℕ) (r : Region) → SpellsRegion text r → IsSmallRegion r
SpellsRegion_small text Full s = tt
SpellsRegion_small text Square s = tt
SpellsRegion_small text (Pixels x y w h) s = (
  IsWhole_small s.0 x s.4,
  IsWhole_small s.1 y s.5,
  IsWhole_small s.2 w s.6,
  IsWhole_small s.3
      h s.7,
)
SpellsRegion_small text (Percents x y w h) s = (
  IsDecimal_small s.0 x s.4,
  IsDecimal_small s.1 y s.5,
  IsDecimal_small s.2 w s.6,
  IsDecimal_small s.3 h s.7,
)

SpellsForm_short : (text : List ℕ) (f : Form) → SpellsForm text f → IsShortForm f
SpellsForm_short text Max s = tt
SpellsForm_short text (Width w) s = tt
SpellsForm_short text (Height h) s = tt
SpellsForm_short text (Percent n) s = IsDecimal_short s.0 n s.1
SpellsForm_short text (Both w h) s = tt
SpellsForm_short text (Within w h) s = tt

SpellsForm_small : (text : List ℕ) (f : Form) → SpellsForm text f → IsSmallForm f
SpellsForm_small text Max s = tt
SpellsForm_small text (Width w) s = IsWhole_small s.0 w s.1
SpellsForm_small text (Height h) s = IsWhole_small s.0 h s.1
SpellsForm_small text (Percent n) s = IsDecimal_small s.0 n s.1
SpellsForm_small text (Both w h) s = (IsWhole_small s.0 w s.2, IsWhole_small s.1 h s.3)
SpellsForm_small text (Within w h) s = (IsWhole_small s.0 w s.2, IsWhole_small s.1 h s.3)

-- A request that is spelled has at most ten places in each decimal.
pub SpellsRequest_short : (w : Texts) (q : Request) → SpellsRequest w q → HasShortDecimals q
SpellsRequest_short w q s = record {
  region = SpellsRegion_short w.region q.region s.region;
  size = SpellsForm_short s.size.0 q.size.form s.size.1;
  degrees = IsDecimal_short s.rotation.0 q.rotation.degrees s.rotation.1;
}

-- A request that is spelled has each number below 10 ^ 9.
pub SpellsRequest_small : (w : Texts) (q : Request) → SpellsRequest w q → HasSmallNumbers q
SpellsRequest_small w q s = record {
  region = SpellsRegion_small w.region q.region s.region;
  size = SpellsForm_small s.size.0 q.size.form s.size.1;
  degrees = IsDecimal_small s.rotation.0 q.rotation.degrees s.rotation.1;
}

-- A request that words say has at most ten places in each decimal.
pub Says_short : (w : Texts) (a : Result Request Refusal) → Says w a → IfOk a HasShortDecimals
Says_short w (Ok q) s = SpellsRequest_short w q s
Says_short w (Err e) s = search rules

-- A request that words say has each number below 10 ^ 9.
pub Says_small : (w : Texts) (a : Result Request Refusal) → Says w a → IfOk a HasSmallNumbers
Says_small w (Ok q) s = SpellsRequest_small w q s
Says_small w (Err e) s = search rules

-- something is read where something is spelled, and nothing where nothing is
none_read : {X : Type 0} (spells : List ℕ → X → Type 0) (read : List ℕ → Option X) →
    ((text : List ℕ) (x : X) → read text ≡ Some x → spells text x)
    → (text : List ℕ) → ¬ (IsSpelled spells text) → (o : Option X) → read text ≡ o → read text ≡ None
none_read spells read is text none None e = e
none_read spells read is text none (Some x) e = absurd (none (x, is text x e))

request_of_parts : (w : Texts) (r : Option Region) (s : Option Size) (t : Option Rotation) (q : Option Quality) (f : Bool)
    → region_of w.region ≡ r → size_of w.size ≡ s → rotation_of w.rotation ≡ t → quality_of w.quality ≡ q →
    bytes_eq w.format (codes "tif") ≡ f
    → request_of w ≡ first_missing r s t q f
request_of_parts w r s t q f er es et eq ef =
    ap (λ (x : Option Region). first_missing x (size_of w.size) (rotation_of w.rotation) (quality_of w.quality)
    (bytes_eq w.format (codes "tif"))) er
    ∙ ap (λ (x : Option Size). first_missing r x (rotation_of w.rotation) (quality_of w.quality) (bytes_eq w.format (codes "tif"))) es
    ∙ ap (λ (x : Option Rotation). first_missing r s x (quality_of w.quality) (bytes_eq w.format (codes "tif"))) et
    ∙ ap (λ (x : Option Quality). first_missing r s t x (bytes_eq w.format (codes "tif"))) eq
    ∙ ap (λ (x : Bool). first_missing r s t q x) ef

not_format : (text : List ℕ) → ¬ (SpellsFormat text) → (b : Bool) → bytes_eq text (codes "tif") ≡ b → bytes_eq text (codes "tif") ≡ false
not_format text none true e = absurd (none (bytes_eq_true text (codes "tif") e))
not_format text none false e = e

-- The request or refusal that words say is the one that is read.
pub request_of_complete : (w : Texts) (a : Result Request Refusal) → Says w a → request_of w ≡ a
request_of_complete w (Ok q) s =
    request_of_parts w (Some q.region) (Some q.size) (Some q.rotation) (Some q.quality) true
    (region_of_complete w.region q.region s.region) (size_of_complete w.size q.size s.size) (rotation_of_complete w.rotation q.rotation
    s.rotation)
    (quality_of_complete w.quality q.quality s.quality)
    ((bytes_eq-Decides w.format (codes "tif")).1 s.format)
request_of_complete w (Err refusal.Region) s =
    request_of_parts w None (size_of w.size) (rotation_of w.rotation) (quality_of w.quality) (bytes_eq w.format (codes "tif"))
    (none_read SpellsRegion region_of region_of_sound w.region s (region_of w.region) refl) refl refl refl refl
request_of_complete w (Err refusal.Size) s =
    request_of_parts w (Some s.0.0) None (rotation_of w.rotation) (quality_of w.quality) (bytes_eq w.format (codes "tif"))
    (region_of_complete w.region s.0.0 s.0.1) (none_read SpellsSize size_of size_of_sound w.size s.1 (size_of w.size) refl) refl refl refl
request_of_complete w (Err refusal.Rotation) s =
    request_of_parts w (Some s.0.0) (Some s.1.0) None (quality_of w.quality) (bytes_eq w.format (codes "tif"))
    (region_of_complete w.region s.0.0 s.0.1) (size_of_complete w.size s.1.0 s.1.1)
    (none_read SpellsRotation rotation_of rotation_of_sound w.rotation s.2 (rotation_of w.rotation) refl) refl refl
request_of_complete w (Err refusal.Quality) s =
    request_of_parts w (Some s.0.0) (Some s.1.0) (Some s.2.0) None (bytes_eq w.format (codes "tif"))
    (region_of_complete w.region s.0.0 s.0.1) (size_of_complete w.size s.1.0 s.1.1) (rotation_of_complete w.rotation s.2.0 s.2.1)
    (none_read SpellsQuality quality_of quality_of_sound w.quality s.3 (quality_of w.quality) refl) refl
request_of_complete w (Err refusal.Format) s =
    request_of_parts w (Some s.0.0) (Some s.1.0) (Some s.2.0) (Some s.3.0) false
    (region_of_complete w.region s.0.0 s.0.1) (size_of_complete w.size s.1.0 s.1.1) (rotation_of_complete w.rotation s.2.0 s.2.1)
    (quality_of_complete w.quality s.3.0 s.3.1)
    (not_format w.format s.4 (bytes_eq w.format (codes "tif")) refl)
request_of_complete w (Err _) s = absurd s
