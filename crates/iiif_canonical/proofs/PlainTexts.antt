-- Plain texts: those of a request's parts need no escape, but for the `^` of a size.
use Rattle.std.proofs.lemmas.Bool.{and_parts, and_from}
use Rattle.std.proofs.Common.{◌≡◌, ◌≢◌, ℕ, ◌+◌, ◌/◌, ◌^◌, ◌<◌, ◌⊎◌, inl, inr, Bool, true, false, not, ◌&&◌, nat_lt, List, [], ◌∷◌, ◌++◌}
use Rattle.std.proofs.Common.{refl, ap, subst, ◌∙◌, arith, map, decimal}
use Rattle.std.specs.Prelude.{codes, if◌then◌else◌, ◌==◌, All, IsUtf8}
use Rattle.std.specs.Char.{is_ascii_digit}
use Rattle.std.specs.List.{AllZip, concat, list_all}
use Rattle.std.proofs.lemmas.Bool.Decides.{nat_tests}
use Rattle.std.proofs.lemmas.List.Elements.{All-nil, All-cons}
use Rattle.std.proofs.lemmas.List.Folds.{list_all-append}
use Rattle.std.proofs.lemmas.Str.{IsUtf8-from_ascii}
use Rattle.std.proofs.lemmas.Str.Ascii.{IsAscii-from_all}
use Rattle.iiif_pixel.specs.declared.geometry.Quality.{Quality}
use Rattle.iiif_pixel.specs.declared.geometry.Quality.TheVariants.{Default, Color, Gray, Bitonal}
use Rattle.iiif_request.specs.Requests.{IsSmallWhole, IsSmallDecimal, IsSmallRegion, IsSmallForm}
use Rattle.iiif_request.specs.Spells.{mark}
use Rattle.iiif_request.specs.Targets.{Lacks, StandsFor, IsSegmentOf}
use Rattle.iiif_request.specs.declared.request.Decimal.{Decimal}
use Rattle.iiif_request.specs.declared.request.Region.{Region}
use Rattle.iiif_request.specs.declared.request.Region.TheVariants.{Full, Square, Pixels, Percents}
use Rattle.iiif_request.specs.declared.request.Form.{Form}
use Rattle.iiif_request.specs.declared.request.Form.TheVariants.{Max, Width, Height, Percent, Both, Within}
use Rattle.iiif_request.specs.declared.request.Rotation.{Rotation}
use Rattle.iiif_canonical.specs.Texts.{last_digits, decimal_text, region_text, form_text, rotation_text, quality_text}
use Rattle.iiif_canonical.proofs.NumeralTexts.{decimal_digits, last_digits_are, whole_part_small}

-- ASCII, and none of `%`, `/` and `?`.
abbrev pub is_plain : ℕ → Bool
is_plain b = nat_lt b 128 && not (b == 37) && not (b == 47) && not (b == 63)

-- Each byte of the text is plain.
abbrev pub IsPlain : List ℕ → Type 0
IsPlain text = list_all is_plain text ≡ true

digit_plain : (b : ℕ) → is_ascii_digit b ≡ true → is_plain b ≡ true
digit_plain b digit = grind (arith, nat_tests)

digits_plain : (text : List ℕ) → list_all is_ascii_digit text ≡ true → IsPlain text
digits_plain [] all = refl
digits_plain (b ∷ bs) all =
    let two = and_parts (is_ascii_digit b) (list_all is_ascii_digit bs) all in
    and_from _ _ (digit_plain b two.0) (digits_plain bs two.1)

-- Plain texts joined are plain.
pub joined_plain : (a b : List ℕ) → IsPlain a → IsPlain b → IsPlain (a ++ b)
joined_plain a b pa pb = list_all-append is_plain a b ∙ and_from _ _ pa pb

whole_plain : (n : ℕ) → IsSmallWhole n → IsPlain (decimal n)
whole_plain n small = digits_plain (decimal n) (decimal_digits n (omega arith))

decimal_by : (d : Decimal) (t : Bool) → IsSmallDecimal d → d.places == 0 ≡ t
    → IsPlain (if t then decimal d.digits else decimal (d.digits / 10 ^ d.places) ++ codes "." ++ last_digits d.places d.digits)
decimal_by d true small is =
    let none : d.places ≡ 0 = grind (arith, nat_tests) in
    let P : ℕ → Type 0 = λ p. d.digits < 10 ^ (9 + p) in
    whole_plain d.digits (subst P none small)
decimal_by d false small is =
    let whole = whole_plain (d.digits / 10 ^ d.places) (whole_part_small d small) in
    joined_plain (decimal (d.digits / 10 ^ d.places) ++ codes ".") (last_digits d.places d.digits)
    (joined_plain (decimal (d.digits / 10 ^ d.places)) (codes ".") whole refl)
    (digits_plain (last_digits d.places d.digits) (last_digits_are d.places d.digits))

decimal_plain : (d : Decimal) → IsSmallDecimal d → IsPlain (decimal_text d)
unfolding decimal_text
decimal_plain d small = decimal_by d _ small refl

comma_plain : (a b : List ℕ) → IsPlain a → IsPlain b → IsPlain (a ++ codes "," ++ b)
comma_plain a b pa pb = joined_plain (a ++ codes ",") b (joined_plain a (codes ",") pa refl) pb

-- The text of a region is plain.
pub region_plain : (g : Region) → IsSmallRegion g → IsPlain (region_text g)
region_plain Full small = refl
region_plain Square small = refl
region_plain (Pixels x y w h) small =
    comma_plain (decimal x ++ codes "," ++ decimal y ++ codes "," ++ decimal w) (decimal h)
    (comma_plain (decimal x ++ codes "," ++ decimal y) (decimal w)
    (comma_plain (decimal x) (decimal y) (whole_plain x small.0) (whole_plain y small.1)) (whole_plain w small.2)) (whole_plain h small.3)
region_plain (Percents x y w h) small =
    let a = codes "pct:" ++ decimal_text x in
    comma_plain (a ++ codes "," ++ decimal_text y ++ codes "," ++ decimal_text w) (decimal_text h)
    (comma_plain (a ++ codes "," ++ decimal_text y) (decimal_text w)
    (comma_plain a (decimal_text y) (joined_plain (codes "pct:") (decimal_text x) refl (decimal_plain x small.0)) (decimal_plain y small.1))
    (decimal_plain w small.2)) (decimal_plain h small.3)

-- The text of a size without `^` is plain.
pub form_plain : (f : Form) → IsSmallForm f → IsPlain (form_text f)
form_plain Max small = refl
form_plain (Width w) small = joined_plain (decimal w) (codes ",") (whole_plain w small) refl
form_plain (Height h) small = joined_plain (codes ",") (decimal h) refl (whole_plain h small)
form_plain (Percent n) small = joined_plain (codes "pct:") (decimal_text n) refl (decimal_plain n small)
form_plain (Both w h) small = comma_plain (decimal w) (decimal h) (whole_plain w small.0) (whole_plain h small.1)
form_plain (Within w h) small =
    comma_plain (codes "!" ++ decimal w) (decimal h) (joined_plain (codes "!") (decimal w) refl (whole_plain w small.0))
    (whole_plain h small.1)

mark_plain : (t : Bool) → IsPlain (mark t (codes "!"))
mark_plain true = refl
mark_plain false = refl

-- The text of a rotation is plain.
pub rotation_plain : (t : Rotation) → IsSmallDecimal t.degrees → IsPlain (rotation_text t)
rotation_plain t small = joined_plain (mark t.mirror (codes "!")) (decimal_text t.degrees) (mark_plain t.mirror)
    (decimal_plain t.degrees small)

quality_plain : (q : Quality) → IsPlain (quality_text q)
quality_plain Default = refl
quality_plain Color = refl
quality_plain Gray = refl
quality_plain Bitonal = refl

-- The last segment of a request's text is plain.
pub last_plain : (q : Quality) → IsPlain (quality_text q ++ codes ".tif")
last_plain q = joined_plain (quality_text q) (codes ".tif") (quality_plain q) refl

-- A property of each byte that passes a test holds of all bytes that pass it.
pub all_from : (P : ℕ → Type 0) (p : ℕ → Bool) → ((b : ℕ) → p b ≡ true → P b) → (text : List ℕ) → list_all p text ≡ true → All P text
all_from P p each [] all = All-nil P
all_from P p each (b ∷ bs) all =
    let two = and_parts (p b) (list_all p bs) all in
    All-cons P b bs (each b two.0) (all_from P p each bs two.1)

plain_ascii : (b : ℕ) → is_plain b ≡ true → b < 128
plain_ascii b plain = grind (arith, nat_tests)

plain_other : (b c : ℕ) → (c ≡ 37) ⊎ ((c ≡ 47) ⊎ (c ≡ 63)) → is_plain b ≡ true → b ≢ c
plain_other b c one plain = λ same. grind (arith, nat_tests)

-- A plain text lacks `%`, `/` and `?`.
pub plain_lacks : (c : ℕ) → (c ≡ 37) ⊎ ((c ≡ 47) ⊎ (c ≡ 63)) → (text : List ℕ) → IsPlain text → Lacks c text
plain_lacks c one text plain = all_from (λ b. b ≢ c) is_plain (λ b. plain_other b c one) text plain

plain_utf8 : (text : List ℕ) → IsPlain text → IsUtf8 text
plain_utf8 text plain = IsUtf8-from_ascii text (IsAscii-from_all text (all_from (λ b. b < 128) is_plain plain_ascii text plain))

abbrev single : ℕ → List ℕ
single b = b ∷ []

singles_joined : (text : List ℕ) → text ≡ concat (map single text)
singles_joined [] = refl
singles_joined (b ∷ bs) = ap (λ (t : List ℕ). b ∷ t) (singles_joined bs)

singles_stand : (text : List ℕ) → IsPlain text → AllZip StandsFor (map single text) text
singles_stand [] plain = tt
singles_stand (b ∷ bs) plain =
    let two = and_parts (is_plain b) (list_all is_plain bs) plain in
    (inl (refl, plain_other b 37 (inl refl) two.0), singles_stand bs two.1)

-- A plain text decodes to itself.
pub plain_segment : (text : List ℕ) → IsPlain text → IsSegmentOf text text
plain_segment text plain = ((map single text, singles_joined text, singles_stand text plain), plain_utf8 text plain)

caret_stands : StandsFor (codes "%5E") 94
caret_stands = inr (53, 69, omega arith, omega arith, refl, refl)

caret_utf8 : (form : List ℕ) → IsPlain form → IsUtf8 (codes "^" ++ form)
caret_utf8 form plain = plain_utf8 (codes "^" ++ form) (joined_plain (codes "^") form refl plain)

-- The text of a size decodes to the size with `^` in place of `%5E`.
pub size_segment : (up : Bool) (form : List ℕ) → IsPlain form → IsSegmentOf (mark up (codes "%5E") ++ form) (mark up (codes "^") ++ form)
size_segment true form plain = (
  (codes "%5E" ∷ map single form, ap (λ (t : List ℕ). codes "%5E" ++ t) (singles_joined form), (caret_stands, singles_stand form plain)),
  caret_utf8 form plain,
)
size_segment false form plain = plain_segment form plain

-- The text of a size lacks `/` and `?`.
pub size_lacks : (c : ℕ) → (c ≡ 47) ⊎ (c ≡ 63) → (up : Bool) (form : List ℕ) → IsPlain form → Lacks c (mark up (codes "%5E") ++ form)
size_lacks c one true form plain =
    let rest = plain_lacks c (inr one) form plain in
    All-cons (λ b. b ≢ c) 37 (53 ∷ 69 ∷ form) (λ same. grind arith)
    (All-cons (λ b. b ≢ c) 53 (69 ∷ form) (λ same. grind arith)
    (All-cons (λ b. b ≢ c) 69 form (λ same. grind arith) rest))
size_lacks c one false form plain = plain_lacks c (inr one) form plain
