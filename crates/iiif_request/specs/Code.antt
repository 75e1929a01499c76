-- Parsing as functions, one a word, for private functions alone. `Spells` and `Targets` have the grammar; that both agree is proved.
--
-- `X_of text`: the X that the text spells, if it spells one. Numbers are IIIF Image API 3.0, sections 4.1 to 4.3.
-- `request_of words`: the request of five words, or the first refusal. `asked_of prefix target`: the resource of a target, if any.
-- `Gives`: an answer is the value that there is, or `Path` where there is none, unless memory ran out.
use Rattle.std.specs.Prelude.{◌≡◌, ⊤, take, ℕ, ◌*◌, ◌^◌, ◌==◌, Bool, true, false, ◌⊎◌, ◌&&◌, ◌||◌, List, [], ◌∷◌, ◌++◌, length, drop}
use Rattle.std.specs.Prelude.{codes, bytes_eq, nat_eq, nat_le, slice_index, if◌then◌else◌, Option, None, Some, option_map, is_some}
use Rattle.std.specs.Prelude.{position, Result, Ok, Err}
use Rattle.std.specs.List.{before_first, after_first, starts_with, list_all, slice_split}
use Rattle.std.specs.Char.{is_ascii_hexdigit}
use Rattle.std.specs.Str.{is_utf8}
use Rattle.std.specs.Str.Parse.{digits_value}
use Rattle.percent_encoding.specs.Percent.{percent_decode}
use Rattle.iiif_pixel.specs.declared.geometry.Quality.{Quality}
use Rattle.iiif_pixel.specs.declared.geometry.Quality.TheVariants.{Default, Color, Gray, Bitonal}
use Rattle.iiif_request.specs.declared.request.Decimal.{Decimal}
use Rattle.iiif_request.specs.declared.request.Region.{Region}
use Rattle.iiif_request.specs.declared.request.Region.TheVariants.{Full, Square, Pixels, Percents}
use Rattle.iiif_request.specs.declared.request.Form.{Form}
use Rattle.iiif_request.specs.declared.request.Form.TheVariants.{Max, Width, Height, Percent, Both, Within}
use Rattle.iiif_request.specs.declared.request.Size.{Size}
use Rattle.iiif_request.specs.declared.request.Rotation.{Rotation}
use Rattle.iiif_request.specs.declared.request.Request.{Request}
use Rattle.iiif_request.specs.declared.request.Refusal.{Refusal}
use Rattle.iiif_request.specs.declared.request.Refusal.TheVariants as refusal
use Rattle.iiif_request.specs.declared.target.SplitFault.{SplitFault}
use Rattle.iiif_request.specs.declared.target.SplitFault.TheVariants.{Path, NoMemory}
use Rattle.iiif_request.specs.Numerals.{is_numeral, numeral_of}
use Rattle.iiif_request.specs.Spells.{Texts}
use Rattle.iiif_request.specs.Targets.{Resource, base, information, image}

-- sections 4.1 and 4.2: the number that one to nine digits write
abbrev pub whole_of : List ℕ → Option ℕ
whole_of text = numeral_of 9 text

-- RFC 3986, section 3.3: the parts before and behind the first such byte, if there is one
unfoldable pub cut_of : ℕ → List ℕ → Option (List ℕ × List ℕ)
cut_of byte text =
    if is_some (position (λ b. b == byte) text)
    then Some (before_first (λ b. b == byte) text, after_first (λ b. b == byte) text) else None

-- section 4.1: the decimal of digits before and behind a point
abbrev pub pointed_of : List ℕ → List ℕ → Option Decimal
pointed_of whole places =
    if is_numeral 9 whole && is_numeral 10 places
    then Some (record { digits = digits_value 10 (whole ++ places); places = length places }) else None

-- section 4.1: the decimal of a text that was cut at a point or has none
abbrev pub parted_decimal_of : List ℕ → Option (List ℕ × List ℕ) → Option Decimal
parted_decimal_of text None = option_map (λ n. record { digits = n; places = 0 }) (whole_of text)
parted_decimal_of text (Some p) = pointed_of p.0 p.1

-- section 4.1: the decimal that a text writes
unfoldable pub decimal_of : List ℕ → Option Decimal
decimal_of text = parted_decimal_of text (cut_of 46 text)

-- section 4.1: the four texts of a region
pub record Parts : Type 0 where
  pub first : List ℕ
  pub second : List ℕ
  pub third : List ℕ
  pub fourth : List ℕ

-- section 4.1: the texts round the third comma, behind two others
abbrev pub third_cut_of : List ℕ → List ℕ → Option (List ℕ × List ℕ) → Option Parts
third_cut_of a b None = None
third_cut_of a b (Some p) = Some (record { first = a; second = b; third = p.0; fourth = p.1 })

-- section 4.1: the texts round the second comma and the third, behind one other
abbrev pub second_cut_of : List ℕ → Option (List ℕ × List ℕ) → Option Parts
second_cut_of a None = None
second_cut_of a (Some p) = third_cut_of a p.0 (cut_of 44 p.1)

-- section 4.1: the texts round three commas
abbrev pub first_cut_of : Option (List ℕ × List ℕ) → Option Parts
first_cut_of None = None
first_cut_of (Some p) = second_cut_of p.0 (cut_of 44 p.1)

-- section 4.1: the four texts round the first three commas
unfoldable pub parts_of : List ℕ → Option Parts
parts_of text = first_cut_of (cut_of 44 text)

-- section 4.1: a region of four numbers, where there are four
abbrev pub four_of : {X : Type 0} → (X → X → X → X → Region) → Option X → Option X → Option X → Option X → Option Region
four_of form None y w h = None
four_of form (Some x) None w h = None
four_of form (Some x) (Some y) None h = None
four_of form (Some x) (Some y) (Some w) None = None
four_of form (Some x) (Some y) (Some w) (Some h) = Some (form x y w h)

-- section 4.1: x,y,w,h
abbrev pub pixels_of : Option Parts → Option Region
pixels_of None = None
pixels_of (Some p) = four_of Pixels (whole_of p.first) (whole_of p.second) (whole_of p.third) (whole_of p.fourth)

-- section 4.1: x,y,w,h of pct:x,y,w,h
abbrev pub percents_of : Option Parts → Option Region
percents_of None = None
percents_of (Some p) = four_of Percents (decimal_of p.first) (decimal_of p.second) (decimal_of p.third) (decimal_of p.fourth)

-- section 4.1: the region that a text spells
unfoldable pub region_of : List ℕ → Option Region
region_of text =
    if bytes_eq text (codes "full") then Some Full else (
    if bytes_eq text (codes "square") then Some Square else (
    if starts_with nat_eq text (codes "pct:") then percents_of (parts_of (drop 4 text)) else
    pixels_of (parts_of text)))

-- section 4.2: a form of two whole numbers, where there are two
abbrev pub two_of : (ℕ → ℕ → Form) → Option ℕ → Option ℕ → Option Form
two_of form None h = None
two_of form (Some w) None = None
two_of form (Some w) (Some h) = Some (form w h)

-- section 4.2: w,  ,h or w,h by the parts before and behind the comma
abbrev pub sides_of : List ℕ → List ℕ → Option Form
sides_of w h =
    if bytes_eq h [] then option_map Width (whole_of w) else (
    if bytes_eq w [] then option_map Height (whole_of h) else
    two_of Both (whole_of w) (whole_of h))

-- section 4.2: w,  ,h  w,h or !w,h by the parts before and behind the comma
abbrev pub bounds_of : List ℕ → List ℕ → Option Form
bounds_of w h =
    if starts_with nat_eq w (codes "!") then two_of Within (whole_of (drop 1 w)) (whole_of h) else sides_of w h

-- section 4.2: a form with a comma, where there is one
abbrev pub pair_of : Option (List ℕ × List ℕ) → Option Form
pair_of None = None
pair_of (Some p) = bounds_of p.0 p.1

-- section 4.2: the form that a text without `^` spells
unfoldable pub form_of : List ℕ → Option Form
form_of text =
    if bytes_eq text (codes "max") then Some Max else (
    if starts_with nat_eq text (codes "pct:") then option_map Percent (decimal_of (drop 4 text)) else
    pair_of (cut_of 44 text))

-- section 4.2: the size that a text spells
unfoldable pub size_of : List ℕ → Option Size
size_of text =
    if starts_with nat_eq text (codes "^")
    then option_map (λ f. record { up = true; form = f }) (form_of (drop 1 text))
    else option_map (λ f. record { up = false; form = f }) (form_of text)

-- section 4.3: the decimal is this whole number
abbrev pub is_value : Decimal → ℕ → Bool
is_value d n = d.digits == n * 10 ^ d.places

-- section 4.3: the decimal is 0, 90, 180, 270 or 360
unfoldable pub is_quarters : Decimal → Bool
is_quarters d = is_value d 0 || is_value d 90 || is_value d 180 || is_value d 270 || is_value d 360

-- section 4.3: a rotation by the decimal, where it is a quarter turn's multiple
abbrev pub turned_of : Bool → Option Decimal → Option Rotation
turned_of mirror None = None
turned_of mirror (Some d) = if is_quarters d then Some (record { mirror = mirror; degrees = d }) else None

-- section 4.3: the rotation that a text spells
unfoldable pub rotation_of : List ℕ → Option Rotation
rotation_of text =
    if starts_with nat_eq text (codes "!") then turned_of true (decimal_of (drop 1 text)) else turned_of false (decimal_of text)

-- section 4.4: the quality that a text spells
abbrev pub quality_of : List ℕ → Option Quality
quality_of text =
    if bytes_eq text (codes "color") then Some Color else (
    if bytes_eq text (codes "gray") then Some Gray else (
    if bytes_eq text (codes "bitonal") then Some Bitonal else (
    if bytes_eq text (codes "default") then Some Default else None)))

-- sections 4.1 to 4.5: the request of four parts and a test of the fifth, or the refusal of the first that is missing
abbrev pub first_missing : Option Region → Option Size → Option Rotation → Option Quality → Bool → Result Request Refusal
first_missing None s t q f = Err refusal.Region
first_missing (Some r) None t q f = Err refusal.Size
first_missing (Some r) (Some s) None q f = Err refusal.Rotation
first_missing (Some r) (Some s) (Some t) None f = Err refusal.Quality
first_missing (Some r) (Some s) (Some t) (Some q) false = Err refusal.Format
first_missing (Some r) (Some s) (Some t) (Some q) true = Ok (record { region = r; size = s; rotation = t; quality = q })

-- sections 4.1 to 4.5: the request that five words spell, or the first refusal
abbrev pub request_of : Texts → Result Request Refusal
request_of w =
    first_missing (region_of w.region) (size_of w.size) (rotation_of w.rotation) (quality_of w.quality) (bytes_eq w.format (codes "tif"))

-- RFC 3986, section 2.1: two hexadecimal digits come first
abbrev pub begins_with_digits : List ℕ → Bool
begins_with_digits part = nat_le 2 (length part) && is_ascii_hexdigit (slice_index part 0) && is_ascii_hexdigit (slice_index part 1)

-- RFC 3986, section 2.1: two hexadecimal digits follow each `%`
unfoldable pub has_whole_escapes : List ℕ → Bool
has_whole_escapes raw = list_all begins_with_digits (drop 1 (slice_split (λ b. b == 37) raw))

-- IIIF Image API 3.0, section 9: a segment decoded, where its escapes are whole and its text is UTF-8
abbrev pub text_of : List ℕ → Option (List ℕ)
text_of raw =
    if has_whole_escapes raw && is_utf8 (percent_decode raw) then Some (percent_decode raw) else None

-- IIIF Image API 3.0, section 2: an identifier, which is not empty
abbrev pub identifier_of : Option (List ℕ) → Option (List ℕ)
identifier_of None = None
identifier_of (Some id) = if length id == 0 then None else Some id

-- IIIF Image API 3.0, section 2: the base URI of an identifier
abbrev pub base_of : Option (List ℕ) → Option Resource
base_of None = None
base_of (Some id) = Some (base id)

-- IIIF Image API 3.0, section 2.2: the information of an identifier, where the second segment is info.json
abbrev pub information_of : Option (List ℕ) → Option (List ℕ) → Option Resource
information_of None name = None
information_of (Some id) None = None
information_of (Some id) (Some name) = if bytes_eq name (codes "info.json") then Some (information id) else None

-- IIIF Image API 3.0, section 2.1: the five words of four decoded segments
abbrev pub words_of : Option (List ℕ) → Option (List ℕ) → Option (List ℕ) → Option (List ℕ) → Option Texts
words_of None s t l = None
words_of (Some r) None t l = None
words_of (Some r) (Some s) None l = None
words_of (Some r) (Some s) (Some t) None = None
words_of (Some r) (Some s) (Some t) (Some l) = Some (record {
  region = r;
  size = s;
  rotation = t;
  quality = before_first (λ b. b == 46) l;
  format = after_first (λ b. b == 46) l;
})

-- IIIF Image API 3.0, section 2.1: the image of an identifier and five words
abbrev pub image_of : Option (List ℕ) → Option Texts → Option Resource
image_of None w = None
image_of (Some id) None = None
image_of (Some id) (Some w) = Some (image id w)

-- IIIF Image API 3.0, section 2: the resource that one, two or five segments ask for
abbrev pub asked_by : List (List ℕ) → Option Resource
asked_by (i ∷ []) = base_of (identifier_of (text_of i))
asked_by (i ∷ n ∷ []) = information_of (identifier_of (text_of i)) (text_of n)
asked_by (i ∷ r ∷ s ∷ t ∷ l ∷ []) =
    image_of (identifier_of (text_of i)) (words_of (text_of r) (text_of s) (text_of t) (text_of l))
asked_by _ = None

-- IIIF Image API 3.0, section 2: there are one, two or five segments
abbrev pub IsCounted : List (List ℕ) → Type 0
IsCounted segments = (length segments ≡ 1) ⊎ (length segments ≡ 2) ⊎ (length segments ≡ 5)

-- RFC 3986, section 3.4: a target without its query
abbrev pub path_of : List ℕ → List ℕ
path_of target = before_first (λ b. b == 63) target

-- RFC 3986, section 3.3: a text without a front, where it begins with it
abbrev pub behind : List ℕ → List ℕ → Option (List ℕ)
behind front text = if bytes_eq (take (length front) text) front then Some (drop (length front) text) else None

-- RFC 3986, section 3.3: the resource that a path behind the slash asks for
abbrev pub asked_behind : Option (List ℕ) → Option Resource
asked_behind None = None
asked_behind (Some path) = asked_by (slice_split (λ b. b == 47) path)

-- RFC 3986, section 3.3: the resource that a path behind the prefix asks for, where a slash comes first
abbrev pub asked_within : Option (List ℕ) → Option Resource
asked_within None = None
asked_within (Some path) = asked_behind (behind (codes "/") path)

-- IIIF Image API 3.0, section 2: the resource that a target asks for
abbrev pub asked_of : List ℕ → List ℕ → Option Resource
asked_of prefix target = asked_within (behind prefix (path_of target))

-- an answer is the value that there is, or `Path` where there is none, unless memory ran out
abbrev pub Gives : {X Y : Type 0} → (X → Y) → Result X SplitFault → Option Y → Type 0
Gives view (Ok x) found = found ≡ Some (view x)
Gives view (Err Path) found = found ≡ None
Gives view (Err NoMemory) found = ⊤
