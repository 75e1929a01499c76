-- Fields of answers are plain: their values are fixed, or of visible bytes.
use Rattle.std.proofs.Common.{◌≡◌, ℕ, suc, ◌+◌, ◌/◌, ◌%◌, ◌^◌, ◌<◌, Bool, true, false, ◌&&◌, nat_le, nat_lt, List, [], ◌∷◌, ◌++◌, length}
use Rattle.std.proofs.Common.{take, drop, refl, subst, ◌∙◌, arith, bytes_eq, Some, None, decimal}
use Rattle.std.specs.Prelude.{All, codes, if◌then◌else◌, ◌==◌, is_some, position, nat_eq}
use Rattle.std.specs.Char.{is_ascii_digit}
use Rattle.std.specs.Fmt.{digit_glyph}
use Rattle.std.specs.List.{list_all, position_or_len, before_first, after_first, slice_split, starts_with, join_with_byte}
use Rattle.std.specs.Option.{option_map_or}
use Rattle.std.proofs.lemmas.Bool.{and_from, and_parts, agree_below_at}
use Rattle.std.proofs.lemmas.Bool.Decides.{nat_tests}
use Rattle.std.proofs.lemmas.List.{take-append-drop}
use Rattle.std.proofs.lemmas.List.Elements.{All-nil, All-cons}
use Rattle.std.proofs.lemmas.List.Folds.{list_all-append}
use Rattle.std.proofs.lemmas.List.Splits.{join_with_byte-slice_split}
use Rattle.std.proofs.lemmas.Slice.Eq.{bytes_eq-Decides}
use Rattle.iiif_http_front.specs.Statuses.{IsStatusCode}
use Rattle.httparse.specs.Grammar.{is_token_byte, is_uri_byte, trim_ows}
use Rattle.iiif_http_front.specs.Laws.{IsPlainField}
use Rattle.iiif_http_front.proofs.PlainFields.{plain_tested, plain_visible}
use Rattle.iiif_pixel.specs.declared.geometry.Quality.{Quality}
use Rattle.iiif_pixel.specs.declared.geometry.Quality.TheVariants.{Default, Color, Gray, Bitonal}
use Rattle.iiif_request.specs.Refusals.{status_of}
use Rattle.iiif_request.specs.Numerals.{is_numeral, numeral_of}
use Rattle.iiif_request.specs.Requests.{IsSmallWhole, IsSmallDecimal, IsSmallRegion, IsSmallForm}
use Rattle.iiif_request.specs.Spells.{mark}
use Rattle.iiif_request.specs.declared.request.Decimal.{Decimal}
use Rattle.iiif_request.specs.declared.request.Form.{Form}
use Rattle.iiif_request.specs.declared.request.Form.TheVariants as form
use Rattle.iiif_request.specs.declared.request.Refusal.{Refusal}
use Rattle.iiif_request.specs.declared.request.Refusal.TheVariants as refused
use Rattle.iiif_request.specs.declared.request.Region.{Region}
use Rattle.iiif_request.specs.declared.request.Region.TheVariants as region
use Rattle.iiif_request.specs.declared.request.Request.{Request}
use Rattle.iiif_canonical.specs.Escapes.{is_unreserved, escape_of, escaped}
use Rattle.iiif_canonical.specs.Texts.{last_digits, decimal_text, region_text, form_text, size_text, rotation_text, quality_text, text_of}
use Rattle.iiif_canonical.specs.Texts.{image_uri_of, uri_of, CanBeSpelled}
use Rattle.iiif_canonical.proofs.NumeralTexts.{decimal_digits, last_digits_are, whole_part_small}
use Rattle.iiif_canonical.proofs.SpellingLemmas.{spellable}
use Rattle.iiif_answers.specs.Allowed.{IsFramed, refusal, redirect, information, an_image, failed_read, no_memory}
use Rattle.iiif_answers.specs.BaseUrl.{is_authority, is_base_url, is_colon, is_hierarchy, is_host, is_host_byte, is_path, is_port}
use Rattle.iiif_answers.specs.BaseUrl.{is_segment, is_slash, behind_scheme}
use Rattle.iiif_answers.specs.Responses.{Response, allowed_methods, any_origin, canonical_link, content_type, information_uri, json_ld}
use Rattle.iiif_answers.specs.Settings.{Settings, IsLegal}

-- each byte is visible, or past ASCII
abbrev pub IsVisible : List ℕ → Type 0
IsVisible text = list_all is_uri_byte text ≡ true

joined_visible : (a b : List ℕ) → IsVisible a → IsVisible b → IsVisible (a ++ b)
joined_visible a b va vb = list_all-append is_uri_byte a b ∙ and_from _ _ va vb

-- what passes a test passes a weaker one
weaker : {X : Type 0} (p q : X → Bool) → ((x : X) → p x ≡ true → q x ≡ true) → (xs : List X) → list_all p xs ≡ true → list_all q xs ≡ true
weaker p q each [] all = refl
weaker p q each (x ∷ xs) all =
    let both = and_parts _ _ all in
    and_from _ _ (each x both.0) (weaker p q each xs both.1)

-- ---- The text of a request

digit_visible : (b : ℕ) → is_ascii_digit b ≡ true → is_uri_byte b ≡ true
digit_visible b digit = grind (arith, nat_tests)

digits_visible : (text : List ℕ) → list_all is_ascii_digit text ≡ true → IsVisible text
digits_visible text all = weaker is_ascii_digit is_uri_byte digit_visible text all

whole_visible : (n : ℕ) → IsSmallWhole n → IsVisible (decimal n)
whole_visible n small = digits_visible (decimal n) (decimal_digits n (omega arith))

decimal_by : (d : Decimal) (t : Bool) → IsSmallDecimal d → d.places == 0 ≡ t
    → IsVisible (if t then decimal d.digits else decimal (d.digits / 10 ^ d.places) ++ codes "." ++ last_digits d.places d.digits)
decimal_by d true small is =
    let none : d.places ≡ 0 = grind (arith, nat_tests) in
    let P : ℕ → Type 0 = λ p. d.digits < 10 ^ (9 + p) in
    whole_visible d.digits (subst P none small)
decimal_by d false small is =
    joined_visible (decimal (d.digits / 10 ^ d.places) ++ codes ".") (last_digits d.places d.digits)
    (joined_visible (decimal (d.digits / 10 ^ d.places)) (codes ".") (whole_visible (d.digits / 10 ^ d.places) (whole_part_small d small))
    refl)
    (digits_visible (last_digits d.places d.digits) (last_digits_are d.places d.digits))

decimal_visible : (d : Decimal) → IsSmallDecimal d → IsVisible (decimal_text d)
unfolding decimal_text
decimal_visible d small = decimal_by d _ small refl

comma_visible : (a b : List ℕ) → IsVisible a → IsVisible b → IsVisible (a ++ codes "," ++ b)
comma_visible a b va vb = joined_visible (a ++ codes ",") b (joined_visible a (codes ",") va refl) vb

region_visible : (g : Region) → IsSmallRegion g → IsVisible (region_text g)
region_visible region.Full small = refl
region_visible region.Square small = refl
region_visible (region.Pixels x y w h) small =
    comma_visible (decimal x ++ codes "," ++ decimal y ++ codes "," ++ decimal w) (decimal h)
    (comma_visible (decimal x ++ codes "," ++ decimal y) (decimal w)
    (comma_visible (decimal x) (decimal y) (whole_visible x small.0) (whole_visible y small.1)) (whole_visible w small.2))
    (whole_visible h small.3)
region_visible (region.Percents x y w h) small =
    let a = codes "pct:" ++ decimal_text x in
    comma_visible (a ++ codes "," ++ decimal_text y ++ codes "," ++ decimal_text w) (decimal_text h)
    (comma_visible (a ++ codes "," ++ decimal_text y) (decimal_text w)
    (comma_visible a (decimal_text y) (joined_visible (codes "pct:") (decimal_text x) refl (decimal_visible x small.0))
    (decimal_visible y small.1)) (decimal_visible w small.2))
    (decimal_visible h small.3)

form_visible : (f : Form) → IsSmallForm f → IsVisible (form_text f)
form_visible form.Max small = refl
form_visible (form.Width w) small = joined_visible (decimal w) (codes ",") (whole_visible w small) refl
form_visible (form.Height h) small = joined_visible (codes ",") (decimal h) refl (whole_visible h small)
form_visible (form.Percent n) small = joined_visible (codes "pct:") (decimal_text n) refl (decimal_visible n small)
form_visible (form.Both w h) small = comma_visible (decimal w) (decimal h) (whole_visible w small.0) (whole_visible h small.1)
form_visible (form.Within w h) small =
    comma_visible (codes "!" ++ decimal w) (decimal h) (joined_visible (codes "!") (decimal w) refl (whole_visible w small.0))
    (whole_visible h small.1)

mark_visible : (t : Bool) (text : List ℕ) → IsVisible text → IsVisible (mark t text)
mark_visible true text is = is
mark_visible false text is = refl

quality_visible : (q : Quality) → IsVisible (quality_text q)
quality_visible Default = refl
quality_visible Color = refl
quality_visible Gray = refl
quality_visible Bitonal = refl

text_visible : (q : Request) → CanBeSpelled q → IsVisible (text_of q)
unfolding text_of
text_visible q can =
    let small = (spellable q can).small in
    let size = joined_visible (mark q.size.up (codes "%5E")) (form_text q.size.form) (mark_visible q.size.up (codes "%5E") refl)
    (form_visible q.size.form small.size) in
    let rotation = joined_visible (mark q.rotation.mirror (codes "!")) (decimal_text q.rotation.degrees)
    (mark_visible q.rotation.mirror (codes "!") refl)
    (decimal_visible q.rotation.degrees small.degrees) in
    let first = joined_visible (region_text q.region ++ codes "/") (size_text q.size)
    (joined_visible (region_text q.region) (codes "/") (region_visible q.region small.region) refl) size in
    let second = joined_visible (region_text q.region ++ codes "/" ++ size_text q.size ++ codes "/") (rotation_text q.rotation)
    (joined_visible (region_text q.region ++ codes "/" ++ size_text q.size) (codes "/") first refl) rotation in
    let third = joined_visible (region_text q.region ++ codes "/" ++ size_text q.size ++ codes "/" ++ rotation_text q.rotation ++ codes "/")
    (quality_text q.quality)
    (joined_visible (region_text q.region ++ codes "/" ++ size_text q.size ++ codes "/" ++ rotation_text q.rotation) (codes "/") second
    refl) (quality_visible q.quality) in
    joined_visible (region_text q.region ++ codes "/" ++ size_text q.size ++ codes "/" ++ rotation_text q.rotation ++ codes "/" ++
    quality_text q.quality) (codes ".tif") third refl

-- ---- An identifier

glyph_visible : (d : ℕ) → d < 16 → is_uri_byte (digit_glyph true d) ≡ true
glyph_visible d small = agree_below_at (λ n. is_uri_byte (digit_glyph true n)) (λ n. true) 16 d refl small

unreserved_visible : (b : ℕ) → is_unreserved b ≡ true → is_uri_byte b ≡ true
unreserved_visible b plain = grind (arith, nat_tests)

escape_by : (b : ℕ) (t : Bool) → is_unreserved b ≡ t
    → IsVisible (if t then b ∷ [] else (37 ∷ digit_glyph true (b / 16 % 16) ∷ digit_glyph true (b % 16) ∷ []))
escape_by b true is = and_from _ _ (unreserved_visible b is) refl
escape_by b false is =
    and_from _ _ refl (and_from _ _ (glyph_visible (b / 16 % 16) (omega arith)) (and_from _ _ (glyph_visible (b % 16) (omega arith)) refl))

escaped_visible : (bytes : List ℕ) → IsVisible (escaped bytes)
unfolding escaped
escaped_visible [] = refl
escaped_visible (b ∷ bytes) = joined_visible (escape_of b) (escaped bytes) (escape_by b _ refl) (escaped_visible bytes)

-- ---- A base URL

-- what stands before the first byte of a kind and what stands after it
parted_by : (q : ℕ → Bool) (x : ℕ) (xs : List ℕ) (t : Bool) → ((b : ℕ) → q b ≡ true → is_uri_byte b ≡ true) → q x ≡ t
    → (IsVisible (before_first q xs) → IsVisible (after_first q xs) → IsVisible xs)
    → IsVisible (before_first q (x ∷ xs)) → IsVisible (after_first q (x ∷ xs)) → IsVisible (x ∷ xs)
parted_by q x xs true each is rest front back =
    let behind : IsVisible xs = rw is at back in
    and_from _ _ (each x is) behind
parted_by q x xs false each is rest front back =
    let n = position_or_len q xs in
    let before : IsVisible (take (1 + n) (x ∷ xs)) = rw is at front in
    let after : IsVisible (drop (1 + n + 1) (x ∷ xs)) = rw is at back in
    let one : 1 + n ≡ suc n = omega arith in
    let two : 1 + n + 1 ≡ suc (n + 1) = omega arith in
    let first : (is_uri_byte x && list_all is_uri_byte (before_first q xs)) ≡ true = subst (λ k. IsVisible (take k (x ∷ xs))) one before in
    let behind : IsVisible (after_first q xs) = subst (λ k. IsVisible (drop k (x ∷ xs))) two after in
    let both = and_parts _ _ first in
    and_from _ _ both.0 (rest both.1 behind)

parted_visible : (q : ℕ → Bool) (xs : List ℕ) → ((b : ℕ) → q b ≡ true → is_uri_byte b ≡ true)
    → IsVisible (before_first q xs) → IsVisible (after_first q xs) → IsVisible xs
parted_visible q [] each front back = refl
parted_visible q (x ∷ xs) each front back = parted_by q x xs (q x) each refl (parted_visible q xs each) front back

slash_visible : (b : ℕ) → is_slash b ≡ true → is_uri_byte b ≡ true
slash_visible b is = grind (arith, nat_tests)

colon_visible : (b : ℕ) → is_colon b ≡ true → is_uri_byte b ≡ true
colon_visible b is = grind (arith, nat_tests)

host_byte_visible : (b : ℕ) → is_host_byte b ≡ true → is_uri_byte b ≡ true
host_byte_visible b is = grind (arith, nat_tests)

host_visible : (text : List ℕ) → is_host text ≡ true → IsVisible text
unfolding is_host
host_visible text is = weaker is_host_byte is_uri_byte host_byte_visible text (and_parts _ _ is).1

port_by : (text : List ℕ) (t : Bool) → list_all is_ascii_digit text ≡ t →
    option_map_or (λ n. nat_le n 65535) (numeral_of 5 text) false ≡ true → list_all is_ascii_digit text ≡ true
unfolding is_numeral
port_by text true is port = is
port_by text false is port =
    let none : numeral_of 5 text ≡ None = rw (is, no_numeral (nat_lt 0 (length text)) (nat_le (length text) 5)) refl in
    let never : false ≡ true = rw none at port in
    cc
  where
    no_numeral : (a b : Bool) → (a && b && false) ≡ false
    no_numeral true true = refl
    no_numeral true false = refl
    no_numeral false b = refl

port_visible : (text : List ℕ) → is_port text ≡ true → IsVisible text
unfolding is_port
port_visible text is = digits_visible text (port_by text _ refl is)

authority_by : (text : List ℕ) (t : Bool)
    → (if t then is_host (before_first is_colon text) && is_port (after_first is_colon text) else is_host text) ≡ true → IsVisible text
authority_by text true is =
    let both = and_parts _ _ is in
    parted_visible is_colon text colon_visible (host_visible (before_first is_colon text) both.0)
    (port_visible (after_first is_colon text) both.1)
authority_by text false is = host_visible text is

authority_visible : (text : List ℕ) → is_authority text ≡ true → IsVisible text
unfolding is_authority
authority_visible text is = authority_by text (is_some (position is_colon text)) is

segment_visible : (text : List ℕ) → is_segment text ≡ true → list_all is_uri_byte text ≡ true
unfolding is_segment
segment_visible text is = weaker is_unreserved is_uri_byte unreserved_visible text (and_parts _ _ is).1

segments_joined : (parts : List (List ℕ)) → list_all (list_all is_uri_byte) parts ≡ true → IsVisible (join_with_byte 47 parts)
segments_joined [] all = refl
segments_joined (part ∷ []) all = (and_parts _ _ all).0
segments_joined (part ∷ next ∷ parts) all =
    let both = and_parts _ _ all in
    joined_visible part (47 ∷ join_with_byte 47 (next ∷ parts)) both.0 (and_from _ _ refl (segments_joined (next ∷ parts) both.1))

path_visible : (text : List ℕ) → is_path text ≡ true → IsVisible text
path_visible text is =
    subst IsVisible (join_with_byte-slice_split 47 text)
    (segments_joined (slice_split is_slash text) (weaker is_segment (list_all is_uri_byte) segment_visible (slice_split is_slash text) is))

hierarchy_by : (rest : List ℕ) (t : Bool)
    → (if t then is_authority (before_first is_slash rest) && is_path (after_first is_slash rest) else is_authority rest) ≡ true →
    IsVisible rest
hierarchy_by rest true is =
    let both = and_parts _ _ is in
    parted_visible is_slash rest slash_visible (authority_visible (before_first is_slash rest) both.0)
    (path_visible (after_first is_slash rest) both.1)
hierarchy_by rest false is = authority_visible rest is

hierarchy_visible : (rest : List ℕ) → is_hierarchy rest ≡ true → IsVisible rest
unfolding is_hierarchy
hierarchy_visible rest is = hierarchy_by rest (is_some (position is_slash rest)) is

-- a text that begins with visible bytes, and whose rest is visible
begun_visible : (url needle : List ℕ) (n : ℕ) → bytes_eq needle (take n url) ≡ true → IsVisible needle → IsVisible (drop n url) →
    IsVisible url
begun_visible url needle n begins front back =
    let same : needle ≡ take n url = (bytes_eq-Decides needle (take n url)).0 begins in
    subst IsVisible (take-append-drop n url) (joined_visible (take n url) (drop n url) (subst IsVisible same front) back)

secure_by : (url : List ℕ) (t : Bool) → starts_with nat_eq url (codes "https://") ≡ t
    → option_map_or is_hierarchy (if t then Some (drop 8 url) else None) false ≡ true → IsVisible url
secure_by url true begins is = begun_visible url (codes "https://") 8 begins refl (hierarchy_visible (drop 8 url) is)
secure_by url false begins is = cc

scheme_by : (url : List ℕ) (t : Bool) → starts_with nat_eq url (codes "http://") ≡ t
    → option_map_or is_hierarchy (if t then Some (drop 7 url) else
    (if starts_with nat_eq url (codes "https://") then Some (drop 8 url) else None)) false ≡ true
    → IsVisible url
scheme_by url true begins is = begun_visible url (codes "http://") 7 begins refl (hierarchy_visible (drop 7 url) is)
scheme_by url false begins is = secure_by url _ refl is

base_visible : (url : List ℕ) → is_base_url url ≡ true → IsVisible url
unfolding is_base_url behind_scheme
base_visible url is = scheme_by url _ refl is

-- ---- Fields

image_uri_visible : (base name : List ℕ) → IsVisible base → IsVisible (image_uri_of base name)
unfolding image_uri_of
image_uri_visible base name is =
    joined_visible (base ++ codes "/") (escaped name) (joined_visible base (codes "/") is refl) (escaped_visible name)

link_visible : (base name : List ℕ) (q : Request) → IsVisible base → CanBeSpelled q → IsVisible (canonical_link (uri_of base name q))
unfolding uri_of
link_visible base name q is can =
    let uri = joined_visible (image_uri_of base name ++ codes "/") (text_of q)
    (joined_visible (image_uri_of base name) (codes "/") (image_uri_visible base name is) refl) (text_visible q can) in
    joined_visible (codes "<" ++ uri_of base name q) (codes ">;rel=\"canonical\"")
    (joined_visible (codes "<") (uri_of base name q) refl uri) refl

location_visible : (base name : List ℕ) → IsVisible base → IsVisible (information_uri base name)
location_visible base name is = joined_visible (image_uri_of base name) (codes "/info.json") (image_uri_visible base name is) refl

link_name : list_all is_token_byte (codes "Link") ≡ true
unfolding is_token_byte
link_name = refl

location_name : list_all is_token_byte (codes "Location") ≡ true
unfolding is_token_byte
location_name = refl

text_plain : IsPlainField (content_type (codes "text/plain"))
unfolding is_token_byte trim_ows
text_plain = plain_tested (content_type (codes "text/plain")) refl

tiff_plain : IsPlainField (content_type (codes "image/tiff"))
unfolding is_token_byte trim_ows
tiff_plain = plain_tested (content_type (codes "image/tiff")) refl

json_plain : IsPlainField (content_type json_ld)
unfolding is_token_byte trim_ows
json_plain = plain_tested (content_type json_ld) refl

origin_plain : IsPlainField any_origin
unfolding is_token_byte trim_ows
origin_plain = plain_tested any_origin refl

allow_plain : IsPlainField (codes "Allow", codes "GET, HEAD")
unfolding is_token_byte trim_ows
allow_plain = plain_tested (codes "Allow", codes "GET, HEAD") refl

methods_plain : (e : Refusal) → All IsPlainField (allowed_methods e)
methods_plain refused.Method = All-cons IsPlainField (codes "Allow", codes "GET, HEAD") [] allow_plain (All-nil IsPlainField)
methods_plain refused.Head = All-nil IsPlainField
methods_plain refused.Path = All-nil IsPlainField
methods_plain refused.Identifier = All-nil IsPlainField
methods_plain refused.Region = All-nil IsPlainField
methods_plain refused.Size = All-nil IsPlainField
methods_plain refused.Rotation = All-nil IsPlainField
methods_plain refused.Quality = All-nil IsPlainField
methods_plain refused.Format = All-nil IsPlainField
methods_plain refused.Empty = All-nil IsPlainField
methods_plain refused.Zero = All-nil IsPlainField
methods_plain refused.Larger = All-nil IsPlainField
methods_plain refused.Upscale = All-nil IsPlainField
methods_plain refused.Limit = All-nil IsPlainField

two_plain : (f : List ℕ × List ℕ) (more : List (List ℕ × List ℕ)) → IsPlainField f → All IsPlainField more →
    All IsPlainField (f ∷ any_origin ∷ more)
two_plain f more first rest = All-cons IsPlainField f (any_origin ∷ more) first (All-cons IsPlainField any_origin more origin_plain rest)

-- the fields of each answer are plain where the base URL is one
pub fields_plain : (S : Type 0) (s : Settings) (a : Response) → IsLegal s → IsFramed S s a → All IsPlainField a.fields
fields_plain S s _ legal (refusal e) = two_plain (content_type (codes "text/plain")) (allowed_methods e) text_plain (methods_plain e)
fields_plain S s _ legal (redirect item) =
    All-cons IsPlainField any_origin ((codes "Location", information_uri s.base item.name) ∷ []) origin_plain
    (All-cons IsPlainField (codes "Location", information_uri s.base item.name) []
    (plain_visible (codes "Location") (information_uri s.base item.name) location_name
    (location_visible s.base item.name (base_visible s.base legal.base))) (All-nil IsPlainField))
fields_plain S s _ legal (information item) = two_plain (content_type json_ld) [] json_plain (All-nil IsPlainField)
fields_plain S s _ legal (an_image item q canonical p asked image kind sides is_image same spelled) =
    let link : List ℕ × List ℕ = (codes "Link", canonical_link (uri_of s.base item.name canonical)) in
    two_plain (content_type (codes "image/tiff")) (link ∷ []) tiff_plain
    (All-cons IsPlainField link [] (plain_visible (codes "Link") (canonical_link (uri_of s.base item.name canonical)) link_name
    (link_visible s.base item.name canonical (base_visible s.base legal.base) spelled)) (All-nil IsPlainField))
fields_plain S s _ legal failed_read = two_plain (content_type (codes "text/plain")) [] text_plain (All-nil IsPlainField)
fields_plain S s _ legal no_memory = two_plain (content_type (codes "text/plain")) [] text_plain (All-nil IsPlainField)

refusal_status : (e : Refusal) → IsStatusCode (status_of e)
refusal_status refused.Method = (omega arith, omega arith)
refusal_status refused.Head = (omega arith, omega arith)
refusal_status refused.Path = (omega arith, omega arith)
refusal_status refused.Identifier = (omega arith, omega arith)
refusal_status refused.Region = (omega arith, omega arith)
refusal_status refused.Size = (omega arith, omega arith)
refusal_status refused.Rotation = (omega arith, omega arith)
refusal_status refused.Quality = (omega arith, omega arith)
refusal_status refused.Format = (omega arith, omega arith)
refusal_status refused.Empty = (omega arith, omega arith)
refusal_status refused.Zero = (omega arith, omega arith)
refusal_status refused.Larger = (omega arith, omega arith)
refusal_status refused.Upscale = (omega arith, omega arith)
refusal_status refused.Limit = (omega arith, omega arith)

-- the status of each answer has three digits
pub status_stands : (S : Type 0) (s : Settings) (a : Response) → IsFramed S s a → IsStatusCode a.status
status_stands S s _ (refusal e) = refusal_status e
status_stands S s _ (redirect item) = (omega arith, omega arith)
status_stands S s _ (information item) = (omega arith, omega arith)
status_stands S s _ (an_image item q canonical p asked image kind sides is_image same spelled) = (omega arith, omega arith)
status_stands S s _ failed_read = (omega arith, omega arith)
status_stands S s _ no_memory = (omega arith, omega arith)
