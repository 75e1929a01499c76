-- Escapes of identifiers: the library's encoder gives them, and they decode.
use Rattle.std.proofs.Common.{◌≡◌, ◌≢◌, ℕ, ◌/◌, ◌%◌, ◌<◌, inl, inr, Bool, true, false, not, List, [], ◌∷◌, ◌++◌, refl, sym, ap, ◌∙◌, arith}
use Rattle.std.specs.Prelude.{All, if◌then◌else◌, map}
use Rattle.std.specs.Char.{digit_value}
use Rattle.std.specs.Fmt.{digit_glyph}
use Rattle.std.specs.List.{AllZip, concat}
use Rattle.std.proofs.lemmas.Bool.{agree_below, agree_below_at}
use Rattle.std.proofs.lemmas.Bool.Decides.{nat_tests}
use Rattle.std.proofs.lemmas.List.Elements.{All-nil, All-cons, All-append, All-head, All-tail}
use Rattle.percent_encoding.proofs.PercentLemmas.{IsByte}
use Rattle.percent_encoding.specs.AsciiSet.{should_percent_encode}
use Rattle.percent_encoding.specs.Percent.{percent_encode, percent_encode_byte, encode_byte}
use Rattle.iiif_request.specs.Targets.{Lacks, StandsFor, Decodes}
use Rattle.iiif_canonical.specs.declared.uris.TheConstants.{RESERVED}
use Rattle.iiif_canonical.specs.Escapes.{is_unreserved, escape_of, escaped}
use Rattle.iiif_canonical.specs.Laws.{EscapesReadBack}

agree : agree_below (should_percent_encode RESERVED) (λ b. not (is_unreserved b)) 256 ≡ true
unfolding should_percent_encode
agree = refl

-- one byte
by_test : (b : ℕ) (t : Bool) → is_unreserved b ≡ t → should_percent_encode RESERVED b ≡ not (is_unreserved b) →
    encode_byte RESERVED b ≡ escape_of b
unfolding percent_encode_byte
by_test b true e a = let s : should_percent_encode RESERVED b ≡ false = a ∙ ap not e in rw (s, e) refl
by_test b false e a = let s : should_percent_encode RESERVED b ≡ true = a ∙ ap not e in rw (s, e) refl

same_byte : (b : ℕ) → b < 256 → encode_byte RESERVED b ≡ escape_of b
same_byte b small =
    by_test b (is_unreserved b) refl (agree_below_at (should_percent_encode RESERVED) (λ c. not (is_unreserved c)) 256 b agree small)

-- The encoder of the library, with this crate's set, gives the escaped bytes.
pub percent_encode_escaped : (bs : List ℕ) → All IsByte bs → percent_encode RESERVED bs ≡ escaped bs
unfolding percent_encode escaped
percent_encode_escaped [] small = refl
percent_encode_escaped (b ∷ bs) small =
    let first = same_byte b (All-head IsByte b bs small) in
    let rest = percent_encode_escaped bs (All-tail IsByte b bs small) in
    cc

-- a hexadecimal digit is no `/` and has its value
glyph_value : (d : ℕ) → d < 16 → digit_value (digit_glyph true d) ≡ d
glyph_value d small = grind (arith, nat_tests)

glyph_other : (d c : ℕ) → d < 16 → c < 48 → digit_glyph true d ≢ c
glyph_other d c small other = λ same. grind (arith, nat_tests)

glyph_no_query : (d : ℕ) → d < 16 → digit_glyph true d ≢ 63
glyph_no_query d small = λ same. grind (arith, nat_tests)

stands_by : (b : ℕ) (t : Bool) → b < 256 → is_unreserved b ≡ t
    → StandsFor (if t then b ∷ [] else (37 ∷ digit_glyph true (b / 16 % 16) ∷ digit_glyph true (b % 16) ∷ [])) b
stands_by b true small is = inl (refl, λ percent. grind (arith, nat_tests))
stands_by b false small is =
    let high = glyph_value (b / 16 % 16) (omega arith) in
    let low = glyph_value (b % 16) (omega arith) in
    inr (digit_glyph true (b / 16 % 16), digit_glyph true (b % 16), omega (arith, high), omega (arith, low), refl, omega (arith, high, low))

stands : (b : ℕ) → b < 256 → StandsFor (escape_of b) b
stands b small = stands_by b _ small refl

-- the escapes of each byte, joined
units_joined : (bs : List ℕ) → escaped bs ≡ concat (map escape_of bs)
unfolding escaped
units_joined [] = refl
units_joined (b ∷ bs) = ap (λ (t : List ℕ). escape_of b ++ t) (units_joined bs)

units_stand : (bs : List ℕ) → All IsByte bs → AllZip StandsFor (map escape_of bs) bs
units_stand [] small = tt
units_stand (b ∷ bs) small = (stands b (All-head IsByte b bs small), units_stand bs (All-tail IsByte b bs small))

-- Escaped bytes decode to the bytes.
pub escaped_decodes : (bs : List ℕ) → All IsByte bs → Decodes (escaped bs) bs
escaped_decodes bs small = (map escape_of bs, units_joined bs, units_stand bs small)

lacks_by : (c b : ℕ) (t : Bool) → c ≢ 37 → is_unreserved c ≡ false → ((d : ℕ) → d < 16 → digit_glyph true d ≢ c) → is_unreserved b ≡ t
    → Lacks c (if t then b ∷ [] else (37 ∷ digit_glyph true (b / 16 % 16) ∷ digit_glyph true (b % 16) ∷ []))
lacks_by c b true percent other digit is =
    All-cons (λ x. x ≢ c) b [] (λ same. absurd (let no : is_unreserved b ≡ false = ap is_unreserved same ∙ other in cc))
    (All-nil (λ x. x ≢ c))
lacks_by c b false percent other digit is =
    let high = digit_glyph true (b / 16 % 16) in
    let low = digit_glyph true (b % 16) in
    All-cons (λ x. x ≢ c) 37 (high ∷ low ∷ []) (λ same. percent (sym same))
    (All-cons (λ x. x ≢ c) high (low ∷ []) (digit (b / 16 % 16) (omega arith))
    (All-cons (λ x. x ≢ c) low [] (digit (b % 16) (omega arith)) (All-nil (λ x. x ≢ c))))

escaped_lacks : (c : ℕ) (bs : List ℕ) → c ≢ 37 → is_unreserved c ≡ false → ((d : ℕ) → d < 16 → digit_glyph true d ≢ c) →
    Lacks c (escaped bs)
unfolding escaped
escaped_lacks c [] percent other digit = All-nil (λ x. x ≢ c)
escaped_lacks c (b ∷ bs) percent other digit =
    All-append (λ x. x ≢ c) (escape_of b) (escaped bs) (lacks_by c b _ percent other digit refl) (escaped_lacks c bs percent other digit)

-- No slash is in escaped bytes.
pub escaped_lacks_slash : (bs : List ℕ) → Lacks 47 (escaped bs)
escaped_lacks_slash bs = escaped_lacks 47 bs (λ same. absurd (omega arith)) refl (λ d small. glyph_other d 47 small (omega arith))

-- No question mark is in escaped bytes.
pub escaped_lacks_query : (bs : List ℕ) → Lacks 63 (escaped bs)
escaped_lacks_query bs = escaped_lacks 63 bs (λ same. absurd (omega arith)) refl glyph_no_query

-- Escaped bytes are one segment, and decode to the bytes.
pub escaped_reads_back : EscapesReadBack
escaped_reads_back id small = (escaped_lacks_slash id, escaped_decodes id small)
