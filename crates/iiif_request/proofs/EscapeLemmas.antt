-- Percent-decoding: the code's test and decoder agree with the units of a segment (RFC 3986, section 2.1).
use Rattle.std.proofs.Common.{◌≡◌, ◌≢◌, ℕ, zero, suc, ◌+◌, ◌*◌, ◌<◌, ◌≤◌, Bool, true, false, List, [], ◌∷◌, ◌++◌, length, drop, refl, sym}
use Rattle.std.proofs.Common.{ap, ◌∙◌, subst, arith, Some, None, inl, inr, ⊎_elim, ◌&&◌}
use Rattle.std.specs.Prelude.{◌==◌, IsUtf8}
use Rattle.std.specs.Char.{is_ascii_hexdigit, digit_value}
use Rattle.std.specs.List.{list_all, slice_split, onto_first, concat, AllZip}
use Rattle.std.specs.Str.{is_utf8}
use Rattle.std.proofs.lemmas.Bool.{both_ways, and_from, le-leb, and_parts}
use Rattle.std.proofs.lemmas.Bool.Decides.{eqb_tells, nat_tests}
use Rattle.std.proofs.lemmas.List.Splits.{slice_split-cons_yes, slice_split-cons_no}
use Rattle.std.proofs.lemmas.Str.{IsUtf8-from_is_utf8, is_utf8-from_IsUtf8}
use Rattle.std.proofs.lemmas.Option.{cond_some}
use Rattle.percent_encoding.specs.Percent.{percent_decode}
use Rattle.percent_encoding.proofs.PercentLemmas.{percent_decode-nil, percent_decode_escape, KeepsFirst_from_no_escape}
use Rattle.iiif_request.specs.Code.{begins_with_digits, has_whole_escapes, text_of}
use Rattle.iiif_request.specs.Targets.{StandsFor, Decodes, IsSegmentOf}
use Rattle.iiif_request.proofs.CutLemmas.{ne-eqb}

abbrev is_percent : ℕ → Bool
is_percent b = b == 37

hex_worth : (c : ℕ) → is_ascii_hexdigit c ≡ true → digit_value c < 16
hex_worth c h = grind (arith, nat_tests)

worth_hex : (c : ℕ) → digit_value c < 16 → is_ascii_hexdigit c ≡ true
worth_hex c h = grind (arith, nat_tests)

hex_no_percent : (c : ℕ) → digit_value c < 16 → c ≢ 37
hex_no_percent c h e = grind (arith, nat_tests)

-- a list has a first part
split_some : (raw : List ℕ) → (part : List ℕ) × (parts : List (List ℕ)) × (slice_split is_percent raw ≡ part ∷ parts)
split_some [] = ([], [], refl)
split_some (x ∷ xs) =
    let rest = split_some xs in
    ⊎_elim
    (λ t. ([], slice_split is_percent xs, slice_split-cons_yes is_percent x xs t.0))
    (λ t. (x ∷ rest.0, rest.1, slice_split-cons_no is_percent x xs t.0 ∙ ap (onto_first x) rest.2))
    (eqb_tells x 37)

-- a byte that is no `%`
has_whole_escapes_plain : (b : ℕ) (raw : List ℕ) → b ≢ 37 → has_whole_escapes (b ∷ raw) ≡ has_whole_escapes raw
unfolding has_whole_escapes
has_whole_escapes_plain b raw differs =
    let rest = split_some raw in
    let cut = slice_split-cons_no is_percent b raw (ne-eqb b 37 differs) ∙ ap (onto_first b) rest.2 in
    ap (λ (l : List (List ℕ)). list_all begins_with_digits (drop 1 l)) cut
    ∙ sym (ap (λ (l : List (List ℕ)). list_all begins_with_digits (drop 1 l)) rest.2)

-- a `%`
has_whole_escapes_percent : (raw part : List ℕ) (parts : List (List ℕ)) → slice_split is_percent raw ≡ part ∷ parts
    → has_whole_escapes (37 ∷ raw) ≡ begins_with_digits part && has_whole_escapes raw
unfolding has_whole_escapes
has_whole_escapes_percent raw part parts e =
    ap (λ (l : List (List ℕ)). list_all begins_with_digits l) e
    ∙ ap (λ (l : List (List ℕ)). begins_with_digits part && list_all begins_with_digits (drop 1 l)) (sym e)

begins : (high low : ℕ) (part : List ℕ) → is_ascii_hexdigit high ≡ true → is_ascii_hexdigit low ≡ true →
    begins_with_digits (high ∷ low ∷ part) ≡ true
begins high low part first second =
    and_from _ _ (and_from _ _ (le-leb 2 (length (high ∷ low ∷ part)) (omega arith)) first) second

has_whole_escapes_escape : (high low : ℕ) (raw : List ℕ) → digit_value high < 16 → digit_value low < 16 →
    has_whole_escapes (37 ∷ high ∷ low ∷ raw) ≡ has_whole_escapes raw
has_whole_escapes_escape high low raw first second =
    let rest = split_some raw in
    let cut : slice_split is_percent (high ∷ low ∷ raw) ≡ (high ∷ low ∷ rest.0) ∷ rest.1 =
    slice_split-cons_no is_percent high (low ∷ raw) (ne-eqb high 37 (hex_no_percent high first))
    ∙ ap (onto_first high) (slice_split-cons_no is_percent low raw (ne-eqb low 37 (hex_no_percent low second)) ∙ ap (onto_first low) rest.2)
    in
    let digits = begins high low rest.0 (worth_hex high first) (worth_hex low second) in
    has_whole_escapes_percent (high ∷ low ∷ raw) (high ∷ low ∷ rest.0) rest.1 cut
    ∙ ap (λ (b : Bool). b && has_whole_escapes (high ∷ low ∷ raw)) digits
    ∙ has_whole_escapes_plain high (low ∷ raw) (hex_no_percent high first) ∙ has_whole_escapes_plain low raw (hex_no_percent low second)

-- what stands behind a `%` in a text whose escapes are whole
abbrev BeginsWithEscape : List ℕ → Type 0
BeginsWithEscape raw = (high low : ℕ) × (rest : List ℕ) × (raw ≡ high ∷ low ∷ rest) × (digit_value high < 16) × (digit_value low < 16)

escape_behind : (raw part : List ℕ) (parts : List (List ℕ)) → slice_split is_percent raw ≡ part ∷ parts → begins_with_digits part ≡ true →
    BeginsWithEscape raw
escape_behind [] part parts e h =
    let same : [] ≡ part = cc in
    absurd (both_ways (begins_with_digits part) (ap begins_with_digits (sym same)) h)
escape_behind (high ∷ raw) part parts e h = ⊎_elim
    (λ t.
    let cut : [] ∷ slice_split is_percent raw ≡ part ∷ parts = sym (slice_split-cons_yes is_percent high raw t.0) ∙ e in
    let same : [] ≡ part = cc in
    absurd (both_ways (begins_with_digits part) (ap begins_with_digits (sym same)) h))
    (λ t.
    let cut : onto_first high (slice_split is_percent raw) ≡ part ∷ parts = sym (slice_split-cons_no is_percent high raw t.0) ∙ e in
    low_behind high raw part parts cut h)
    (eqb_tells high 37)
  where
    low_behind : (high : ℕ) (raw part : List ℕ) (parts : List (List ℕ)) → onto_first high (slice_split is_percent raw) ≡ part ∷ parts →
        begins_with_digits part ≡ true
        → BeginsWithEscape (high ∷ raw)
    low_behind high [] part parts e h =
        let same : high ∷ [] ≡ part = cc in
        absurd (both_ways (begins_with_digits part) (ap begins_with_digits (sym same)) h)
    low_behind high (low ∷ raw) part parts e h = ⊎_elim
        (λ t.
        let cut : (high ∷ []) ∷ slice_split is_percent raw ≡ part ∷ parts =
        ap (onto_first high) (sym (slice_split-cons_yes is_percent low raw t.0)) ∙ e in
        let same : high ∷ [] ≡ part = cc in
        absurd (both_ways (begins_with_digits part) (ap begins_with_digits (sym same)) h))
        (λ t.
        let rest = split_some raw in
        let cut : (high ∷ low ∷ rest.0) ∷ rest.1 ≡ part ∷ parts =
        ap (onto_first high) (sym (slice_split-cons_no is_percent low raw t.0 ∙ ap (onto_first low) rest.2)) ∙ e in
        let same : high ∷ low ∷ rest.0 ≡ part = cc in
        let tests = and_parts _ (is_ascii_hexdigit low) (ap begins_with_digits same ∙ h) in
        (high, low, raw, refl, hex_worth high (and_parts _ (is_ascii_hexdigit high) tests.0).1, hex_worth low tests.1))
        (eqb_tells low 37)

-- one unit more
add_unit : (unit raw text : List ℕ) (byte : ℕ) → StandsFor unit byte → Decodes raw text → Decodes (unit ++ raw) (byte ∷ text)
add_unit unit raw text byte s d = (unit ∷ d.0, ap (λ (r : List ℕ). unit ++ r) d.1, (s, d.2))

decode_plain : (b : ℕ) (raw : List ℕ) → b ≢ 37 → percent_decode (b ∷ raw) ≡ b ∷ percent_decode raw
decode_plain b raw differs = KeepsFirst_from_no_escape (b ∷ raw) (λ _ e _ _. differs e)

plain_unit : (b : ℕ) (raw : List ℕ) → b ≢ 37 → Decodes raw (percent_decode raw) → Decodes (b ∷ raw) (percent_decode (b ∷ raw))
plain_unit b raw differs d = subst (Decodes (b ∷ raw)) (sym (decode_plain b raw differs))
    (add_unit (b ∷ []) raw (percent_decode raw) b (inl (refl, differs)) d)

escape_unit : (high low : ℕ) (raw : List ℕ) → digit_value high < 16 → digit_value low < 16 → Decodes raw (percent_decode raw)
    → Decodes (37 ∷ high ∷ low ∷ raw) (percent_decode (37 ∷ high ∷ low ∷ raw))
escape_unit high low raw first second d =
    subst (Decodes (37 ∷ high ∷ low ∷ raw)) (sym (percent_decode_escape 37 high low raw refl first second))
    (add_unit (37 ∷ high ∷ low ∷ []) raw (percent_decode raw) (16 * digit_value high + digit_value low)
    (inr (high, low, first, second, refl, refl)) d)

whole_behind : (raw : List ℕ) → has_whole_escapes (37 ∷ raw) ≡ true → BeginsWithEscape raw
whole_behind raw h =
    let cut = split_some raw in
    escape_behind raw cut.0 cut.1 cut.2 (and_parts _ _ (sym (has_whole_escapes_percent raw cut.0 cut.1 cut.2) ∙ h)).0

-- A segment with whole escapes decodes to what the percent-decoder gives; by induction on the fuel.
pub percent_decode_decodes : (fuel : ℕ) (raw : List ℕ) → length raw ≤ fuel → has_whole_escapes raw ≡ true → Decodes raw (percent_decode raw)
percent_decode_decodes fuel [] short h = rw percent_decode-nil ([], refl, tt)
percent_decode_decodes zero (b ∷ raw) short h = absurd (omega arith)
percent_decode_decodes (suc fuel) (b ∷ raw) short h = ⊎_elim
    (λ t.
    let same : 37 ∷ raw ≡ b ∷ raw = ap (λ (x : ℕ). x ∷ raw) (sym t.1) in
    let found = whole_behind raw (ap has_whole_escapes same ∙ h) in
    let whole : 37 ∷ found.0 ∷ found.1 ∷ found.2 ≡ b ∷ raw = ap (λ (x : List ℕ). 37 ∷ x) (sym found.3) ∙ same in
    let shorter : length found.2 ≤ fuel = omega (arith, ap length found.3) in
    let rest = percent_decode_decodes fuel found.2 shorter (sym (has_whole_escapes_escape found.0 found.1 found.2 found.4 found.5) ∙
    ap has_whole_escapes whole ∙ h)
    in
    subst (λ (x : List ℕ). Decodes x (percent_decode x)) whole (escape_unit found.0 found.1 found.2 found.4 found.5 rest))
    (λ t. plain_unit b raw t.1 (percent_decode_decodes fuel raw (omega arith) (sym (has_whole_escapes_plain b raw t.1) ∙ h)))
    (eqb_tells b 37)

-- what is decoded so is decoded by the crate
abbrev IsDecodedSo : List ℕ → List ℕ → Type 0
IsDecodedSo raw text = (has_whole_escapes raw ≡ true) × (percent_decode raw ≡ text)

unit_decoded : (unit raw text : List ℕ) (byte : ℕ) → StandsFor unit byte → IsDecodedSo raw text → IsDecodedSo (unit ++ raw) (byte ∷ text)
unit_decoded unit raw text byte (inl s) d =
    subst (λ (u : List ℕ). IsDecodedSo (u ++ raw) (byte ∷ text)) (sym s.0)
    (has_whole_escapes_plain byte raw s.1 ∙ d.0, decode_plain byte raw s.1 ∙ ap (λ (t : List ℕ). byte ∷ t) d.1)
unit_decoded unit raw text byte (inr s) d =
    let worth = 16 * digit_value s.0 + digit_value s.1 in
    let here : IsDecodedSo (37 ∷ s.0 ∷ s.1 ∷ raw) (worth ∷ text) = (
      has_whole_escapes_escape s.0 s.1 raw s.2 s.3 ∙ d.0,
      percent_decode_escape 37 s.0 s.1 raw refl s.2 s.3 ∙
          ap (λ (t : List ℕ). worth ∷ t) d.1,
    ) in
    subst (λ (u : List ℕ). IsDecodedSo (u ++ raw) (byte ∷ text)) (sym s.4)
    (subst (λ (b : ℕ). IsDecodedSo (37 ∷ s.0 ∷ s.1 ∷ raw) (b ∷ text)) (sym s.5) here)

has_whole_escapes_nil : has_whole_escapes [] ≡ true
unfolding has_whole_escapes
has_whole_escapes_nil = refl

units_decoded : (units : List (List ℕ)) (text : List ℕ) → AllZip StandsFor units text → IsDecodedSo (concat units) text
units_decoded [] [] z = (has_whole_escapes_nil, percent_decode-nil)
units_decoded [] (b ∷ text) z = absurd z
units_decoded (u ∷ units) [] z = absurd z
units_decoded (u ∷ units) (b ∷ text) z = unit_decoded u (concat units) text b z.0 (units_decoded units text z.1)

-- A decoded segment is one by the standard.
pub text_of_sound : (raw text : List ℕ) → text_of raw ≡ Some text → IsSegmentOf raw text
text_of_sound raw text h =
    let n = cond_some (has_whole_escapes raw && is_utf8 (percent_decode raw)) (percent_decode raw) text h in
    let tests = and_parts _ _ n.0 in
    subst (IsSegmentOf raw) n.1 (
      percent_decode_decodes (length raw) raw (omega arith) tests.0,
      IsUtf8-from_is_utf8 (percent_decode raw)
          tests.1,
    )

-- A segment by the standard is decoded.
pub text_of_complete : (raw text : List ℕ) → IsSegmentOf raw text → text_of raw ≡ Some text
text_of_complete raw text s =
    let d = units_decoded s.0.0 text s.0.2 in
    let whole : has_whole_escapes raw ≡ true = ap has_whole_escapes s.0.1 ∙ d.0 in
    let decoded : percent_decode raw ≡ text = ap percent_decode s.0.1 ∙ d.1 in
    let valid : is_utf8 text ≡ true = is_utf8-from_IsUtf8 text s.1 in
    rw (whole, decoded, valid) refl

-- Decoded bytes that are UTF-8 are the segment's text.
pub text_of_some : (raw decoded text : List ℕ) → has_whole_escapes raw ≡ true → decoded ≡ percent_decode raw → IsUtf8 decoded →
    text ≡ decoded → text_of raw ≡ Some text
text_of_some raw decoded text whole same valid e =
    let read : percent_decode raw ≡ text = sym same ∙ sym e in
    let known : is_utf8 text ≡ true = is_utf8-from_IsUtf8 text (subst IsUtf8 (sym e) valid) in
    rw (whole, read, known) refl

-- A segment has no text where its decoded bytes aren't UTF-8.
pub text_of_none : (raw decoded : List ℕ) → has_whole_escapes raw ≡ true → decoded ≡ percent_decode raw → ¬ (IsUtf8 decoded) →
    text_of raw ≡ None
text_of_none raw decoded whole same never = by_test (is_utf8 (percent_decode raw)) refl
  where
    by_test : (b : Bool) → is_utf8 (percent_decode raw) ≡ b → text_of raw ≡ None
    by_test true e = absurd (never (subst IsUtf8 (sym same) (IsUtf8-from_is_utf8 (percent_decode raw) e)))
    by_test false e = rw (whole, e) refl
