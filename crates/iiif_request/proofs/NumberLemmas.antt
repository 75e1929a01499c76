-- Numbers: reading is sound and complete. `_sound`: what is read is spelled; `_complete`: what is spelled is read.
use Rattle.std.proofs.Common.{◌≡◌, ◌≢◌, ℕ, true, false, List, [], ◌∷◌, ◌++◌, length, refl, sym, ap, ◌∙◌, Some, None, inl, inr, ⊎_elim}
use Rattle.std.proofs.Common.{append_assoc, ◌&&◌, codes}
use Rattle.std.specs.Prelude.{option_map}
use Rattle.std.specs.Char.{is_ascii_digit}
use Rattle.std.specs.Str.Parse.{digits_value}
use Rattle.std.proofs.lemmas.Bool.{both_ways, lt-ltb, le-leb, and_from, and_parts}
use Rattle.std.proofs.lemmas.List.Elements.{All-append, All-cons, All-nil, All-same}
use Rattle.std.proofs.lemmas.List.Sums.{AllPass-from_list_all}
use Rattle.std.proofs.lemmas.Option.{cond_some}
use Rattle.iiif_request.specs.declared.request.Decimal.{Decimal}
use Rattle.iiif_request.specs.Code.{whole_of, cut_of, pointed_of, parted_decimal_of, decimal_of}
use Rattle.iiif_request.specs.Numerals.{is_numeral}
use Rattle.iiif_request.specs.Spells.{IsDigits, IsWhole, IsDecimal}
use Rattle.iiif_request.specs.Targets.{Lacks}
use Rattle.iiif_request.proofs.OptionLemmas.{option_map_some}
use Rattle.iiif_request.proofs.NumeralLemmas.{is_numeral_length}
use Rattle.iiif_request.proofs.CutLemmas.{cut_of_at, cut_of_cases, cut_of_none}

-- A text that passes the test is digits.
pub is_numeral_sound : (most : ℕ) (text : List ℕ) → is_numeral most text ≡ true → IsDigits most text
unfolding is_numeral
is_numeral_sound most text h = record {
  some = (is_numeral_length most text h).0;
  few = (is_numeral_length most text h).1;
  digits =
      (and_parts _ _ h).1;
}

-- Digits pass the test.
pub is_numeral_complete : (most : ℕ) (text : List ℕ) → IsDigits most text → is_numeral most text ≡ true
unfolding is_numeral
is_numeral_complete most text d = and_from _ _ (and_from _ _ (lt-ltb 0 (length text) d.some) (le-leb (length text) most d.few)) d.digits

-- A whole number that is read is spelled by its text.
pub whole_of_sound : (text : List ℕ) (n : ℕ) → whole_of text ≡ Some n → IsWhole text n
whole_of_sound text n h = let w = cond_some (is_numeral 9 text) (digits_value 10 text) n h in (is_numeral_sound 9 text w.0, w.1)

-- A whole number that is spelled is read.
pub whole_of_complete : (text : List ℕ) (n : ℕ) → IsWhole text n → whole_of text ≡ Some n
whole_of_complete text n s = let numeral : is_numeral 9 text ≡ true = is_numeral_complete 9 text s.0 in rw numeral (ap (λ (m : ℕ). Some m)
    s.1)

-- Digits lack each byte that is no digit.
pub IsDigits_lacks : (byte most : ℕ) (text : List ℕ) → is_ascii_digit byte ≡ false → IsDigits most text → Lacks byte text
IsDigits_lacks byte most text other d =
    λ k e below same. both_ways (is_ascii_digit byte) other
    (ap is_ascii_digit (sym same) ∙ AllPass-from_list_all is_ascii_digit text d.digits k e below)

-- A text of one byte lacks each other byte.
pub Lacks_one : (byte x : ℕ) → x ≢ byte → Lacks byte (x ∷ [])
Lacks_one byte x differs = All-cons (λ y. y ≢ byte) x [] differs (All-nil (λ y. y ≢ byte))

-- A decimal lacks each byte but digits and the point.
pub IsDecimal_lacks : (byte : ℕ) (text : List ℕ) (d : Decimal) → is_ascii_digit byte ≡ false → 46 ≢ byte → IsDecimal text d →
    Lacks byte text
IsDecimal_lacks byte text d other point (inl s) = IsDigits_lacks byte 9 text other s.0.0
IsDecimal_lacks byte text d other point (inr s) =
    let P : ℕ → Type 0 = λ y. y ≢ byte in
    let front : Lacks byte (s.0 ++ codes ".") = All-append P s.0 (codes ".") (IsDigits_lacks byte 9 s.0 other s.2) (Lacks_one byte 46
    point) in
    All-same P text (s.0 ++ codes "." ++ s.1) s.4 (All-append P (s.0 ++ codes ".") s.1 front (IsDigits_lacks byte 10 s.1 other s.3))

-- A decimal that is read is spelled by its text.
pub decimal_of_sound : (text : List ℕ) (d : Decimal) → decimal_of text ≡ Some d → IsDecimal text d
unfolding decimal_of
decimal_of_sound text d h = ⊎_elim
    (λ w.
    let read = option_map_some (λ (n : ℕ). record { digits = n; places = 0 }) (whole_of text) d (ap (parted_decimal_of text) (sym w.0) ∙
    h) in
    let digits : whole_of text ≡ Some d.digits = read.1 ∙ ap (λ (r : Decimal). Some r.digits) read.2 in
    inl (whole_of_sound text d.digits digits, sym (ap (λ (r : Decimal). r.places) read.2)))
    (λ s.
    let read = cond_some (is_numeral 9 s.0 && is_numeral 10 s.1) _ d (ap (parted_decimal_of text) (sym s.2) ∙ h) in
    let tests = and_parts _ _ read.0 in
    inr (
      s.0,
      s.1,
      is_numeral_sound 9 s.0 tests.0,
      is_numeral_sound 10 s.1 tests.1,
      s.3 ∙ sym (append_assoc s.0 (codes ".") s.1),
      sym (ap (λ (r : Decimal). r.digits) read.1),
      sym (ap (λ (r : Decimal). r.places) read.1),
    ))
    (cut_of_cases 46 text)

-- A decimal that is spelled is read.
pub decimal_of_complete : (text : List ℕ) (d : Decimal) → IsDecimal text d → decimal_of text ≡ Some d
unfolding decimal_of
decimal_of_complete text d (inl s) =
    let uncut : cut_of 46 text ≡ None = cut_of_none 46 text (IsDigits_lacks 46 9 text refl s.0.0) in
    let read : whole_of text ≡ Some d.digits = whole_of_complete text d.digits s.0 in
    ap (parted_decimal_of text) uncut
    ∙ ap (option_map (λ (n : ℕ). record { digits = n; places = 0 })) read
    ∙ ap (λ (p : ℕ). Some (record { digits = d.digits; places = p })) (sym s.1)
decimal_of_complete text d (inr s) =
    let cut : cut_of 46 text ≡ Some (s.0, s.1) =
    cut_of_at 46 text s.0 s.1 (IsDigits_lacks 46 9 s.0 refl s.2) (s.4 ∙ append_assoc s.0 (codes ".") s.1) in
    let whole : is_numeral 9 s.0 ≡ true = is_numeral_complete 9 s.0 s.2 in
    let places : is_numeral 10 s.1 ≡ true = is_numeral_complete 10 s.1 s.3 in
    let pointed : pointed_of s.0 s.1 ≡ Some (record { digits = digits_value 10 (s.0 ++ s.1); places = length s.1 }) =
    rw (whole, places) refl in
    ap (parted_decimal_of text) cut ∙ pointed
    ∙ ap (λ (n : ℕ). Some (record { digits = n; places = length s.1 })) (sym s.5)
    ∙ ap (λ (p : ℕ). Some (record { digits = d.digits; places = p })) (sym s.6)
