-- Texts of numbers: they spell them.
use Rattle.std.proofs.lemmas.Bool.{and_from}
use Rattle.std.proofs.Common.{◌≡◌, ℕ, zero, suc, ◌+◌, ◌*◌, ◌/◌, ◌%◌, ◌^◌, ◌<◌, ◌≤◌, inl, inr, Bool, true, false, List, [], ◌∷◌, ◌++◌}
use Rattle.std.proofs.Common.{length, refl, sym, ap, subst, ◌∙◌, arith, decimal, append_assoc}
use Rattle.std.specs.Prelude.{codes, if◌then◌else◌, ◌==◌}
use Rattle.std.specs.List.{list_all}
use Rattle.std.specs.Char.{is_ascii_digit, digit_value}
use Rattle.std.specs.Str.Parse.{digits_value}
use Rattle.std.proofs.lemmas.Bool.Decides.{nat_tests}
use Rattle.std.proofs.lemmas.Fmt.{digits_decimal, digits_value-decimal, length-decimal-le, decimal_nonempty, decimal_digit}
use Rattle.std.proofs.lemmas.Int.Digits.{digits_value_push}
use Rattle.std.proofs.lemmas.List.{append-nil}
use Rattle.std.proofs.lemmas.List.Folds.{list_all-append}
use Rattle.std.proofs.lemmas.Nat.{pow-add}
use Rattle.std.proofs.lemmas.Str.Parse.{digits_value_short}
use Rattle.std.proofs.Math.ListN.{length-append}
use Rattle.std.proofs.Math.Nat.{div-div-eq-div-mul, div-lt_iff_lt-mul}
use Rattle.iiif_request.proofs.NumeralLemmas.{digit_numerals}
use Rattle.iiif_request.proofs.RequestLemmas.{IsWhole_small}
use Rattle.iiif_request.specs.Requests.{IsShort, IsSmallWhole, IsSmallDecimal}
use Rattle.iiif_request.specs.Spells.{IsDigits, IsWhole, IsDecimal}
use Rattle.iiif_request.specs.declared.request.Decimal.{Decimal}
use Rattle.iiif_canonical.specs.Texts.{last_digits, decimal_text}
use Rattle.iiif_canonical.proofs.Powers.{ten_some}

-- The text of a number is digits.
pub decimal_digits : (n : ℕ) → n < 2 ^ 64 → list_all is_ascii_digit (decimal n) ≡ true
decimal_digits n small = digits_decimal digit_numerals n small

-- The text of a whole number below 10 ^ 9 spells it.
pub whole_spelled : (n : ℕ) → IsSmallWhole n → IsWhole (decimal n) n
whole_spelled n small =
    let digits : IsDigits 9 (decimal n) = record {
      some = omega (arith, decimal_nonempty n (omega arith));
      few = length-decimal-le 9 n (omega arith) small (omega arith);
      digits = decimal_digits n (omega arith);
    } in
    (digits, digits_value-decimal digit_numerals n (omega arith))

last_digit : (v : ℕ) → decimal (v % 10) ≡ (48 + v % 10) ∷ []
last_digit v = decimal_digit (v % 10) (omega arith)

-- The last n digits are n digits.
pub length-last_digits : (n v : ℕ) → length (last_digits n v) ≡ n
length-last_digits zero v = refl
length-last_digits (suc n) v =
    let front = length-last_digits n (v / 10) in
    rw (last_digit v, length-append (last_digits n (v / 10)) ((48 + v % 10) ∷ []), front) (omega arith)

digit_is : (k : ℕ) → k < 10 → is_ascii_digit (48 + k) ≡ true
digit_is k small = grind (arith, nat_tests)

-- The last digits of a number are digits.
pub last_digits_are : (n v : ℕ) → list_all is_ascii_digit (last_digits n v) ≡ true
last_digits_are zero v = refl
last_digits_are (suc n) v =
    let front = last_digits_are n (v / 10) in
    let digit : is_ascii_digit (48 + v % 10) ≡ true = digit_is (v % 10) (omega arith) in
    let one : list_all is_ascii_digit ((48 + v % 10) ∷ []) ≡ true = and_from _ true digit refl in
    rw (last_digit v, list_all-append is_ascii_digit (last_digits n (v / 10)) ((48 + v % 10) ∷ []), front) one

digit_value_of : (k : ℕ) → k < 10 → digit_value (48 + k) ≡ k
digit_value_of k small = grind (arith, nat_tests)

-- The digits of a number's front and its last n digits write the number.
pub value-last_digits : (n v : ℕ) (front : List ℕ) → digits_value 10 front ≡ v / 10 ^ n → digits_value 10 (front ++ last_digits n v) ≡ v
value-last_digits zero v front is =
    let one : v / 10 ^ 0 ≡ v = omega arith in
    ap (digits_value 10) (append-nil front) ∙ is ∙ one
value-last_digits (suc n) v front is =
    let more : suc n ≡ 1 + n = omega arith in
    let ten : 10 ^ suc n ≡ 10 * 10 ^ n = ap (λ k. 10 ^ k) more ∙ pow-add 10 1 n in
    let rest : digits_value 10 front ≡ v / 10 / 10 ^ n = is ∙ ap (λ k. v / k) ten ∙ sym (div-div-eq-div-mul v 10 (10 ^ n)) in
    let before = value-last_digits n (v / 10) front rest in
    let last : digit_value (48 + v % 10) ≡ v % 10 = digit_value_of (v % 10) (omega arith) in
    rw (
      last_digit v,
      ← append_assoc front (last_digits n (v / 10)) ((48 + v % 10) ∷ []),
      digits_value_push 10 (front ++ last_digits n (v / 10)) (48 + v % 10),
      before,
      last,
    ) (omega arith)

-- The whole part of a small decimal is below 10 ^ 9.
pub whole_part_small : (d : Decimal) → IsSmallDecimal d → d.digits / 10 ^ d.places < 10 ^ 9
whole_part_small d small =
    let split : 10 ^ (9 + d.places) ≡ 10 ^ 9 * 10 ^ d.places = pow-add 10 9 d.places in
    (div-lt_iff_lt-mul {k = 10 ^ d.places} {x = d.digits} {y = 10 ^ 9} (ten_some d.places)).1 (omega (arith, small, split))

decimal_by : (d : Decimal) (t : Bool) → IsShort d → IsSmallDecimal d → d.places == 0 ≡ t
    → IsDecimal (if t then decimal d.digits else decimal (d.digits / 10 ^ d.places) ++ codes "." ++ last_digits d.places d.digits) d
decimal_by d true short small is =
    let none : d.places ≡ 0 = grind (arith, nat_tests) in
    let P : ℕ → Type 0 = λ p. d.digits < 10 ^ (9 + p) in
    let few : d.digits < 10 ^ 9 = subst P none small in
    inl (whole_spelled d.digits few, none)
decimal_by d false short small is =
    let some : 1 ≤ d.places = grind (arith, nat_tests) in
    let whole = whole_spelled (d.digits / 10 ^ d.places) (whole_part_small d small) in
    let long = length-last_digits d.places d.digits in
    let places : IsDigits 10 (last_digits d.places d.digits) = record {
      some = omega (arith, long);
      few = omega (arith, long);
      digits = last_digits_are d.places d.digits;
    } in
    inr (
      decimal (d.digits / 10 ^ d.places),
      last_digits d.places d.digits,
      whole.0,
      places,
      refl,
      sym (value-last_digits d.places d.digits (decimal (d.digits / 10 ^ d.places)) whole.1),
      sym long,
    )

-- The text of a short and small decimal spells it.
pub decimal_spelled : (d : Decimal) → IsShort d → IsSmallDecimal d → IsDecimal (decimal_text d) d
unfolding decimal_text
decimal_spelled d short small = decimal_by d _ short small refl

-- A decimal that is spelled is short and small.
pub decimal_small : (text : List ℕ) (d : Decimal) → IsDecimal text d → IsShort d × IsSmallDecimal d
decimal_small text d (inl is) =
    let P : ℕ → Type 0 = λ p. d.digits < 10 ^ (9 + p) in
    (omega (arith, is.1), subst P (sym is.1) (IsWhole_small text d.digits is.0))
decimal_small text d (inr is) =
    let all : list_all is_ascii_digit (is.0 ++ is.1) ≡ true = list_all-append is_ascii_digit is.0 is.1 ∙
    and_from _ _ is.2.digits is.3.digits in
    let few : length (is.0 ++ is.1) ≤ 9 + d.places = omega (arith, length-append is.0 is.1, is.2.few, is.6) in
    let below : digits_value 10 (is.0 ++ is.1) < 10 ^ (9 + d.places) = digits_value_short digit_numerals (is.0 ++ is.1) (9 + d.places) all
    few in
    (omega (arith, is.3.few, is.6), rw is.5 below)
