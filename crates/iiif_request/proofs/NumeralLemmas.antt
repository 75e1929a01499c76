-- Values of numerals.
use Rattle.std.proofs.Common.{◌≡◌, ℕ, ◌+◌, ◌-◌, ◌*◌, ◌^◌, ◌<◌, ◌≤◌, Bool, true, List, [], ◌∷◌, ◌++◌, length, get_or, drop, refl, sym, ap}
use Rattle.std.proofs.Common.{◌∙◌, subst, arith, rules, Some, ◌&&◌, nat_lt, nat_le}
use Rattle.std.proofs.lemmas.Str.{digit_value_digit}
use Rattle.std.proofs.lemmas.Bool.{ltb-true, leb-true, lt-ltb, le-leb, and_from, and_parts}
use Rattle.std.proofs.lemmas.List.Folds.{list_all-append}
use Rattle.std.specs.Char.{is_ascii_digit, digit_value}
use Rattle.std.specs.List.{list_all}
use Rattle.std.specs.Int.{IsInRange}
use Rattle.std.specs.Str.Parse.{AllDigits, digits_value, digits_value_after}
use Rattle.std.proofs.lemmas.Str.Parse.{IsNumeralModel, numerals_by_value, digit_at, digits_value_short}
use Rattle.std.proofs.lemmas.List.{drop_more}
use Rattle.std.proofs.Math.ListN.{length-append}
use Rattle.std.proofs.lemmas.Option.{cond_some}
use Rattle.iiif_request.specs.Code.{pointed_of}
use Rattle.iiif_request.specs.Numerals.{is_numeral, numeral_of}

-- ASCII digits and their value in base 10 are a numeral model of the library.
pub digit_numerals : IsNumeralModel (λ ds. list_all is_ascii_digit ds ≡ true) (digits_value 10)
digit_numerals = numerals_by_value _ (search rules)

-- A digit's value is its distance from `0`.
pub digit_value_of_digit : (c : ℕ) → IsInRange 48 57 c → digit_value c ≡ c - 48
digit_value_of_digit c range = omega (arith, digit_value_digit c range)

-- Reading on never makes the number smaller.
pub digits_value_after_le : (n : ℕ) (cs : List ℕ) → n ≤ digits_value_after 10 n cs
digits_value_after_le n [] = omega arith
digits_value_after_le n (c ∷ cs) = omega (arith, digits_value_after_le (n * 10 + digit_value c) cs)

-- Reading two texts is reading one, and then the other behind it.
pub digits_value_after_append : (n : ℕ) (w f : List ℕ) → digits_value_after 10 n (w ++ f) ≡ digits_value_after 10 (digits_value_after 10 n
    w) f
digits_value_after_append n [] f = refl
digits_value_after_append n (c ∷ w) f = digits_value_after_append (n * 10 + digit_value c) w f

-- Reading on from a place takes that place's digit, and reads on behind it.
pub digits_value_after_more : (n : ℕ) (cs : List ℕ) (i : ℕ) → AllDigits 10 cs → i < length cs
    → digits_value_after 10 n (drop i cs) ≡ digits_value_after 10 (n * 10 + (get_or cs i 0 - 48)) (drop (i + 1) cs)
digits_value_after_more n cs i digits inside =
    let worth = digit_value_of_digit _ (digit_at cs i digits inside) in
    ap (digits_value_after 10 n) (drop_more cs i 0 inside) ∙ ap (λ d. digits_value_after 10 (n * 10 + d) (drop (i + 1) cs)) worth

-- A numeral has at least one digit and at most so many.
pub is_numeral_length : (most : ℕ) (text : List ℕ) → is_numeral most text ≡ true → (0 < length text) × (length text ≤ most)
unfolding is_numeral
is_numeral_length most text h =
    let all = and_parts _ _ h in
    let two = and_parts _ _ all.0 in
    (ltb-true _ _ two.0, leb-true _ _ two.1)

-- A numeral has digits alone.
pub is_numeral_digits : (most : ℕ) (text : List ℕ) → is_numeral most text ≡ true → AllDigits 10 text
unfolding is_numeral
is_numeral_digits most text h = digit_numerals.to text (and_parts _ _ h).1

-- A numeral of at most 19 digits is below 10 ^ 19, and fits 64 bits.
pub is_numeral_fits : (most : ℕ) (text : List ℕ) → most ≤ 19 → is_numeral most text ≡ true → digits_value 10 text < 10 ^ 19
unfolding is_numeral
is_numeral_fits most text few h = digits_value_short digit_numerals text 19 (and_parts _ _ h).1 (omega (
  arith,
  is_numeral_length most text
      h,
  few,
))

-- A number of so many digits is below that power of ten.
pub numeral_of_small : (most : ℕ) (text : List ℕ) (n : ℕ) → numeral_of most text ≡ Some n → n < 10 ^ most
unfolding is_numeral
numeral_of_small most text n e =
    let is = cond_some (is_numeral most text) (digits_value 10 text) n e in
    omega (arith, digits_value_short digit_numerals text most (and_parts _ _ is.0).1 (is_numeral_length most text is.0).1, is.1)

-- Nine digits write a number below 10 ^ 9.
pub is_numeral_nine : (text : List ℕ) → is_numeral 9 text ≡ true → digits_value 10 text < 10 ^ 9
unfolding is_numeral
is_numeral_nine text h = digits_value_short digit_numerals text 9 (and_parts _ _ h).1 (is_numeral_length 9 text h).1

list_all_both : (w f : List ℕ) → is_numeral 9 w ≡ true → is_numeral 10 f ≡ true → list_all is_ascii_digit (w ++ f) ≡ true
unfolding is_numeral
list_all_both w f hw hf =
    list_all-append is_ascii_digit w f
    ∙ and_from (list_all is_ascii_digit w) (list_all is_ascii_digit f) (and_parts (nat_lt 0 (length w) && nat_le (length w) 9) _ hw).1
    (and_parts (nat_lt 0 (length f) && nat_le (length f) 10) _ hf).1

-- Nine digits and ten more write a number below 10 ^ 19.
pub is_numeral_both : (w f : List ℕ) → is_numeral 9 w ≡ true → is_numeral 10 f ≡ true →
    digits_value_after 10 (digits_value 10 w) f < 10 ^ 19
is_numeral_both w f hw hf =
    let P : ℕ → Type 0 = λ n. n < 10 ^ 19 in
    subst P (digits_value_after_append 0 w f)
    (digits_value_short digit_numerals (w ++ f) 19 (list_all_both w f hw hf)
    (omega (arith, length-append w f, is_numeral_length 9 w hw, is_numeral_length 10 f hf)))

-- The tests of length and of each digit are the numeral's.
pub is_numeral_by_tests : (most : ℕ) (text : List ℕ) (r : Bool) → 0 < length text → length text ≤ most → r ≡ list_all is_ascii_digit text →
    r ≡ is_numeral most text
unfolding is_numeral
is_numeral_by_tests most text r some fits e = rw (lt-ltb _ _ some, le-leb _ _ fits) e

-- Reading the digits behind the point after those before it gives the number of both.
pub digits_value_joined : (w f : List ℕ) (n m : ℕ) → n ≡ digits_value_after 10 0 w → m ≡ digits_value_after 10 n f →
    m ≡ digits_value 10 (w ++ f)
digits_value_joined w f n m first second = second ∙ ap (λ k. digits_value_after 10 k f) first ∙ sym (digits_value_after_append 0 w f)

-- A decimal whose digits pass the tests is read.
pub pointed_of_some : (w f : List ℕ) (n : ℕ) → true ≡ is_numeral 9 w → true ≡ is_numeral 10 f → n ≡ digits_value 10 (w ++ f)
    → Some (record { digits = n; places = length f }) ≡ pointed_of w f
pointed_of_some w f n hw hf e =
    let a : is_numeral 9 w ≡ true = sym hw in
    let b : is_numeral 10 f ≡ true = sym hf in
    rw (a, b, e) refl
