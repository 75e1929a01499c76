-- A head that is written is read back.
use Rattle.std.proofs.Common.{◌≡◌, ℕ, ◌+◌, ◌/◌, ◌%◌, ◌<◌, ◌^◌, Bool, true, false, not, List, [], ◌∷◌, ◌++◌, length, map, refl, sym, ap}
use Rattle.std.proofs.Common.{◌∙◌, arith, rules, append_assoc, append-nil, decimal, codes, IsTrue, Some}
use Rattle.std.specs.Prelude.{All}
use Rattle.std.specs.List.{list_all, flat_map}
use Rattle.std.specs.Char.{is_ascii_digit}
use Rattle.std.specs.Str.Parse.{digits_value}
use Rattle.std.proofs.lemmas.Bool.{agree_below, agree_below_at}
use Rattle.std.proofs.lemmas.Fmt.{digits_value-decimal, decimal_by_steps, decimal_step, decimal_nonempty, length-decimal-le}
use Rattle.std.proofs.lemmas.Str.Parse.{IsNumeralModel, numerals_by_value}
use Rattle.std.proofs.Math.ListN.{length-append}
use Rattle.std.proofs.lemmas.List.Concat.{flat_map-append}
use Rattle.std.proofs.lemmas.List.Elements.{All-append, All-head, All-tail, All-nil, All-cons, All-map, All-weaker, All-push}
use Rattle.std.proofs.lemmas.List.Sums.{AllPass-from_list_all}
use Rattle.httparse.specs.Grammar.{AllPass, is_token_byte, is_value_byte, is_ows, trim_ows, crlf, print_field, Field, IsField}
use Rattle.httparse.specs.Grammar.{ResponseHead, IsResponseHead, print_response}
use Rattle.httparse.specs.Spans.{name_and_value}
use Rattle.iiif_http_front.specs.Statuses.{IsStatusCode, reason_phrase}
use Rattle.iiif_http_front.specs.AnswerHeads.{line_end, status_line, field_line, length_line, close_line, head_text}
use Rattle.iiif_http_front.specs.Laws.{IsPlainField, close_fields, WrittenHeadReadsBack}
use Rattle.iiif_http_front.proofs.PlainFields.{trimmed_none}

-- a field as it stands in the head
abbrev written : List ℕ × List ℕ → Field
written f = record { name = f.0; raw = 32 ∷ f.1; end = crlf }

line_is : (f : List ℕ × List ℕ) → print_field (written f) ≡ field_line f
unfolding field_line
line_is f = ap (λ (t : List ℕ). t ++ line_end) (sym (append_assoc f.0 (58 ∷ 32 ∷ []) f.1))

lines_are : (fields : List (List ℕ × List ℕ)) → flat_map print_field (map written fields) ≡ flat_map field_line fields
lines_are [] = refl
lines_are (f ∷ fields) =
    ap (λ (t : List ℕ). t ++ flat_map print_field (map written fields)) (line_is f)
    ∙ ap (λ (t : List ℕ). field_line f ++ t) (lines_are fields)

length_line_is : (n : ℕ) → length_line n ≡ field_line (codes "Content-Length", decimal n)
unfolding length_line field_line
length_line_is n = refl

close_line_is : (close : Bool) → close_line close ≡ flat_map field_line (close_fields close)
unfolding close_line field_line
close_line_is true = refl
close_line_is false = refl

trimmed_behind_space : (v : List ℕ) → trim_ows (32 ∷ v) ≡ trim_ows v
unfolding trim_ows
trimmed_behind_space v = refl

values_are : (fields : List (List ℕ × List ℕ)) → All IsPlainField fields → map name_and_value (map written fields) ≡ fields
values_are [] plain = refl
values_are (f ∷ fields) plain =
    let value : trim_ows (32 ∷ f.1) ≡ f.1 = trimmed_behind_space f.1 ∙ (All-head IsPlainField f fields plain).trimmed in
    ap (λ (v : List ℕ). (f.0, v) ∷ map name_and_value (map written fields)) value
    ∙ ap (λ (rest : List (List ℕ × List ℕ)). f ∷ rest) (values_are fields (All-tail IsPlainField f fields plain))

plain_is_field : (f : List ℕ × List ℕ) → IsPlainField f → IsField (written f)
plain_is_field f plain = record {
  name = plain.name;
  raw = All-append (λ b. IsTrue (is_value_byte b)) (32 ∷ []) f.1 (AllPass-from_list_all is_value_byte (32 ∷ []) refl) plain.value;
}

plain_are_fields : (fields : List (List ℕ × List ℕ)) → All IsPlainField fields → All IsField (map written fields)
plain_are_fields fields plain = All-map IsField written fields
    (All-weaker IsPlainField (λ f. IsField (written f)) plain_is_field fields plain)

-- a test that each digit passes, each byte of a number's text passes
digits_pass : (test : ℕ → Bool) → agree_below (λ d. test (48 + d)) (λ _. true) 10 ≡ true → (n : ℕ) → n < 2 ^ 64 → AllPass test (decimal n)
digits_pass test all n small =
    let digit : (d : ℕ) → d < 10 → test (48 + d) ≡ true = λ d below. agree_below_at (λ d. test (48 + d)) (λ _. true) 10 d all below in
    decimal_by_steps (λ _ ds. AllPass test ds)
    (λ d below. AllPass-from_list_all test ((48 + d) ∷ []) (rw (digit d below) refl))
    (λ m ds big pass. All-push (λ b. IsTrue (test b)) ds (48 + m % 10) pass (digit (m % 10) (omega arith)))
    n small

plain_length : (n : ℕ) → n < 2 ^ 64 → IsPlainField (codes "Content-Length", decimal n)
unfolding is_token_byte
plain_length n small = record {
  name = (omega arith, AllPass-from_list_all is_token_byte (codes "Content-Length") refl);
  value = digits_pass is_value_byte refl n small;
  trimmed = trimmed_none (decimal n) (digits_pass (λ b. not (is_ows b)) refl n small);
}

plain_close : (close : Bool) → All IsPlainField (close_fields close)
unfolding is_token_byte trim_ows
plain_close true = All-cons IsPlainField (codes "Connection", codes "close") [] (record {
  name = (omega arith, AllPass-from_list_all is_token_byte (codes "Connection") refl);
  value = AllPass-from_list_all is_value_byte (codes "close") refl;
  trimmed = refl;
}) (All-nil IsPlainField)
plain_close false = All-nil IsPlainField

status_length : (status : ℕ) → IsStatusCode status → length (decimal status) ≡ 3
status_length status is =
    let tens = status / 10 in
    let first = decimal_step status (omega arith) (omega arith) in
    let second = decimal_step tens (omega arith) (omega arith) in
    let last : List ℕ = (48 + status % 10) ∷ [] in
    let middle : List ℕ = (48 + tens % 10) ∷ [] in
    omega (
      arith,
      ap length first,
      ap length second,
      length-append (decimal tens) last,
      length-append (decimal (tens / 10)) middle,
      decimal_nonempty (tens / 10) (omega arith),
      length-decimal-le 3 status (omega arith) (omega arith) (omega arith),
    )

reason_test : agree_below (λ n. list_all is_value_byte (reason_phrase n)) (λ _. true) 1000 ≡ true
reason_test = refl

good_reason : (status : ℕ) → IsStatusCode status → AllPass is_value_byte (reason_phrase status)
good_reason status is =
    AllPass-from_list_all is_value_byte (reason_phrase status)
    (agree_below_at (λ n. list_all is_value_byte (reason_phrase n)) (λ _. true) 1000 status reason_test is.1)

-- the head of which the text is made
head_of : ℕ → List (List ℕ × List ℕ) → ResponseHead
head_of status fields = record {
  blank = [];
  minor = 1;
  digits = decimal status;
  reason = Some (reason_phrase status);
  line_end = crlf;
  fields = map written fields;
  last = crlf;
}

regroup : (a b c d e : List ℕ) → (((a ++ b) ++ c) ++ d) ++ e ≡ a ++ ((b ++ (c ++ d)) ++ e)
regroup a b c d e = simp append_assoc

text_is : (status : ℕ) (fields : List (List ℕ × List ℕ)) (n : ℕ) (close : Bool)
    → head_text status fields n close ≡ status_line status ++
    (flat_map print_field (map written (fields ++ (codes "Content-Length", decimal n) ∷ close_fields close)) ++ line_end)
unfolding head_text
text_is status fields n close =
    let length_field : List ℕ × List ℕ = (codes "Content-Length", decimal n) in
    let lines : flat_map print_field (map written (fields ++ length_field ∷ close_fields close)) ≡ flat_map field_line fields ++
    (length_line n ++ close_line close) =
    lines_are (fields ++ length_field ∷ close_fields close)
    ∙ flat_map-append field_line fields (length_field ∷ close_fields close)
    ∙ ap (λ (t : List ℕ). flat_map field_line fields ++ (t ++ flat_map field_line (close_fields close))) (sym (length_line_is n))
    ∙ ap (λ (t : List ℕ). flat_map field_line fields ++ (length_line n ++ t)) (sym (close_line_is close)) in
    regroup (status_line status) (flat_map field_line fields) (length_line n) (close_line close) line_end
    ∙ ap (λ (t : List ℕ). status_line status ++ (t ++ line_end)) (sym lines)

print_is : (status : ℕ) (fields : List (List ℕ × List ℕ)) →
    status_line status ++ (flat_map print_field (map written fields) ++ line_end) ≡ print_response (head_of status fields)
unfolding status_line print_response head_of
print_is status fields =
    let code : List ℕ = codes "HTTP/1.1 " ++ decimal status in
    let phrase : List ℕ = reason_phrase status in
    let rest : List ℕ = flat_map print_field (map written fields) ++ line_end in
    ap (λ (t : List ℕ). (t ++ line_end) ++ rest) (append_assoc code (32 ∷ []) phrase)

pub reads_back : WrittenHeadReadsBack
unfolding head_of
reads_back status fields n close is plain small =
    let all : List (List ℕ × List ℕ) = fields ++ (codes "Content-Length", decimal n) ∷ close_fields close in
    let all_plain : All IsPlainField all =
    All-append IsPlainField fields _ plain (All-cons IsPlainField _ _ (plain_length n small) (plain_close close)) in
    let digits : IsNumeralModel (λ ds. list_all is_ascii_digit ds ≡ true) (digits_value 10) = numerals_by_value _ (search rules) in
    let valid : IsResponseHead (head_of status all) = record {
      minor = omega arith;
      digits = (status_length status is, digits_pass is_ascii_digit refl status (omega arith));
      reason = good_reason status is;
      fields = plain_are_fields all all_plain;
    } in (
      head_of status all,
      (valid, text_is status fields n close ∙ print_is status all ∙ sym (append-nil (print_response (head_of status all)))),
      refl,
      digits_value-decimal digits status (omega arith),
      values_are all all_plain,
    )
