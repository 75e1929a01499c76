-- Which fields are plain.
use Rattle.std.proofs.Common.{◌≡◌, ℕ, Bool, true, false, not, IsTrue, List, [], ◌∷◌, reverse, refl, arith}
use Rattle.std.specs.List.{list_all}
use Rattle.std.proofs.lemmas.Bool.{and_parts, ltb-true}
use Rattle.std.proofs.lemmas.Bool.Decides.{nat_tests}
use Rattle.std.proofs.lemmas.Slice.Eq.{bytes_eq-Decides}
use Rattle.std.proofs.lemmas.List.{reverse-reverse}
use Rattle.std.proofs.lemmas.List.Elements.{All-head, All-weaker}
use Rattle.std.proofs.lemmas.List.Sums.{AllPass-from_list_all}
use Rattle.httparse.proofs.TrimLemmas.{AllPass-reverse}
use Rattle.httparse.specs.Grammar.{AllPass, IsToken, is_token, is_token_byte, is_uri_byte, is_value_byte, is_ows, skip_ows, trim_ows}
use Rattle.iiif_http_front.specs.Laws.{IsPlainField, is_plain_field, PlainFieldsAreTested}

skipped_none : (bytes : List ℕ) → AllPass (λ b. not (is_ows b)) bytes → skip_ows bytes ≡ bytes
skipped_none [] pass = refl
skipped_none (b ∷ bytes) pass =
    let other : not (is_ows b) ≡ true = All-head (λ x. IsTrue (not (is_ows x))) b bytes pass in
    by_test (is_ows b) refl other
  where
    by_test : (t : Bool) → is_ows b ≡ t → not t ≡ true → skip_ows (b ∷ bytes) ≡ b ∷ bytes
    by_test false e h = rw e refl
    by_test true e h = cc

-- a value without white space has none at its ends
pub trimmed_none : (bytes : List ℕ) → AllPass (λ b. not (is_ows b)) bytes → trim_ows bytes ≡ bytes
unfolding trim_ows
trimmed_none bytes pass =
    rw (skipped_none bytes pass, skipped_none (reverse bytes) (AllPass-reverse (λ b. not (is_ows b)) bytes pass)) (reverse-reverse bytes)

token_tested : (name : List ℕ) → is_token name ≡ true → IsToken name
token_tested name h = let both = and_parts _ _ h in (ltb-true _ _ both.0, AllPass-from_list_all is_token_byte name both.1)

visible_value : (b : ℕ) → is_uri_byte b ≡ true → is_value_byte b ≡ true
visible_value b h = grind (arith, nat_tests)

visible_no_space : (b : ℕ) → is_uri_byte b ≡ true → not (is_ows b) ≡ true
visible_no_space b h = grind (arith, nat_tests)

pub plain_tested : (f : List ℕ × List ℕ) → is_plain_field f ≡ true → IsPlainField f
plain_tested f h =
    let parts = and_parts _ _ h in
    let value = and_parts _ _ parts.1 in
    record {
      name = token_tested f.0 parts.0;
      value = AllPass-from_list_all is_value_byte f.1 value.0;
      trimmed = (bytes_eq-Decides (trim_ows f.1) f.1).0 value.1;
    }

pub plain_visible : (name value : List ℕ) → is_token name ≡ true → list_all is_uri_byte value ≡ true → IsPlainField (name, value)
plain_visible name value token visible =
    let all = AllPass-from_list_all is_uri_byte value visible in
    record {
      name = token_tested name token;
      value = All-weaker (λ b. IsTrue (is_uri_byte b)) (λ b. IsTrue (is_value_byte b)) visible_value value all;
      trimmed = trimmed_none value (All-weaker (λ b. IsTrue (is_uri_byte b)) (λ b. IsTrue (not (is_ows b))) visible_no_space value all);
    }

pub tested : PlainFieldsAreTested
tested = (plain_tested, plain_visible)
