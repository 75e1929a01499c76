-- Digits of numbers.
use Rattle.std.proofs.Common.{◌≡◌, ℕ, ◌+◌, ◌-◌, ◌*◌, ◌/◌, ◌%◌, ◌^◌, ◌<◌, ◌≤◌, List, [], ◌∷◌, ◌++◌, length, drop, get_or, refl, sym, ap, ◌∙◌, subst}
use Rattle.std.proofs.Common.{append_assoc, arith, inl, inr, slice_set}
use Prim.Native.Nat.{zero, suc}
use Rattle.std.proofs.lemmas.Bool.{cases_lt, lt-ltb, le-ltb}
use Rattle.std.proofs.lemmas.List.{drop-set, length-append, take_at, drop_at}
use Rattle.std.proofs.lemmas.Nat.{div-add-mod', div_below, mod_below}
use Rattle.iiif_peer_versions.specs.Digits.{hex_digit, hex_digits, version_digits}
use Rattle.iiif_peer_versions.specs.declared.file_version.FileVersion.{FileVersion}

-- one more digit is told, in front of those that were
pub one_more : (at left : ℕ) (digits all : List ℕ) (digit : ℕ) → 0 < at → at ≤ length digits → digit ≡ hex_digit (left % 16)
    → hex_digits at left ++ drop at digits ≡ all
    → hex_digits (at - 1) (left / 16) ++ drop (at - 1) (slice_set digits (at - 1) digit) ≡ all
unfolding hex_digits
one_more at left digits all digit some within is before =
    let k = at - 1 in
    let next : at ≡ suc k = omega (arith, some) in
    let past : k + 1 ≡ suc k = omega arith in
    let told : hex_digits k (left / 16) ++ hex_digit (left % 16) ∷ drop (k + 1) digits ≡ all =
    sym (append_assoc (hex_digits k (left / 16)) (hex_digit (left % 16) ∷ []) (drop (k + 1) digits))
    ∙ (ap (λ (n : ℕ). hex_digits k (left / 16) ++ hex_digit (left % 16) ∷ [] ++ drop n digits) past
    ∙ subst (λ n. hex_digits n left ++ drop n digits ≡ all) next before) in
    ap (λ ds. hex_digits k (left / 16) ++ ds) (drop-set digits k digit (omega (arith, some, within)))
    ∙ (ap (λ d. hex_digits k (left / 16) ++ d ∷ drop (k + 1) digits) is ∙ told)

-- no digit is left to tell
pub all_told : (at left : ℕ) (digits all : List ℕ) → at ≡ 0 → hex_digits at left ++ drop at digits ≡ all → digits ≡ all
unfolding hex_digits
all_told at left digits all none before = subst (λ n. hex_digits n left ++ drop n digits ≡ all) none before

low : (a : ℕ) → a < 10 → hex_digit a ≡ 48 + a
low a h = rw (lt-ltb a 10 h) refl

high : (a : ℕ) → 10 ≤ a → hex_digit a ≡ 87 + a
high a h = rw (le-ltb a 10 h) refl

same_digit : (a b : ℕ) → hex_digit a ≡ hex_digit b → a < 16 → b < 16 → a ≡ b
same_digit a b e la lb =
    elim (cases_lt a 10) [
      | inl x ↦ elim (cases_lt b 10) [
        | inl y ↦ omega (arith, low a x, low b y, e)
        | inr y ↦ omega (arith, low a x, high b y, e, x, y)
      ]
      | inr x ↦ elim (cases_lt b 10) [
        | inl y ↦ omega (arith, high a x, low b y, e, x, y)
        | inr y ↦ omega (arith, high a x, high b y, e)
      ]
    ]

length-hex : (count number : ℕ) → length (hex_digits count number) ≡ count
unfolding hex_digits
length-hex zero number = refl
length-hex (suc count) number =
    omega (arith, length-append (hex_digits count (number / 16)) (hex_digit (number % 16) ∷ []), length-hex count (number / 16))

-- texts that begin with as many bytes are cut alike
pub cut_alike : (front rest begin end : List ℕ) → length front ≡ length begin → front ++ rest ≡ begin ++ end →
    (front ≡ begin) × (rest ≡ end)
cut_alike front rest begin end long e = (
  sym (take_at front rest (length begin) long) ∙ (ap (λ t. lib.ListN.take (length begin) t) e ∙ take_at begin end (length begin) refl),
  sym (drop_at front rest (length begin) long) ∙ (ap (λ t. drop (length begin) t) e ∙ drop_at begin end (length begin) refl),
)

same_number : (count a b : ℕ) → hex_digits count a ≡ hex_digits count b → a < 16 ^ count → b < 16 ^ count → a ≡ b
unfolding hex_digits
same_number zero a b e la lb = omega (arith, la, lb)
same_number (suc count) a b e la lb =
    let long = length-hex count (a / 16) ∙ sym (length-hex count (b / 16)) in
    let cut = cut_alike (hex_digits count (a / 16)) (hex_digit (a % 16) ∷ []) (hex_digits count (b / 16)) (hex_digit (b % 16) ∷ [])
    long e in
    let digit = same_digit (a % 16) (b % 16) (ap (λ t. get_or t 0 0) cut.1) (mod_below a 16 (omega arith)) (mod_below b 16 (omega arith)) in
    let rest = same_number count (a / 16) (b / 16) cut.0 (div_below a 16 (16 ^ count) (omega arith) (omega (arith, la)))
    (div_below b 16 (16 ^ count) (omega arith) (omega (arith, lb))) in
    omega (arith, div-add-mod' a 16, div-add-mod' b 16, digit, rest)

the_version : ℕ → ℕ → FileVersion
the_version len changed = record { len = len; changed = changed }

pub same_version : (one other : FileVersion) → one.len < 2 ^ 64 → other.len < 2 ^ 64 → one.changed < 2 ^ 64 → other.changed < 2 ^ 64 →
    version_digits one ≡ version_digits other → one ≡ other
unfolding the_version
same_version one other la lb ca cb e =
    let number = same_number 32 (one.len * 2 ^ 64 + one.changed) (other.len * 2 ^ 64 + other.changed) e (omega (arith, la, ca))
    (omega (arith, lb, cb)) in
    let len : one.len ≡ other.len = omega (arith, number, ca, cb) in
    let changed : one.changed ≡ other.changed = omega (arith, number, len) in
    ap (λ (n : ℕ). the_version n one.changed) len ∙ ap (λ (n : ℕ). the_version other.len n) changed
