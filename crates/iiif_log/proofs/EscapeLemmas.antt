-- Escapes: what bytes they have, and that they differ.
use Rattle.std.proofs.Common.{◌≡◌, ℕ, ◌+◌, ◌/◌, ◌%◌, ◌<◌, ◌==◌, Bool, true, false, cond, nat_lt, List, [], ◌∷◌, ◌++◌, All, length, arith}
use Rattle.std.proofs.Common.{sym, ◌∙◌, refl}
use Rattle.std.specs.List.{flat_map}
use Rattle.std.proofs.lemmas.Grind.{common_steps}
use Rattle.std.proofs.lemmas.List.Elements.{All-same, All-nil, All-cons, All-append, All-head, All-tail}
use Rattle.iiif_log.specs.Escapes.{escape_of, escaped, hex_digit, is_plain}
use Rattle.iiif_log.specs.Laws.{EscapesDiffer}

-- visible
abbrev pub Seen : ℕ → Type 0
Seen b = 32 < b

plain_is_seen : (b : ℕ) → is_plain b ≡ true → 32 < b
plain_is_seen b e = grind (arith, common_steps)

hex_digit_is_seen : (n : ℕ) → 32 < hex_digit n
hex_digit_is_seen n = elim (nat_lt n 10) as (λ t. 32 < cond t (48 + n) (55 + n)) [ true ↦ omega arith | false ↦ omega arith ]

escape_is_seen : (b : ℕ) (t : Bool) → is_plain b ≡ t → All Seen (cond t (b ∷ []) (92 ∷ 120 ∷ hex_digit (b / 16) ∷ hex_digit (b % 16) ∷ []))
escape_is_seen b true e = All-cons Seen b [] (plain_is_seen b e) (All-nil Seen)
escape_is_seen b false e =
    All-cons Seen 92 (120 ∷ hex_digit (b / 16) ∷ hex_digit (b % 16) ∷ []) (omega arith)
    (All-cons Seen 120 (hex_digit (b / 16) ∷ hex_digit (b % 16) ∷ []) (omega arith)
    (All-cons Seen (hex_digit (b / 16)) (hex_digit (b % 16) ∷ []) (hex_digit_is_seen (b / 16))
    (All-cons Seen (hex_digit (b % 16)) [] (hex_digit_is_seen (b % 16)) (All-nil Seen))))

escapes_are_seen : (bs : List ℕ) → All Seen (flat_map escape_of bs)
escapes_are_seen [] = All-nil Seen
escapes_are_seen (b ∷ bs) = All-append Seen (escape_of b) (flat_map escape_of bs) (escape_is_seen b (is_plain b) refl) (escapes_are_seen bs)

-- bytes that are some
escaped_some : (b : ℕ) (bs : List ℕ) → escaped (b ∷ bs) ≡ flat_map escape_of (b ∷ bs)
escaped_some b bs = let t : (length (b ∷ bs) == 0) ≡ false = grind (arith, common_steps) in rw t

-- a word has no space, no control byte
pub escaped_is_seen : (bs : List ℕ) → All Seen (escaped bs)
escaped_is_seen [] = All-cons Seen 34 (34 ∷ []) (omega arith) (All-cons Seen 34 [] (omega arith) (All-nil Seen))
escaped_is_seen (b ∷ bs) = All-same Seen (escaped (b ∷ bs)) (flat_map escape_of (b ∷ bs)) (escaped_some b bs) (escapes_are_seen (b ∷ bs))

hex_digits_differ : (m n : ℕ) → m < 16 → n < 16 → hex_digit m ≡ hex_digit n → m ≡ n
hex_digits_differ m n below under e = grind (arith, common_steps)

-- a byte of two digits
digits_make : (a b : ℕ) → a < 256 → b < 256 → hex_digit (a / 16) ≡ hex_digit (b / 16) → hex_digit (a % 16) ≡ hex_digit (b % 16) → a ≡ b
digits_make a b small little high low =
    let tens = hex_digits_differ (a / 16) (b / 16) (omega arith) (omega arith) high in
    let ones = hex_digits_differ (a % 16) (b % 16) (omega arith) (omega arith) low in
    omega (arith, tens, ones)

-- what stands at the front of two texts that begin with escapes
heads_agree : (a b : ℕ) (s t : Bool) (xs ys : List ℕ) → a < 256 → b < 256 → is_plain a ≡ s → is_plain b ≡ t
    → cond s (a ∷ []) (92 ∷ 120 ∷ hex_digit (a / 16) ∷ hex_digit (a % 16) ∷ []) ++ xs ≡ cond t (b ∷ [])
    (92 ∷ 120 ∷ hex_digit (b / 16) ∷ hex_digit (b % 16) ∷ []) ++ ys
    → (a ≡ b) × (xs ≡ ys)
heads_agree a b true true xs ys small little p q e = (cc, cc)
heads_agree a b true false xs ys small little p q e =
    let is : a ≡ 92 = cc in
    let not : is_plain 92 ≡ true = rw is at p in cc
heads_agree a b false true xs ys small little p q e =
    let is : b ≡ 92 = cc in
    let not : is_plain 92 ≡ true = rw is at q in cc
heads_agree a b false false xs ys small little p q e =
    let high : hex_digit (a / 16) ≡ hex_digit (b / 16) = cc in
    let low : hex_digit (a % 16) ≡ hex_digit (b % 16) = cc in
    (digits_make a b small little high low, cc)

-- no escape is empty
escape_has_bytes : (b : ℕ) (t : Bool) (xs : List ℕ) → [] ≡ cond t (b ∷ []) (92 ∷ 120 ∷ hex_digit (b / 16) ∷ hex_digit (b % 16) ∷ []) ++ xs →
    ⊥
escape_has_bytes b true xs e = cc
escape_has_bytes b false xs e = cc

escapes_agree : (a b : List ℕ) → All (λ x. x < 256) a → All (λ x. x < 256) b → flat_map escape_of a ≡ flat_map escape_of b → a ≡ b
escapes_agree [] [] p q e = refl
escapes_agree [] (b ∷ bs) p q e = absurd (escape_has_bytes b (is_plain b) (flat_map escape_of bs) e)
escapes_agree (a ∷ as') [] p q e = absurd (escape_has_bytes a (is_plain a) (flat_map escape_of as') (sym e))
escapes_agree (a ∷ as') (b ∷ bs) p q e =
    let both = heads_agree a b (is_plain a) (is_plain b) (flat_map escape_of as') (flat_map escape_of bs) (All-head (λ x. x < 256) a as' p)
    (All-head (λ x. x < 256) b bs q) refl refl e in
    let rest : as' ≡ bs = escapes_agree as' bs (All-tail (λ x. x < 256) a as' p) (All-tail (λ x. x < 256) b bs q) both.1 in
    let first = both.0 in cc

-- two quotes are no escape
quotes_are_none : (b : ℕ) (t : Bool) (xs : List ℕ) → is_plain b ≡ t →
    34 ∷ 34 ∷ [] ≡ cond t (b ∷ []) (92 ∷ 120 ∷ hex_digit (b / 16) ∷ hex_digit (b % 16) ∷ []) ++ xs → ⊥
quotes_are_none b true xs p e =
    let is : ◌≡◌ {A = ℕ} 34 b = cc in
    let not : is_plain 34 ≡ true = rw (← is) at p in cc
quotes_are_none b false xs p e = let is : ◌≡◌ {A = ℕ} 34 92 = cc in omega (arith, is)

pub escapes_differ : EscapesDiffer
escapes_differ [] [] p q e = refl
escapes_differ [] (b ∷ bs) p q e = absurd (quotes_are_none b (is_plain b) (flat_map escape_of bs) refl (e ∙ escaped_some b bs))
escapes_differ (a ∷ as') [] p q e = absurd (quotes_are_none a (is_plain a) (flat_map escape_of as') refl (sym e ∙ escaped_some a as'))
escapes_differ (a ∷ as') (b ∷ bs) p q e = escapes_agree (a ∷ as') (b ∷ bs) p q (sym (escaped_some a as') ∙ e ∙ escaped_some b bs)
