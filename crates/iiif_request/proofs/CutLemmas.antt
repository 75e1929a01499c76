-- Cutting a text at the first of a byte.
use Rattle.std.proofs.Common.{◌≡◌, ◌≢◌, ℕ, ◌+◌, ◌<◌, ◌≤◌, ◌⊎◌, Bool, true, false, List, [], ◌∷◌, ◌++◌, length, get_or, take, drop, refl}
use Rattle.std.proofs.Common.{sym, ap, ◌∙◌, subst, arith, Some, None, inl, inr, ⊎_elim, eqb, ltb}
use Rattle.std.specs.Prelude.{◌==◌, not}
use Rattle.std.specs.List.{position_or_len, before_first, after_first}
use Rattle.std.proofs.lemmas.Bool.{eqb-true, eq-eqb, lt-ltb, ltb-true, ltb-false, both_ways}
use Rattle.std.proofs.lemmas.Bool.Decides.{eqb_tells}
use Rattle.std.proofs.lemmas.List.{length-append, get_or-take, length-take, drop_all}
use Rattle.std.proofs.lemmas.List.Elements.{All-tail, All-head}
use Rattle.std.proofs.lemmas.List.Sums.{split_at_first, passes_at_first, fails_before_first, prefix_len-le-length}
use Rattle.std.proofs.Math.Seq.{take-append_seam, take-length, drop-append-add, get_or-append_seam}
use Rattle.std.proofs.lemmas.Option.{same_Some, none-some}
use Rattle.iiif_request.specs.Code.{cut_of}
use Rattle.iiif_request.specs.Targets.{Lacks}

-- Numbers that test unequal are unequal.
pub eqb-false : (a b : ℕ) → eqb a b ≡ false → a ≢ b
eqb-false a b h e = both_ways _ h (eq-eqb a b e)

-- Unequal numbers test unequal.
pub ne-eqb : (a b : ℕ) → a ≢ b → eqb a b ≡ false
ne-eqb a b h = ⊎_elim (λ t. absurd (h t.1)) (λ t. t.0) (eqb_tells a b)

-- The first such byte stands behind a front that lacks it.
pub position_or_len_first : (byte : ℕ) (a b : List ℕ) → Lacks byte a → position_or_len (λ x. x == byte) (a ++ byte ∷ b) ≡ length a
position_or_len_first byte [] b lacks = rw (eq-eqb byte byte refl) refl
position_or_len_first byte (x ∷ a) b lacks =
    let differs : eqb x byte ≡ false = ne-eqb x byte (All-head (λ y. y ≢ byte) x a lacks) in
    let rest = position_or_len_first byte a b (All-tail (λ y. y ≢ byte) x a lacks) in
    rw differs (omega (arith, rest))

-- A text is cut at its first such byte.
pub cut_of_at : (byte : ℕ) (text a b : List ℕ) → Lacks byte a → text ≡ a ++ byte ∷ b → cut_of byte text ≡ Some (a, b)
unfolding cut_of
cut_of_at byte text a b lacks e =
    let place = position_or_len_first byte a b lacks in
    let inside : ltb (length a) (length (a ++ byte ∷ b)) ≡ true = lt-ltb _ _ (omega (arith, length-append a (byte ∷ b))) in
    let front = take-append_seam a (byte ∷ b) in
    let back : drop (length a + 1) (a ++ byte ∷ b) ≡ b = drop-append-add a (byte ∷ b) 1 in
    rw (e, place, inside, front, back) refl

-- The outcome of a cut: the text lacks the byte and stays whole, or is parted at the first such byte.
abbrev pub IsCutOrWhole : ℕ → List ℕ → Type 0
IsCutOrWhole byte text =
    ((cut_of byte text ≡ None) × Lacks byte text) ⊎
    ((a b : List ℕ) × (cut_of byte text ≡ Some (a, b)) × (text ≡ a ++ byte ∷ b) × Lacks byte a)

-- Each text is cut or whole.
pub cut_of_cases : (byte : ℕ) (text : List ℕ) → IsCutOrWhole byte text
unfolding cut_of
cut_of_cases byte text = by_test (ltb (position_or_len (λ x. x == byte) text) (length text)) refl
  where
    by_test : (t : Bool) → ltb (position_or_len (λ x. x == byte) text) (length text) ≡ t → IsCutOrWhole byte text
    by_test true e =
        let test : ℕ → Bool = λ x. x == byte in
        let inside : position_or_len test text < length text = ltb-true _ _ e in
        let here : get_or text (position_or_len test text) 0 ≡ byte = eqb-true _ _ (passes_at_first test text 0 inside) in
        let parts : text ≡ before_first test text ++ (get_or text (position_or_len test text) 0 ∷ after_first test text) =
        split_at_first test text 0 inside in
        let cut : text ≡ before_first test text ++ (byte ∷ after_first test text) =
        parts ∙ ap (λ (x : ℕ). before_first test text ++ (x ∷ after_first test text)) here in
        let front : Lacks byte (before_first test text) = λ k d below.
        let near : k < position_or_len test text = omega (arith, length-take (position_or_len test text) text) in
        rw (get_or-take (position_or_len test text) text k d near) (eqb-false _ _ (fails_before_first test text k d near)) in
        inr (before_first test text, after_first test text, rw e refl, cut, front)
    by_test false e =
        let test : ℕ → Bool = λ x. x == byte in
        let past : length text ≤ position_or_len test text = ltb-false _ _ e in
        inl (rw e refl, λ k d below. eqb-false _ _ (fails_before_first test text k d (omega arith)))

-- A text that lacks the byte isn't cut.
pub cut_of_none : (byte : ℕ) (text : List ℕ) → Lacks byte text → cut_of byte text ≡ None
cut_of_none byte text lacks =
    ⊎_elim (λ w. w.0) (λ s. absurd (lacks (length s.0) 0 (omega (arith, ap length s.3, length-append s.0 (byte ∷ s.1)))
    (ap (λ (t : List ℕ). get_or t (length s.0) 0) s.3 ∙ get_or-append_seam s.0 byte s.1 0)))
    (cut_of_cases byte text)

-- The parts of a cut text, with the byte between, are the text.
pub cut_of_some : (byte : ℕ) (text : List ℕ) (p : List ℕ × List ℕ) → cut_of byte text ≡ Some p → (text ≡ p.0 ++ byte ∷ p.1) × Lacks byte p.0
cut_of_some byte text p h =
    ⊎_elim (λ w. absurd (none-some p (sym w.0 ∙ h)))
    (λ s.
    let same : (s.0, s.1) ≡ p = same_Some (s.0, s.1) p (sym s.2 ∙ h) in
    (s.3 ∙ ap (λ (q : List ℕ × List ℕ). q.0 ++ byte ∷ q.1) same, subst (λ (q : List ℕ × List ℕ). Lacks byte q.0) same s.4))
    (cut_of_cases byte text)

-- The part before the first such byte lacks it.
pub before_first_lacks : (byte : ℕ) (text : List ℕ) → Lacks byte (before_first (λ b. b == byte) text)
before_first_lacks byte text = λ k d below.
    let test : ℕ → Bool = λ b. b == byte in
    let near : k < position_or_len test text = omega (arith, length-take (position_or_len test text) text) in
    rw (get_or-take (position_or_len test text) text k d near) (eqb-false _ _ (fails_before_first test text k d near))

-- A text is its parts with the byte between, or has no such byte and is its own first part.
pub before_first_cases : (byte : ℕ) (text : List ℕ)
    → (text ≡ before_first (λ b. b == byte) text ++ (byte ∷ after_first (λ b. b == byte) text))
    ⊎ ((before_first (λ b. b == byte) text ≡ text) × (after_first (λ b. b == byte) text ≡ []))
before_first_cases byte text = by_test (ltb (position_or_len (λ b. b == byte) text) (length text)) refl
  where
    by_test : (t : Bool) → ltb (position_or_len (λ b. b == byte) text) (length text) ≡ t
        → (text ≡ before_first (λ b. b == byte) text ++ (byte ∷ after_first (λ b. b == byte) text))
        ⊎ ((before_first (λ b. b == byte) text ≡ text) × (after_first (λ b. b == byte) text ≡ []))
    by_test true h =
        let test : ℕ → Bool = λ b. b == byte in
        let inside : position_or_len test text < length text = ltb-true _ _ h in
        let here : get_or text (position_or_len test text) 0 ≡ byte = eqb-true _ _ (passes_at_first test text 0 inside) in
        inl (split_at_first test text 0 inside ∙ ap (λ (x : ℕ). before_first test text ++ (x ∷ after_first test text)) here)
    by_test false h =
        let test : ℕ → Bool = λ b. b == byte in
        let at : position_or_len test text ≡ length text = omega (arith, ltb-false _ _ h, prefix_len-le-length (λ b. not (test b)) text) in
        inr (ap (λ (n : ℕ). take n text) at ∙ take-length text, drop_all (position_or_len test text + 1) text (omega arith))

position_or_len_lacks : (byte : ℕ) (a : List ℕ) → Lacks byte a → position_or_len (λ x. x == byte) a ≡ length a
position_or_len_lacks byte [] lacks = refl
position_or_len_lacks byte (x ∷ a) lacks =
    let differs : eqb x byte ≡ false = ne-eqb x byte (All-head (λ y. y ≢ byte) x a lacks) in
    let rest = position_or_len_lacks byte a (All-tail (λ y. y ≢ byte) x a lacks) in
    rw differs (omega (arith, rest))

-- A text that lacks the byte is its own first part, and nothing follows.
pub before_first_uncut : (byte : ℕ) (text : List ℕ) → Lacks byte text → (before_first (λ b. b == byte) text ≡ text) ×
    (after_first (λ b. b == byte) text ≡ [])
before_first_uncut byte text lacks =
    let at = position_or_len_lacks byte text lacks in
    (ap (λ (n : ℕ). take n text) at ∙ take-length text, drop_all (position_or_len (λ b. b == byte) text + 1) text (omega (arith, at)))

-- A front that lacks the byte, the byte and a rest have that front and that rest as their parts.
pub before_first_cut : (byte : ℕ) (text a b : List ℕ) → Lacks byte a → text ≡ a ++ byte ∷ b → (before_first (λ b. b == byte) text ≡ a) ×
    (after_first (λ b. b == byte) text ≡ b)
before_first_cut byte text a b lacks e =
    let at = position_or_len_first byte a b lacks in (
      ap (before_first (λ x. x == byte)) e ∙ ap (λ (n : ℕ). take n (a ++ byte ∷ b)) at ∙ take-append_seam a (byte ∷ b),
      ap (after_first (λ x. x == byte)) e ∙ ap (λ (n : ℕ). drop (n + 1) (a ++ byte ∷ b)) at ∙ drop-append-add a (byte ∷ b) 1,
    )
