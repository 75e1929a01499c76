-- Regions: reading is sound and complete.
use Rattle.std.proofs.Common.{◌≡◌, ℕ, true, false, List, [], ◌∷◌, ◌++◌, length, drop, refl, sym, ap, ◌∙◌, subst, arith, Some, None, Option}
use Rattle.std.proofs.Common.{⊎_elim, eqb, append_assoc, codes}
use Rattle.std.specs.Prelude.{bytes_eq, nat_eq}
use Rattle.std.specs.Char.{is_ascii_digit}
use Rattle.std.specs.List.{list_all, starts_with}
use Rattle.std.proofs.lemmas.Bool.{both_ways, and_parts}
use Rattle.std.proofs.lemmas.Slice.Eq.{bytes_eq-Decides, starts_is}
use Rattle.std.proofs.lemmas.Bool.Decides.{Decides-eqb}
use Rattle.std.proofs.lemmas.Option.{same_Some, none-some}
use Rattle.iiif_request.specs.declared.request.Decimal.{Decimal}
use Rattle.iiif_request.specs.declared.request.Region.{Region}
use Rattle.iiif_request.specs.declared.request.Region.TheVariants.{Full, Square, Pixels, Percents}
use Rattle.iiif_request.specs.Code.{whole_of, decimal_of, cut_of, Parts, third_cut_of, second_cut_of, first_cut_of, parts_of, four_of}
use Rattle.iiif_request.specs.Code.{pixels_of, percents_of, region_of}
use Rattle.iiif_request.specs.Spells.{IsDigits, IsWhole, IsDecimal, SpellsRegion}
use Rattle.iiif_request.specs.Targets.{Lacks}
use Rattle.iiif_request.proofs.OptionLemmas.{cond_some_cases}
use Rattle.iiif_request.proofs.NumberLemmas.{IsDigits_lacks, IsDecimal_lacks, whole_of_sound, whole_of_complete, decimal_of_sound}
use Rattle.iiif_request.proofs.NumberLemmas.{decimal_of_complete}
use Rattle.iiif_request.proofs.CutLemmas.{cut_of_at, cut_of_some, ne-eqb}

-- Texts that test equal are equal.
pub bytes_eq_true : (text known : List ℕ) → bytes_eq text known ≡ true → text ≡ known
bytes_eq_true text known h = (bytes_eq-Decides text known).0 h

-- A text that tests as beginning with a front is the front and a rest.
pub starts_with_true : (text front : List ℕ) → starts_with nat_eq text front ≡ true → text ≡ front ++ drop (length front) text
starts_with_true text front h = (starts_is Decides-eqb text front (starts_with nat_eq text front) refl).0 h

-- A digit equals no other sign.
pub eqb_digit_other : (c other : ℕ) → is_ascii_digit c ≡ true → is_ascii_digit other ≡ false → eqb c other ≡ false
eqb_digit_other c other digit sign = ne-eqb c other (λ e. both_ways (is_ascii_digit other) sign (ap is_ascii_digit (sym e) ∙ digit))

-- No other sign equals a digit.
pub eqb_other_digit : (c other : ℕ) → is_ascii_digit c ≡ true → is_ascii_digit other ≡ false → eqb other c ≡ false
eqb_other_digit c other digit sign = ne-eqb other c (λ e. both_ways (is_ascii_digit other) sign (ap is_ascii_digit e ∙ digit))

-- Digits begin with a digit.
pub IsDigits_head : (most : ℕ) (text : List ℕ) → IsDigits most text → (c : ℕ) × (rest : List ℕ) × (text ≡ c ∷ rest) ×
    (is_ascii_digit c ≡ true)
IsDigits_head most [] d = absurd (omega (arith, d.some))
IsDigits_head most (c ∷ rest) d = (c, rest, refl, (and_parts (is_ascii_digit c) (list_all is_ascii_digit rest) d.digits).0)

-- four parts and the text that they were cut from
third_cut_of_some : (a b text : List ℕ) (p : Parts) → third_cut_of a b (cut_of 44 text) ≡ Some p
    → (o : Option (List ℕ × List ℕ)) → cut_of 44 text ≡ o → (p.first ≡ a) × (p.second ≡ b) × (text ≡ p.third ++ 44 ∷ p.fourth)
third_cut_of_some a b text p h None e = absurd (none-some p (ap (third_cut_of a b) (sym e) ∙ h))
third_cut_of_some a b text p h (Some c) e =
    let same : record { first = a; second = b; third = c.0; fourth = c.1 } ≡ p = same_Some _ p (ap (third_cut_of a b) (sym e) ∙ h) in (
      sym (ap (λ (q : Parts). q.first) same),
      sym (ap (λ (q : Parts). q.second) same),
      (cut_of_some 44 text c e).0 ∙ ap (λ (q : Parts). q.third ++ 44 ∷ q.fourth) same,
    )

second_cut_of_some : (a text : List ℕ) (p : Parts) → second_cut_of a (cut_of 44 text) ≡ Some p
    → (o : Option (List ℕ × List ℕ)) → cut_of 44 text ≡ o → (p.first ≡ a) × (text ≡ p.second ++ 44 ∷ (p.third ++ 44 ∷ p.fourth))
second_cut_of_some a text p h None e = absurd (none-some p (ap (second_cut_of a) (sym e) ∙ h))
second_cut_of_some a text p h (Some c) e =
    let rest = third_cut_of_some a c.0 c.1 p (ap (second_cut_of a) (sym e) ∙ h) (cut_of 44 c.1) refl in
    (rest.0, (cut_of_some 44 text c e).0 ∙ ap (λ (x : List ℕ). x ++ 44 ∷ c.1) (sym rest.1) ∙ ap (λ (x : List ℕ). p.second ++ 44 ∷ x) rest.2)

parts_of_join : (text : List ℕ) (p : Parts) → parts_of text ≡ Some p
    → (o : Option (List ℕ × List ℕ)) → cut_of 44 text ≡ o → text ≡ p.first ++ 44 ∷ (p.second ++ 44 ∷ (p.third ++ 44 ∷ p.fourth))
unfolding parts_of
parts_of_join text p h None e = absurd (none-some p (ap first_cut_of (sym e) ∙ h))
parts_of_join text p h (Some c) e =
    let rest = second_cut_of_some c.0 c.1 p (ap first_cut_of (sym e) ∙ h) (cut_of 44 c.1) refl in
    (cut_of_some 44 text c e).0 ∙ ap (λ (x : List ℕ). x ++ 44 ∷ c.1) (sym rest.0) ∙ ap (λ (x : List ℕ). p.first ++ 44 ∷ x) rest.1

-- the definition's joining, which groups to the left
regroup : (a b c d : List ℕ) → a ++ codes "," ++ b ++ codes "," ++ c ++ codes "," ++ d ≡ a ++ 44 ∷ (b ++ 44 ∷ (c ++ 44 ∷ d))
regroup a b c d = simp append_assoc refl

regroup_behind : (front a b c d : List ℕ) → front ++ a ++ codes "," ++ b ++ codes "," ++ c ++ codes "," ++ d ≡ front ++
    (a ++ 44 ∷ (b ++ 44 ∷ (c ++ 44 ∷ d)))
regroup_behind front a b c d = simp append_assoc refl

-- Four parts, with commas between, are the text that they were cut from.
pub parts_of_sound : (text : List ℕ) (p : Parts) → parts_of text ≡ Some p →
    text ≡ p.first ++ codes "," ++ p.second ++ codes "," ++ p.third ++ codes "," ++ p.fourth
parts_of_sound text p h = parts_of_join text p h (cut_of 44 text) refl ∙ sym (regroup p.first p.second p.third p.fourth)

-- Four texts with commas between are cut into those four.
pub parts_of_complete : (a b c d : List ℕ) → Lacks 44 a → Lacks 44 b → Lacks 44 c
    → parts_of (a ++ 44 ∷ (b ++ 44 ∷ (c ++ 44 ∷ d))) ≡ Some (record { first = a; second = b; third = c; fourth = d })
unfolding parts_of
parts_of_complete a b c d first second third =
    ap first_cut_of (cut_of_at 44 _ a (b ++ 44 ∷ (c ++ 44 ∷ d)) first refl)
    ∙ ap (second_cut_of a) (cut_of_at 44 _ b (c ++ 44 ∷ d) second refl)
    ∙ ap (third_cut_of a b) (cut_of_at 44 _ c d third refl)

-- four numbers
four_of_some : {X : Type 0} (form : X → X → X → X → Region) (x y w h : Option X) (r : Region) → four_of form x y w h ≡ Some r
    → (a b c d : X) × (x ≡ Some a) × (y ≡ Some b) × (w ≡ Some c) × (h ≡ Some d) × (form a b c d ≡ r)
four_of_some form None y w h r e = absurd (none-some r e)
four_of_some form (Some a) None w h r e = absurd (none-some r e)
four_of_some form (Some a) (Some b) None h r e = absurd (none-some r e)
four_of_some form (Some a) (Some b) (Some c) None r e = absurd (none-some r e)
four_of_some form (Some a) (Some b) (Some c) (Some d) r e = (a, b, c, d, refl, refl, refl, refl, same_Some (form a b c d) r e)

pixels_of_sound : (text : List ℕ) (r : Region) (o : Option Parts) → parts_of text ≡ o → pixels_of o ≡ Some r → SpellsRegion text r
pixels_of_sound text r None e h = absurd (none-some r h)
pixels_of_sound text r (Some p) e h =
    let n = four_of_some Pixels (whole_of p.first) (whole_of p.second) (whole_of p.third) (whole_of p.fourth) r h in
    subst (SpellsRegion text) n.8 (
      p.first,
      p.second,
      p.third,
      p.fourth,
      whole_of_sound p.first n.0 n.4,
      whole_of_sound p.second n.1 n.5,
      whole_of_sound p.third n.2 n.6,
      whole_of_sound p.fourth n.3 n.7,
      parts_of_sound text p e,
    )

percents_of_sound : (text rest : List ℕ) (r : Region) (o : Option Parts) → text ≡ codes "pct:" ++ rest → parts_of rest ≡ o →
    percents_of o ≡ Some r → SpellsRegion text r
percents_of_sound text rest r None front e h = absurd (none-some r h)
percents_of_sound text rest r (Some p) front e h =
    let n = four_of_some Percents (decimal_of p.first) (decimal_of p.second) (decimal_of p.third) (decimal_of p.fourth) r h in
    let whole : text ≡ codes "pct:" ++ p.first ++ codes "," ++ p.second ++ codes "," ++ p.third ++ codes "," ++ p.fourth =
    front ∙ ap (λ (x : List ℕ). codes "pct:" ++ x) (parts_of_join rest p e (cut_of 44 rest) refl) ∙
    sym (regroup_behind (codes "pct:") p.first p.second p.third p.fourth) in
    subst (SpellsRegion text) n.8 (
      p.first,
      p.second,
      p.third,
      p.fourth,
      decimal_of_sound p.first n.0 n.4,
      decimal_of_sound p.second n.1 n.5,
      decimal_of_sound p.third n.2 n.6,
      decimal_of_sound p.fourth n.3 n.7,
      whole,
    )

-- A region that is read is spelled by its text.
pub region_of_sound : (text : List ℕ) (r : Region) → region_of text ≡ Some r → SpellsRegion text r
unfolding region_of
region_of_sound text r h = ⊎_elim
    (λ full. subst (SpellsRegion text) (same_Some Full r full.1) (bytes_eq_true text (codes "full") full.0))
    (λ other. ⊎_elim
    (λ square. subst (SpellsRegion text) (same_Some Square r square.1) (bytes_eq_true text (codes "square") square.0))
    (λ number. ⊎_elim
    (λ percents. percents_of_sound text (drop 4 text) r (parts_of (drop 4 text)) (starts_with_true text (codes "pct:") percents.0) refl
    percents.1)
    (λ pixels. pixels_of_sound text r (parts_of text) refl pixels.1)
    (cond_some_cases (starts_with nat_eq text (codes "pct:")) _ _ r number.1))
    (cond_some_cases (bytes_eq text (codes "square")) _ _ r other.1))
    (cond_some_cases (bytes_eq text (codes "full")) _ _ r h)

-- a text that begins with a digit
region_of_digit : (c : ℕ) (rest : List ℕ) → is_ascii_digit c ≡ true → region_of (c ∷ rest) ≡ pixels_of (parts_of (c ∷ rest))
unfolding region_of
region_of_digit c rest digit =
    let full = eqb_digit_other c 102 digit refl in
    let square = eqb_digit_other c 115 digit refl in
    let percent = eqb_other_digit c 112 digit refl in
    rw (full, square, percent) refl

region_of_percents : (rest : List ℕ) → region_of (codes "pct:" ++ rest) ≡ percents_of (parts_of rest)
unfolding region_of
region_of_percents rest = refl

region_of_full : region_of (codes "full") ≡ Some Full
unfolding region_of
region_of_full = refl

region_of_square : region_of (codes "square") ≡ Some Square
unfolding region_of
region_of_square = refl

-- four numbers that are spelled
pixels_of_four : (a b c d : List ℕ) (x y w h : ℕ) → IsWhole a x → IsWhole b y → IsWhole c w → IsWhole d h
    → pixels_of (Some (record { first = a; second = b; third = c; fourth = d })) ≡ Some (Pixels x y w h)
pixels_of_four a b c d x y w h first second third fourth =
    ap (λ (o : Option ℕ). four_of Pixels o (whole_of b) (whole_of c) (whole_of d)) (whole_of_complete a x first)
    ∙ ap (λ (o : Option ℕ). four_of Pixels (Some x) o (whole_of c) (whole_of d)) (whole_of_complete b y second)
    ∙ ap (λ (o : Option ℕ). four_of Pixels (Some x) (Some y) o (whole_of d)) (whole_of_complete c w third)
    ∙ ap (λ (o : Option ℕ). four_of Pixels (Some x) (Some y) (Some w) o) (whole_of_complete d h fourth)

percents_of_four : (a b c d : List ℕ) (x y w h : Decimal) → IsDecimal a x → IsDecimal b y → IsDecimal c w → IsDecimal d h
    → percents_of (Some (record { first = a; second = b; third = c; fourth = d })) ≡ Some (Percents x y w h)
percents_of_four a b c d x y w h first second third fourth =
    ap (λ (o : Option Decimal). four_of Percents o (decimal_of b) (decimal_of c) (decimal_of d)) (decimal_of_complete a x first)
    ∙ ap (λ (o : Option Decimal). four_of Percents (Some x) o (decimal_of c) (decimal_of d)) (decimal_of_complete b y second)
    ∙ ap (λ (o : Option Decimal). four_of Percents (Some x) (Some y) o (decimal_of d)) (decimal_of_complete c w third)
    ∙ ap (λ (o : Option Decimal). four_of Percents (Some x) (Some y) (Some w) o) (decimal_of_complete d h fourth)

region_of_pixels_complete : (text a b c d : List ℕ) (x y w h : ℕ) → IsWhole a x → IsWhole b y → IsWhole c w → IsWhole d h
    → text ≡ a ++ codes "," ++ b ++ codes "," ++ c ++ codes "," ++ d → region_of text ≡ Some (Pixels x y w h)
region_of_pixels_complete text a b c d x y w h first second third fourth e =
    let head = IsDigits_head 9 a first.0 in
    let tail : List ℕ = 44 ∷ (b ++ 44 ∷ (c ++ 44 ∷ d)) in
    let begins : a ++ tail ≡ head.0 ∷ (head.1 ++ tail) = ap (λ (t : List ℕ). t ++ tail) head.2 in
    ap region_of (e ∙ regroup a b c d ∙ begins)
    ∙ region_of_digit head.0 (head.1 ++ tail) head.3
    ∙ ap (λ (t : List ℕ). pixels_of (parts_of t)) (sym begins)
    ∙ ap pixels_of (parts_of_complete a b c d (IsDigits_lacks 44 9 a refl first.0) (IsDigits_lacks 44 9 b refl second.0) (IsDigits_lacks
    44 9 c refl third.0))
    ∙ pixels_of_four a b c d x y w h first second third fourth

region_of_percents_complete : (text a b c d : List ℕ) (x y w h : Decimal) → IsDecimal a x → IsDecimal b y → IsDecimal c w → IsDecimal d h
    → text ≡ codes "pct:" ++ a ++ codes "," ++ b ++ codes "," ++ c ++ codes "," ++ d → region_of text ≡ Some (Percents x y w h)
region_of_percents_complete text a b c d x y w h first second third fourth e =
    ap region_of (e ∙ regroup_behind (codes "pct:") a b c d)
    ∙ region_of_percents (a ++ 44 ∷ (b ++ 44 ∷ (c ++ 44 ∷ d)))
    ∙ ap percents_of (parts_of_complete a b c d (IsDecimal_lacks 44 a x refl (λ same. cc) first) (IsDecimal_lacks 44 b y refl (λ same. cc)
    second)
    (IsDecimal_lacks 44 c w refl (λ same. cc) third))
    ∙ percents_of_four a b c d x y w h first second third fourth

-- A region that is spelled is read.
pub region_of_complete : (text : List ℕ) (r : Region) → SpellsRegion text r → region_of text ≡ Some r
region_of_complete text Full s = ap region_of s ∙ region_of_full
region_of_complete text Square s = ap region_of s ∙ region_of_square
region_of_complete text (Pixels x y w h) s = region_of_pixels_complete text s.0 s.1 s.2 s.3 x y w h s.4 s.5 s.6 s.7 s.8
region_of_complete text (Percents x y w h) s = region_of_percents_complete text s.0 s.1 s.2 s.3 x y w h s.4 s.5 s.6 s.7 s.8
