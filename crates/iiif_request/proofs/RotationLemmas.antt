-- Rotations: reading is sound and complete.
use Rattle.std.proofs.Common.{◌≡◌, ℕ, ◌*◌, ◌≤◌, ◌⊎◌, Bool, true, false, List, [], ◌∷◌, ◌++◌, drop, refl, sym, ap, ◌∙◌, subst, arith, Some}
use Rattle.std.proofs.Common.{None, Option, inl, inr, ⊎_elim, append_assoc, append-nil, codes, ◌||◌}
use Rattle.std.specs.Prelude.{nat_eq}
use Rattle.std.specs.List.{starts_with}
use Rattle.std.proofs.lemmas.Bool.{eqb-true, eq-eqb, or_cases, or_left, or_right}
use Rattle.std.proofs.lemmas.Option.{none-some, cond_some}
use Rattle.iiif_request.specs.declared.request.Decimal.{Decimal}
use Rattle.iiif_request.specs.declared.request.Rotation.{Rotation}
use Rattle.iiif_request.specs.Code.{decimal_of, is_value, is_quarters, turned_of, rotation_of}
use Rattle.iiif_request.specs.Spells.{IsDigits, IsDecimal, IsQuarters, SpellsRotation, mark}
use Rattle.iiif_request.proofs.OptionLemmas.{cond_some_cases}
use Rattle.iiif_request.proofs.NumberLemmas.{decimal_of_sound, decimal_of_complete}
use Rattle.iiif_request.proofs.RegionLemmas.{starts_with_true, eqb_other_digit, IsDigits_head}

IsQuarters_at : (k : ℕ) (d : Decimal) → k ≤ 4 → is_value d (90 * k) ≡ true → IsQuarters d
IsQuarters_at k d few h = (k, few, eqb-true _ _ h)

-- Degrees that pass the test are a multiple of 90, at most 360.
pub is_quarters_sound : (d : Decimal) → is_quarters d ≡ true → IsQuarters d
unfolding is_quarters
is_quarters_sound d h = ⊎_elim
    (λ most. ⊎_elim
    (λ more. ⊎_elim
    (λ some. ⊎_elim
    (λ none. IsQuarters_at 0 d (omega arith) none)
    (λ one. IsQuarters_at 1 d (omega arith) one)
    (or_cases _ _ some))
    (λ two. IsQuarters_at 2 d (omega arith) two)
    (or_cases _ _ more))
    (λ three. IsQuarters_at 3 d (omega arith) three)
    (or_cases _ _ most))
    (λ four. IsQuarters_at 4 d (omega arith) four)
    (or_cases _ _ h)

five_cases : (k : ℕ) → k ≤ 4 → (k ≡ 0) ⊎ ((k ≡ 1) ⊎ ((k ≡ 2) ⊎ ((k ≡ 3) ⊎ (k ≡ 4))))
five_cases k few = grind arith

is_quarters_at : (d : Decimal) (k : ℕ) → (k ≡ 0) ⊎ ((k ≡ 1) ⊎ ((k ≡ 2) ⊎ ((k ≡ 3) ⊎ (k ≡ 4)))) → is_value d (90 * k) ≡ true →
    is_quarters d ≡ true
unfolding is_quarters
is_quarters_at d k (inl e) h = or_left _ _ (or_left _ _ (or_left _ _ (or_left _ _ (ap (λ n. is_value d (90 * n)) (sym e) ∙ h))))
is_quarters_at d k (inr (inl e)) h = or_left _ _
    (or_left _ _ (or_left _ _ (or_right (is_value d 0) _ (ap (λ n. is_value d (90 * n)) (sym e) ∙ h))))
is_quarters_at d k (inr (inr (inl e))) h = or_left _ _
    (or_left _ _ (or_right (is_value d 0 || is_value d 90) _ (ap (λ n. is_value d (90 * n)) (sym e) ∙ h)))
is_quarters_at d k (inr (inr (inr (inl e)))) h =
    or_left _ _ (or_right (is_value d 0 || is_value d 90 || is_value d 180) _ (ap (λ n. is_value d (90 * n)) (sym e) ∙ h))
is_quarters_at d k (inr (inr (inr (inr e)))) h =
    or_right (is_value d 0 || is_value d 90 || is_value d 180 || is_value d 270) _ (ap (λ n. is_value d (90 * n)) (sym e) ∙ h)

-- A multiple of 90, at most 360, passes the test.
pub is_quarters_complete : (d : Decimal) → IsQuarters d → is_quarters d ≡ true
is_quarters_complete d q = is_quarters_at d q.0 (five_cases q.0 q.1) (eq-eqb _ _ q.2)

turned_of_sound : (mirror : Bool) (text degrees : List ℕ) (t : Rotation) (o : Option Decimal) → decimal_of degrees ≡ o →
    text ≡ mark mirror (codes "!") ++ degrees
    → turned_of mirror o ≡ Some t → SpellsRotation text t
turned_of_sound mirror text degrees t None e front h = absurd (none-some t h)
turned_of_sound mirror text degrees t (Some d) e front h =
    let n = cond_some (is_quarters d) (record { mirror = mirror; degrees = d }) t h in
    subst (SpellsRotation text) n.1 (degrees, decimal_of_sound degrees d e, is_quarters_sound d n.0, front)

-- A rotation that is read is spelled by its text.
pub rotation_of_sound : (text : List ℕ) (t : Rotation) → rotation_of text ≡ Some t → SpellsRotation text t
unfolding rotation_of
rotation_of_sound text t h = ⊎_elim
    (λ mirrored. turned_of_sound true text (drop 1 text) t (decimal_of (drop 1 text)) refl (starts_with_true text (codes "!") mirrored.0)
    mirrored.1)
    (λ plain. turned_of_sound false text text t (decimal_of text) refl refl plain.1)
    (cond_some_cases (starts_with nat_eq text (codes "!")) (turned_of true (decimal_of (drop 1 text))) (turned_of false (decimal_of text))
    t h)

-- a decimal begins with a digit
IsDigits_no_mark : (text w rest : List ℕ) (most : ℕ) → IsDigits most w → text ≡ w ++ rest → starts_with nat_eq text (codes "!") ≡ false
IsDigits_no_mark text w rest most s e =
    let head = IsDigits_head most w s in
    let differs = eqb_other_digit head.0 33 head.3 refl in
    ap (λ (t : List ℕ). starts_with nat_eq t (codes "!")) (e ∙ ap (λ (t : List ℕ). t ++ rest) head.2) ∙ rw differs refl

IsDecimal_no_mark : (text : List ℕ) (d : Decimal) → IsDecimal text d → starts_with nat_eq text (codes "!") ≡ false
IsDecimal_no_mark text d (inl s) = IsDigits_no_mark text text [] 9 s.0.0 (sym (append-nil text))
IsDecimal_no_mark text d (inr s) = IsDigits_no_mark text s.0 (46 ∷ s.1) 9 s.2 (s.4 ∙ append_assoc s.0 (codes ".") s.1)

rotation_of_marked : (degrees : List ℕ) → rotation_of (33 ∷ degrees) ≡ turned_of true (decimal_of degrees)
unfolding rotation_of
rotation_of_marked degrees = refl

rotation_of_plain : (degrees : List ℕ) → starts_with nat_eq degrees (codes "!") ≡ false →
    rotation_of degrees ≡ turned_of false (decimal_of degrees)
unfolding rotation_of
rotation_of_plain degrees no_mark = rw no_mark refl

turned_of_complete : (mirror : Bool) (degrees : List ℕ) (d : Decimal) → IsDecimal degrees d → IsQuarters d →
    turned_of mirror (decimal_of degrees) ≡ Some (record { mirror = mirror; degrees = d })
turned_of_complete mirror degrees d s q =
    let quarters : is_quarters d ≡ true = is_quarters_complete d q in
    ap (turned_of mirror) (decimal_of_complete degrees d s) ∙ rw quarters refl

rotation_of_by_mark : (mirror : Bool) (text degrees : List ℕ) (d : Decimal) → IsDecimal degrees d → IsQuarters d →
    text ≡ mark mirror (codes "!") ++ degrees
    → rotation_of text ≡ Some (record { mirror = mirror; degrees = d })
rotation_of_by_mark true text degrees d s q e = ap rotation_of e ∙ rotation_of_marked degrees ∙ turned_of_complete true degrees d s q
rotation_of_by_mark false text degrees d s q e = ap rotation_of e ∙ rotation_of_plain degrees (IsDecimal_no_mark degrees d s) ∙
    turned_of_complete false degrees d s q

-- A rotation that is spelled is read.
pub rotation_of_complete : (text : List ℕ) (t : Rotation) → SpellsRotation text t → rotation_of text ≡ Some t
rotation_of_complete text t s = rotation_of_by_mark t.mirror text s.0 t.degrees s.1 s.2 s.3
