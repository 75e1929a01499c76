-- The level of a plan is the greatest that passes a test.
use Rattle.std.proofs.Common.{◌≡◌, ℕ, zero, suc, ◌-◌, ◌*◌, ◌^◌, ◌<◌, ◌≤◌, ◌⊎◌, inl, inr, Bool, true, false, refl, sym, subst, ◌∙◌, arith}
use Rattle.std.proofs.Common.{⊎_elim, max}
use Rattle.std.specs.Cmp.Derive.{both_true}
use Rattle.std.specs.Prelude.{◌↔◌, ◌||◌, ◌==◌, not, nat_le, if◌then◌else◌}
use Rattle.std.proofs.lemmas.Bool.{cases_lt, eqb-true, false≢true, leb-true, le-leb, and_parts}
use Rattle.iiif_pixel.specs.declared.geometry.Dim.{Dim}
use Rattle.iiif_keys.proofs.Derived.{above_zero}
use Rattle.iiif_planner.specs.Levels.{sums_at_most, HoldsImage, IsLevel, IsUsable}
use Rattle.iiif_planner.specs.Items.{greatest, is_usable}
use Rattle.iiif_planner.proofs.LevelLaws.{needed_from_below}

-- the greatest that passes passes, or is 0, and is within the bound; and none that passes is above it
pub greatest_cases : (test : ℕ → Bool) (n : ℕ) → (test (greatest test n) ≡ true) ⊎ (greatest test n ≡ 0)
unfolding greatest
greatest_cases test zero = inr refl
greatest_cases test (suc n) = (elim (test (suc n)) as
    (λ b. test (suc n) ≡ b → (test (if b then suc n else greatest test n) ≡ true) ⊎ ((if b then suc n else greatest test n) ≡ 0)) [
      | true ↦ λ e. inl e
      | false ↦ λ e. greatest_cases test n
    ]) refl

pub greatest_within : (test : ℕ → Bool) (n : ℕ) → greatest test n ≤ n
unfolding greatest
greatest_within test zero = omega arith
greatest_within test (suc n) = elim (test (suc n)) as (λ b. (if b then suc n else greatest test n) ≤ suc n) [
  | true ↦ omega arith
  | false ↦ let h = greatest_within test n in omega arith
]

same_or_below : (m n : ℕ) → m ≤ suc n → (m ≡ suc n) ⊎ (m ≤ n)
same_or_below m n h = ⊎_elim (λ (l : m ≤ n). inr l) (λ (l : n < m). inl (omega arith))
    (⊎_elim (λ (l : n < m). inr l) (λ (l : m ≤ n). inl l) (cases_lt n m))

none_above : (test : ℕ → Bool) (n m : ℕ) → m ≤ n → test m ≡ true → m ≤ greatest test n
unfolding greatest
none_above test zero m h e = omega arith
none_above test (suc n) m h e = (elim (test (suc n)) as (λ b. test (suc n) ≡ b → m ≤ (if b then suc n else greatest test n)) [
  | true ↦ λ t. h
  | false ↦ λ t. ⊎_elim
      (λ (same : m ≡ suc n). absurd (false≢true (sym t ∙ subst (λ (k : ℕ). test k ≡ true) same e)))
      (λ (l : m ≤ n). none_above test n m l e)
      (same_or_below m n h)
]) refl

-- the test of a level, and what it tests
needed_true : (edge : ℕ) (image : Dim) (level : ℕ) → (level == 0 || not (nat_le (max image.w image.h) (2 ^ (level - 1) * edge))) ≡ true →
    (level ≡ 0) ⊎ (¬ (HoldsImage edge image (level - 1)))
needed_true edge image level h = (elim (level == 0) as
    (λ b. (level == 0) ≡ b → (b || not (nat_le (max image.w image.h) (2 ^ (level - 1) * edge))) ≡ true → (level ≡ 0) ⊎
    (¬ (HoldsImage edge image (level - 1)))) [
      | true ↦ λ e t. inl (eqb-true level 0 e)
      | false ↦ λ e t. inr (λ held. let holds = le-leb (max image.w image.h) (2 ^ (level - 1) * edge) held in cc)
    ]) refl h

true_needed : (edge : ℕ) (image : Dim) (level : ℕ) → ((lower : ℕ) → HoldsImage edge image lower → level ≤ lower) →
    (level == 0 || not (nat_le (max image.w image.h) (2 ^ (level - 1) * edge))) ≡ true
true_needed edge image level needed = (elim (level == 0) as
    (λ b. (level == 0) ≡ b → (b || not (nat_le (max image.w image.h) (2 ^ (level - 1) * edge))) ≡ true) [
      | true ↦ λ e. refl
      | false ↦ λ e. (elim (nat_le (max image.w image.h) (2 ^ (level - 1) * edge)) as
          (λ c. nat_le (max image.w image.h) (2 ^ (level - 1) * edge) ≡ c → (false || not c) ≡ true) [
            | true ↦ λ h. let above = above_zero level e in let low : level ≤ level - 1 = needed (level - 1) (leb-true _ _ h) in
                absurd (omega arith)
            | false ↦ λ h. refl
          ]) refl
    ]) refl

usable : (edge : ℕ) (image region size : Dim) (channels room level : ℕ) → level ≤ 20 →
    is_usable edge image region size channels room level ≡ true →
    IsUsable edge image region size channels room level
usable edge image region size channels room level few h =
    let t = and_parts (level == 0 || not (nat_le (max image.w image.h) (2 ^ (level - 1) * edge)))
    (nat_le (sums_at_most edge level region size channels) room) h in
    record { few = few; needed = needed_from_below edge image level (needed_true edge image level t.0); within = leb-true _ _ t.1 }

tested : (edge : ℕ) (image region size : Dim) (channels room level : ℕ) → IsUsable edge image region size channels room level →
    is_usable edge image region size channels room level ≡ true
tested edge image region size channels room level u =
    both_true (true_needed edge image level u.needed) (le-leb _ _ u.within)

-- for any test that says which levels up to 20 may be planned with
greatest_is : (U : ℕ → Type 0) (test : ℕ → Bool) → ((l : ℕ) → l ≤ 20 → test l ≡ true → U l) → ((l : ℕ) → U l → test l ≡ true) →
    ((l : ℕ) → U l → l ≤ 20) → (level : ℕ) →
    ((U level × ((other : ℕ) → U other → other ≤ level)) ⊎ ((level ≡ 0) × ((other : ℕ) → ¬ (U other)))) ↔ (level ≡ greatest test 20)
greatest_is U test from_test to_test few level =
    let g = greatest test 20 in
    let top : g ≤ 20 = greatest_within test 20 in
    let above : (l : ℕ) → U l → l ≤ g = λ l u. none_above test 20 l (few l u) (to_test l u) in (
      λ is. ⊎_elim
          (λ (is_greatest : U level × ((other : ℕ) → U other → other ≤ level)).
          let low : level ≤ g = above level is_greatest.0 in
          ⊎_elim
          (λ (t : test g ≡ true). let high : g ≤ level = is_greatest.1 g (from_test g top t) in omega arith)
          (λ (z : g ≡ 0). omega arith)
          (greatest_cases test 20))
          (λ (none : (level ≡ 0) × ((other : ℕ) → ¬ (U other))). ⊎_elim
          (λ (t : test g ≡ true). absurd (none.1 g (from_test g top t)))
          (λ (z : g ≡ 0). none.0 ∙ sym z)
          (greatest_cases test 20))
          is,
      λ e. subst (λ (n : ℕ). (U n × ((other : ℕ) → U other → other ≤ n)) ⊎ ((n ≡ 0) × ((other : ℕ) → ¬ (U other)))) (sym e)
          ((elim (test g) as (λ b. test g ≡ b → (U g × ((other : ℕ) → U other → other ≤ g)) ⊎ ((g ≡ 0) × ((other : ℕ) → ¬ (U other)))) [
            | true ↦ λ t. inl (from_test g top t, above)
            | false ↦ λ t.
                let z : g ≡ 0 = ⊎_elim (λ (p : test g ≡ true). absurd (false≢true (sym t ∙ p))) (λ (p : g ≡ 0). p) (greatest_cases test 20)
                in
                inr (
                  z,
                  λ other u.
                      let low = above other u in
                      let same : other ≡ g = omega arith in
                      false≢true (sym t ∙ subst (λ (n : ℕ). test n ≡ true) same (to_test other u)),
                )
          ]) refl),
    )

pub level_greatest : (edge : ℕ) (image region size : Dim) (channels room level : ℕ) →
    IsLevel edge image region size channels room level ↔ (level ≡ greatest (is_usable edge image region size channels room) 20)
level_greatest edge image region size channels room level =
    greatest_is (IsUsable edge image region size channels room) (is_usable edge image region size channels room)
    (usable edge image region size channels room) (tested edge image region size channels room) (λ l u. u.few) level
