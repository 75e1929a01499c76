-- The laws of levels.
use Rattle.std.proofs.Common.{◌≡◌, ℕ, ◌+◌, ◌-◌, ◌*◌, ◌/◌, ◌^◌, ◌<◌, ◌≤◌, ◌⊎◌, Bool, true, false, sym, subst, arith, ⊎_elim}
use Rattle.std.specs.Prelude.{IsTrue, nat_le, not, ◌↔◌}
use Rattle.std.specs.Int.{div_ceil}
use Rattle.std.proofs.Math.Nat.{mul-le-mul, mul-le-mul_right, le_trans}
use Rattle.std.proofs.lemmas.Nat.{div-add-mod', mod_below}
use Rattle.std.proofs.Math.Pow.{pow_mono}
use Rattle.std.proofs.lemmas.Bool.{cases_lt, le-leb, leb-true}
use Rattle.iiif_pixel.specs.declared.geometry.Dim.{Dim}
use Rattle.iiif_area.proofs.PlaceLaws.{div_ceil-le}
use Rattle.iiif_area.proofs.WeightLaws.{div_ceil-times}
use Rattle.iiif_keys.specs.Blocks.{IsEdge}
use Rattle.iiif_planner.specs.Levels.{met_at_most, sums_at_most, HoldsImage, IsLevel, IsUsable}

-- where the block of a level holds the image, so does that of a higher one
holds_above : (edge : ℕ) (image : Dim) (lower level : ℕ) → lower ≤ level → HoldsImage edge image lower → HoldsImage edge image level
holds_above edge image lower level l h =
    let p : 2 ^ lower ≤ 2 ^ level = pow_mono l in
    let e : 2 ^ lower * edge ≤ 2 ^ level * edge = mul-le-mul_right edge p in
    le_trans h e

-- a level is needed where the one below doesn't hold the image
pub needed_from_below : (edge : ℕ) (image : Dim) (level : ℕ) → (level ≡ 0) ⊎ (¬ (HoldsImage edge image (level - 1))) → (lower : ℕ) →
    HoldsImage edge image lower → level ≤ lower
needed_from_below edge image level below lower h =
    ⊎_elim
    (λ (l : lower < level). ⊎_elim
    (λ (z : level ≡ 0). omega arith)
    (λ (n : ¬ (HoldsImage edge image (level - 1))). absurd (n (holds_above edge image lower (level - 1) (omega arith) h)))
    below)
    (λ (l : level ≤ lower). l)
    (cases_lt lower level)

-- a test that a test is false is true where that is false
pub not_tested : (needed holds : Bool) → needed ≡ not holds → needed ≡ true → ¬ (IsTrue holds)
not_tested needed true e t h = cc
not_tested needed false e t h = cc

-- what is left to test of a level that is needed
pub usable_tested : (edge : ℕ) (image region size : Dim) (channels room level sums : ℕ) → level ≤ 20 →
    ((lower : ℕ) → HoldsImage edge image lower → level ≤ lower) →
    sums ≡ sums_at_most edge level region size channels → IsTrue (nat_le sums room) ↔ IsUsable edge image region size channels room level
usable_tested edge image region size channels room level sums few needed e = (
  λ h. record { few = few; needed = needed; within = subst (λ (n : ℕ). n ≤ room) e (leb-true sums room h) },
  λ u. le-leb sums room (subst (λ (n : ℕ). n ≤ room) (sym e) u.within),
)

-- n columns, no more than the side s, meet at most so many result columns
pub places_met : (s a c x n : ℕ) → 0 < a → n ≤ s → div_ceil ((x + n) * c) a - x * c / a ≤ div_ceil (s * c) a + 1
places_met s a c x n p h =
    let before = div-add-mod' (x * c) a in
    let rest = mod_below (x * c) a p in
    let own : n * c ≤ s * c = mul-le-mul_right c h in
    let most = div_ceil-times (s * c) a p in
    let end : div_ceil ((x + n) * c) a ≤ x * c / a + 1 + div_ceil (s * c) a =
    div_ceil-le ((x + n) * c) a (x * c / a + 1 + div_ceil (s * c) a) p (omega arith) in
    omega arith

-- how many sums a planned block has at most: those of three channels at 1,025 by 1,025 places
abbrev pub most_sums : ℕ
most_sums = 1025 * 1025 * 3

-- a block of level 0 meets at most 1,025 result columns
met_lowest : (edge a c : ℕ) → edge ≤ 1024 → 0 < a → c ≤ a → met_at_most edge 0 a c ≤ 1025
met_lowest edge a c e p h =
    let m : edge * c ≤ 1024 * a = mul-le-mul e h in
    let d : div_ceil (2 ^ 0 * edge * c) a ≤ 1024 = div_ceil-le (2 ^ 0 * edge * c) a 1024 p (omega arith) in
    omega arith

pub level_limits : (edge : ℕ) (image region size : Dim) (channels room level : ℕ) → IsEdge edge → room ≤ 65536 → channels ≤ 3 →
    (0 < size.w) × (size.w ≤ region.w) →
    (0 < size.h) × (size.h ≤ region.h) → IsLevel edge image region size channels room level →
    sums_at_most edge level region size channels ≤ most_sums
level_limits edge image region size channels room level e small few columns rows is =
    ⊎_elim
    (λ (u : IsUsable edge image region size channels room level ×
    ((other : ℕ) → IsUsable edge image region size channels room other → other ≤ level)).
    le_trans u.0.within (omega arith))
    (λ (n : (level ≡ 0) × ((other : ℕ) → ¬ (IsUsable edge image region size channels room other))).
    let w : met_at_most edge 0 region.w size.w ≤ 1025 = met_lowest edge region.w size.w e.within (omega arith) columns.1 in
    let h : met_at_most edge 0 region.h size.h ≤ 1025 = met_lowest edge region.h size.h e.within (omega arith) rows.1 in
    let all : sums_at_most edge 0 region size channels ≤ most_sums = mul-le-mul (mul-le-mul w h) few in
    subst (λ (l : ℕ). sums_at_most edge l region size channels ≤ most_sums) (sym n.0) all)
    is
