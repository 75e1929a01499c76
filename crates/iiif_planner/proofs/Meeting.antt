-- Which squares of a grid a region meets, and that their parts of it cut it.
use Rattle.std.proofs.Common.{◌≡◌, ℕ, ◌+◌, ◌-◌, ◌*◌, ◌/◌, ◌<◌, ◌≤◌, true, map, sym, ap, ◌∙◌, arith, ⊎_elim}
use Rattle.std.specs.Prelude.{nat_lt, ◌&&◌, ◌==◌}
use Rattle.std.specs.Int.{div_ceil}
use Rattle.std.proofs.Math.Nat.{mul-le-mul_right}
use Rattle.std.proofs.lemmas.Nat.{div-add-mod', div-mul-add, div_below, mod_below}
use Rattle.std.proofs.lemmas.Bool.{cases_lt, and_from, lt-ltb, ltb-true, eqb-true, and_parts, eq-eqb}
use Rattle.iiif_pixel.specs.Geometry.{sides_of}
use Rattle.iiif_pixel.specs.Scaling.{whole_of}
use Rattle.iiif_pixel.specs.declared.geometry.Rect.{Rect}
use Rattle.iiif_area.specs.Places.{part_of, Meets}
use Rattle.iiif_area.specs.Grid.{has_place}
use Rattle.iiif_area.specs.Laws.{IsCutInto}
use Rattle.iiif_area.proofs.GridLaws.{has_place-tested}
use Rattle.iiif_area.proofs.PlaceLaws.{div_ceil-le, part_is_common}
use Rattle.iiif_area.proofs.WeightLaws.{div_ceil-times}
use Rattle.iiif_keys.specs.Blocks.{square}
use Rattle.iiif_keys.proofs.Cuts.{alike, one_if, within, within_yes}
use Rattle.iiif_planner.specs.Items.{each_square, squares_met}
use Rattle.iiif_planner.proofs.Counts.{each_count, count_mapped}

-- the column of squares that has a column
pub column_is : (s i x : ℕ) → i * s ≤ x → x < i * s + s → x / s ≡ i
column_is s i x a b =
    let e : i * s + (x - i * s) ≡ x = omega arith in
    ap (λ (n : ℕ). n / s) (sym e) ∙ div-mul-add i s (x - i * s) (omega arith)

-- it begins at or before that, and ends behind it
pub column_has : (s x : ℕ) → 0 < s → (x / s * s ≤ x) × (x < x / s * s + s)
column_has s x p =
    let e = div-add-mod' x s in
    let l = mod_below x s p in
    (omega arith, omega arith)

pub first_met : (s x i : ℕ) → 0 < s → x / s ≤ i → x < i * s + s
first_met s x i p h =
    let m : x / s * s ≤ i * s = mul-le-mul_right s h in
    let c = column_has s x p in
    omega arith

pub met_first : (s x i : ℕ) → 0 < s → x < i * s + s → x / s ≤ i
met_first s x i p h =
    let l : x / s < i + 1 = div_below x s (i + 1) p (omega arith) in
    omega arith

pub last_met : (s e i : ℕ) → 0 < s → i < div_ceil e s → i * s < e
last_met s e i p h =
    ⊎_elim
    (λ (l : i * s < e). l)
    (λ (l : e ≤ i * s). let c : div_ceil e s ≤ i = div_ceil-le e s i p l in absurd (omega arith))
    (cases_lt (i * s) e)

pub met_last : (s e i : ℕ) → 0 < s → i * s < e → i < div_ceil e s
met_last s e i p h =
    ⊎_elim
    (λ (l : i < div_ceil e s). l)
    (λ (l : div_ceil e s ≤ i).
    let m : div_ceil e s * s ≤ i * s = mul-le-mul_right s l in
    let c = div_ceil-times e s p in
    absurd (omega arith))
    (cases_lt i (div_ceil e s))

-- a square of those met has a place of the region
pub square_meets : (s : ℕ) (g : Rect) (i j : ℕ) → 0 < s → 0 < g.w → 0 < g.h → g.x / s ≤ i → i < div_ceil (g.x + g.w) s → g.y / s ≤ j →
    j < div_ceil (g.y + g.h) s →
    Meets (square s i j) g
square_meets s g i j p w h a b c d =
    let x1 = first_met s g.x i p a in
    let x2 = last_met s (g.x + g.w) i p b in
    let y1 = first_met s g.y j p c in
    let y2 = last_met s (g.y + g.h) j p d in
    record { columns = omega arith; rows = omega arith }

-- a place of the region is one of just one square
pub place_in : (s : ℕ) (g : Rect) (i j x y : ℕ) → 0 < s →
    has_place (part_of (square s i j) g) x y ≡ ((nat_lt x g.w && nat_lt y g.h) && (i == (g.x + x) / s && j == (g.y + y) / s))
place_in s g i j x y p =
    let t = square s i j in
    alike _ _
    (λ h. let q = (part_is_common t g x y).0 ((has_place-tested (part_of t g) x y).0 h) in
    and_from _ _ (and_from _ _ (lt-ltb x g.w q.0) (lt-ltb y g.h q.1))
    (and_from _ _ (eq-eqb i _ (sym (column_is s i (g.x + x) q.2.0 q.2.1))) (eq-eqb j _ (sym (column_is s j (g.y + y) q.2.2 q.2.3)))))
    (λ h. let q = and_parts (nat_lt x g.w && nat_lt y g.h) (i == (g.x + x) / s && j == (g.y + y) / s) h in
    let inside = and_parts (nat_lt x g.w) (nat_lt y g.h) q.0 in
    let at = and_parts (i == (g.x + x) / s) (j == (g.y + y) / s) q.1 in
    let column : i * s ≡ (g.x + x) / s * s = ap (λ (n : ℕ). n * s) (eqb-true i _ at.0) in
    let row : j * s ≡ (g.y + y) / s * s = ap (λ (n : ℕ). n * s) (eqb-true j _ at.1) in
    let a = column_has s (g.x + x) p in
    let b = column_has s (g.y + y) p in
    (has_place-tested (part_of t g) x y).1 ((part_is_common t g x y).1
    (ltb-true x g.w inside.0, ltb-true y g.h inside.1, (omega arith, omega arith, omega arith, omega arith))))

-- the column of squares that has a column of the region is one of those met
column_met : (s x w t : ℕ) → 0 < s → t < w → within (x / s) (div_ceil (x + w) s - x / s) ((x + t) / s) ≡ true
column_met s x w t p l =
    let c = column_has s (x + t) p in
    let first : x / s ≤ (x + t) / s = met_first s x ((x + t) / s) p (omega arith) in
    let last : (x + t) / s < div_ceil (x + w) s = met_last s (x + w) ((x + t) / s) p (omega arith) in
    within_yes _ _ _ first (omega arith)

-- each place of the region is one of just one of the squares met
place_met : (s : ℕ) (g : Rect) (x y : ℕ) → 0 < s →
    ((nat_lt x g.w && nat_lt y g.h)
    && (within (g.x / s) (div_ceil (g.x + g.w) s - g.x / s) ((g.x + x) / s) && within (g.y / s) (div_ceil (g.y + g.h) s - g.y / s)
    ((g.y + y) / s)))
    ≡ has_place (whole_of (sides_of g)) x y
place_met s g x y p =
    alike _ _
    (λ h. let q = and_parts (nat_lt x g.w && nat_lt y g.h) _ h in
    let inside = and_parts (nat_lt x g.w) (nat_lt y g.h) q.0 in
    let a = ltb-true x g.w inside.0 in
    let b = ltb-true y g.h inside.1 in
    (has_place-tested (whole_of (sides_of g)) x y).1 (omega arith, omega arith, omega arith, omega arith))
    (λ h. let q = (has_place-tested (whole_of (sides_of g)) x y).0 h in
    let a : x < g.w = omega arith in
    let b : y < g.h = omega arith in
    and_from _ _ (and_from _ _ (lt-ltb x g.w a) (lt-ltb y g.h b)) (and_from _ _ (column_met s g.x g.w x p a) (column_met s g.y g.h y p b)))

-- so the squares' parts of the region cut it
pub squares_cut : {K : Type 0} (s : ℕ) (g : Rect) (f : ℕ → ℕ → K) (part : K → Rect) → 0 < s →
    ((i j : ℕ) → part (f i j) ≡ part_of (square s i j) g) →
    IsCutInto (whole_of (sides_of g)) (map part (each_square f (squares_met s g)))
squares_cut s g f part p e x y =
    let keys = each_square f (squares_met s g) in
    count_mapped (λ r. has_place r x y) part keys
    ∙ (each_count f (λ k. has_place (part k) x y) (nat_lt x g.w && nat_lt y g.h) ((g.x + x) / s) ((g.y + y) / s) (squares_met s g)
    (λ i j. ap (λ (r : Rect). has_place r x y) (e i j) ∙ place_in s g i j x y p)
    ∙ ap one_if (place_met s g x y p))
