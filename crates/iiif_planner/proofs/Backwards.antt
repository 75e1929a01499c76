-- Scaling looked at backwards: the squares of a region that places of its scaled result are made of.
use Rattle.std.proofs.Common.{◌≡◌, ℕ, ◌+◌, ◌-◌, ◌*◌, ◌/◌, ◌<◌, ◌≤◌, ◌⊎◌, Bool, false, max, min, refl, sym, ap, ◌∙◌, arith, ⊎_elim}
use Rattle.std.specs.Prelude.{nat_le, nat_lt, ◌&&◌}
use Rattle.std.specs.Int.{div_ceil}
use Rattle.std.proofs.Math.Nat.{mul-le-mul_right}
use Rattle.std.proofs.lemmas.Nat.{div_below, div-mul-add}
use Rattle.std.proofs.lemmas.Bool.{cases_lt, and_from, and_parts, false_from_ne_true, le-leb, lt-ltb, leb-true, ltb-true}
use Rattle.iiif_pixel.specs.Geometry.{sides_of, LiesIn}
use Rattle.iiif_pixel.specs.declared.geometry.Dim.{Dim}
use Rattle.iiif_pixel.specs.declared.geometry.Rect.{Rect}
use Rattle.iiif_area.specs.Places.{part_of, places_of}
use Rattle.iiif_area.proofs.PlaceLaws.{div_ceil-le}
use Rattle.iiif_area.proofs.WeightLaws.{div_ceil-times}
use Rattle.iiif_keys.specs.Blocks.{square}
use Rattle.iiif_keys.proofs.Cuts.{alike}
use Rattle.iiif_planner.specs.Items.{each_square, squares_met}
use Rattle.iiif_planner.specs.Bands.{places_from}
use Rattle.iiif_planner.specs.Code.{have_common, place_among, source_of}
use Rattle.iiif_planner.proofs.Meeting.{column_has, first_met, last_met, met_first, met_last}
use Rattle.iiif_planner.proofs.Runs.{between, squares_places}

-- Result columns f to f + w - 1 of a columns that are scaled to c are made of columns V to U - 1, where a run of columns u to v - 1
-- has some of them just where its result columns have.
record IsReached (a c f w u v : ℕ) : Type 0 where
  first : f * a / c < v
  last : u < div_ceil ((f + w) * a) c

reached_from : (a c f w u v : ℕ) → 0 < a → 0 < c → f < div_ceil (v * c) a → u * c / a < f + w → IsReached a c f w u v
reached_from a c f w u v p q h k =
    let e : f * a < v * c = last_met a (v * c) f p h in
    let x = column_has a (u * c) p in
    let m : (u * c / a + 1) * a ≤ (f + w) * a = mul-le-mul_right a (omega arith) in
    let l : u * c < (f + w) * a = omega arith in
    record { first = div_below (f * a) c v q e; last = met_last c ((f + w) * a) u q l }

reached_to : (a c f w u v : ℕ) → 0 < a → 0 < c → IsReached a c f w u v → (f < div_ceil (v * c) a) × (u * c / a < f + w)
reached_to a c f w u v p q is =
    let x = column_has c (f * a) q in
    let one = is.first in
    let m : (f * a / c + 1) * c ≤ v * c = mul-le-mul_right c (omega arith) in
    let e : f * a < v * c = omega arith in
    let l : u * c < (f + w) * a = last_met c ((f + w) * a) u q is.last in
    (met_last a (v * c) f p e, div_below (u * c) a (f + w) p l)

-- the columns that result columns are made of are some, and among all
source_within : (a c f w : ℕ) → 0 < a → 0 < c → 0 < w → f + w ≤ c →
    (f * a / c < a) × (f * a / c < div_ceil ((f + w) * a) c) × (div_ceil ((f + w) * a) c ≤ a)
source_within a c f w p q some inside =
    let m : (f + 1) * a ≤ c * a = mul-le-mul_right a (omega arith) in
    let n : (f + 1) * a ≤ (f + w) * a = mul-le-mul_right a (omega arith) in
    let o : (f + w) * a ≤ c * a = mul-le-mul_right a inside in
    let t = div_ceil-times ((f + w) * a) c q in (
      div_below (f * a) c a q (omega arith),
      div_below (f * a) c (div_ceil ((f + w) * a) c) q (omega arith),
      div_ceil-le ((f + w) * a) c a q (omega arith),
    )

-- Columns i * s to i * s + s - 1 of the a columns from x on, and those that result columns f to f + w - 1 are made of.
pub along : (s x a c f w i : ℕ) → 0 < s → 0 < a → 0 < c → 0 < w → f + w ≤ c → x / s ≤ i → i < div_ceil (x + a) s →
    nat_lt 0 (min ((max (i * s) x - x) * c / a + (div_ceil ((max (i * s) x - x + (min (i * s + s) (x + a) - max (i * s) x)) * c) a
    - (max (i * s) x - x) * c / a)) (f + w) - max ((max (i * s) x - x) * c / a) f)
    ≡ between ((x + f * a / c) / s) (div_ceil (x + f * a / c + (div_ceil ((f + w) * a) c - f * a / c)) s) i
along s x a c f w i ps pa pc some inside low high =
    let u = max (i * s) x - x in
    let n = min (i * s + s) (x + a) - max (i * s) x in
    let v = u + n in
    let F = u * c / a in
    let D = div_ceil (v * c) a in
    let V = f * a / c in
    let U = div_ceil ((f + w) * a) c in
    let begins = first_met s x i ps low in
    let ends = last_met s (x + a) i ps high in
    let source = source_within a c f w pa pc some inside in
    alike _ _
    (λ h.
    let both : 0 < min (F + (D - F)) (f + w) - max F f = ltb-true 0 _ h in
    let is = reached_from a c f w u v pa pc (omega arith) (omega arith) in
    let first = is.first in
    let last = is.last in
    and_from _ _ (le-leb _ i (met_first s (x + V) i ps (omega arith))) (lt-ltb i _ (met_last s (x + V + (U - V)) i ps (omega arith))))
    (λ h.
    let t = and_parts (nat_le ((x + V) / s) i) (nat_lt i (div_ceil (x + V + (U - V)) s)) h in
    let l = first_met s (x + V) i ps (leb-true _ i t.0) in
    let r = last_met s (x + V + (U - V)) i ps (ltb-true i _ t.1) in
    let e = source.0 in
    let g = source.1 in
    let is : IsReached a c f w u v = record { first = omega arith; last = omega arith } in
    let two = reached_to a c f w u v pa pc is in
    let one = two.0 in
    let other = two.1 in
    let own : (u + 1) * c ≤ v * c = mul-le-mul_right c (omega arith) in
    let times = div_ceil-times (v * c) a pa in
    let less : F < D = div_below (u * c) a D pa (omega arith) in
    lt-ltb 0 _ (omega arith))

same_both : (a b c d : Bool) → a ≡ b → c ≡ d → (a && c) ≡ (b && d)
same_both a b c d p q = rw (p, q) refl

-- A rectangle of a scaled region and the squares of a grid over the image: what the lemmas below are about.
pub record IsPart (s : ℕ) (g : Rect) (size : Dim) (part : Rect) : Type 0 where
  pub side : 0 < s
  pub columns : 0 < g.w
  pub rows : 0 < g.h
  pub some_columns : 0 < part.w
  pub some_rows : 0 < part.h
  pub inside : LiesIn part size

-- a square that the region meets has a place of the part where it meets the part's source
square_reached : (s : ℕ) (g : Rect) (size : Dim) (part : Rect) (i j : ℕ) → IsPart s g size part →
    (squares_met s g).left ≤ i → i < (squares_met s g).right → (squares_met s g).top ≤ j → j < (squares_met s g).bottom →
    have_common (places_of (sides_of g) size (part_of (square s i j) g)) part
    ≡ (between (squares_met s (source_of g size part)).left (squares_met s (source_of g size part)).right i
    && between (squares_met s (source_of g size part)).top (squares_met s (source_of g size part)).bottom j)
unfolding have_common
square_reached s g size part i j h a b c d =
    let w = h.some_columns in
    let r = h.some_rows in
    let k = h.inside.columns in
    let l = h.inside.rows in
    same_both _ _ _ _
    (along s g.x g.w size.w part.x part.w i h.side h.columns (omega arith) w k a b)
    (along s g.y g.h size.h part.y part.h j h.side h.rows (omega arith) r l c d)

-- the first and the last squares along a side
bounds : (s x a c f w : ℕ) → 0 < s → 0 < a → 0 < c → 0 < w → f + w ≤ c →
    (x / s ≤ div_ceil (x + a) s) × (x / s ≤ (x + f * a / c) / s)
    × (div_ceil (x + f * a / c + (div_ceil ((f + w) * a) c - f * a / c)) s ≤ div_ceil (x + a) s)
bounds s x a c f w ps pa pc some inside =
    let source = source_within a c f w pa pc some inside in
    let one = source.0 in
    let two = source.1 in
    let three = source.2 in
    let k = column_has s x ps in
    let l : x / s < div_ceil (x + a) s = met_last s (x + a) (x / s) ps (omega arith) in
    let n = x + f * a / c in
    let m = n + (div_ceil ((f + w) * a) c - f * a / c) in
    let b = column_has s n ps in
    let e = div_ceil-times (x + a) s ps in
    (omega arith, met_first s x (n / s) ps (omega arith), div_ceil-le m s (div_ceil (x + a) s) ps (omega arith))

-- So the squares of the source stand, among those that the region meets, where those stand that have a place of the part.
pub part_squares : {K : Type 0} (f : ℕ → ℕ → K) (test : K → Bool) (s : ℕ) (g : Rect) (size : Dim) (part : Rect) → IsPart s g size part →
    ((i j : ℕ) → test (f i j) ≡ have_common (places_of (sides_of g) size (part_of (square s i j) g)) part) →
    places_from 0 test (each_square f (squares_met s g))
    ≡ each_square (place_among (squares_met s g)) (squares_met s (source_of g size part))
part_squares f test s g size part h tested =
    let w = h.some_columns in
    let r = h.some_rows in
    let k = h.inside.columns in
    let l = h.inside.rows in
    let columns = bounds s g.x g.w size.w part.x part.w h.side h.columns (omega arith) w k in
    let rows = bounds s g.y g.h size.h part.y part.h h.side h.rows (omega arith) r l in
    squares_places f test (squares_met s g) (squares_met s (source_of g size part)) columns.0 rows.0 columns.1 columns.2 rows.1 rows.2
    (λ i j a b c d. tested i j ∙ square_reached s g size part i j h a b c d)

same_times : (a m n : ℕ) → 0 < a → m ≤ n → n * a ≤ m * a → m ≡ n
same_times a m n p low high =
    ⊎_elim
    (λ (l : m < n). let t : (m + 1) * a ≤ n * a = mul-le-mul_right a (omega arith) in absurd (omega arith))
    (λ (l : n ≤ m). omega arith)
    (cases_lt m n)

kept_along : (a x w : ℕ) → 0 < a → (x * a / a ≡ x) × (div_ceil ((x + w) * a) a - x * a / a ≡ w)
kept_along a x w p =
    let e : x * a + 0 ≡ x * a = omega arith in
    let first : x * a / a ≡ x = ap (λ n. n / a) (sym e) ∙ div-mul-add x a 0 p in
    let low = div_ceil-le ((x + w) * a) a (x + w) p (omega arith) in
    let high = div_ceil-times ((x + w) * a) a p in
    let end : div_ceil ((x + w) * a) a ≡ x + w = same_times a (div_ceil ((x + w) * a) a) (x + w) p low high in
    (first, omega (arith, first, end))

kept_rect : (x y w h : ℕ) (part : Rect) → x ≡ part.x → y ≡ part.y → w ≡ part.w → h ≡ part.h →
    (record { x = x; y = y; w = w; h = h }) ≡ part
kept_rect x y w h part a b c d = rw (a, b, c, d) refl

-- no rectangle has a place of an empty one
pub none_common : (a b : Rect) → (b.w ≡ 0) ⊎ (b.h ≡ 0) → have_common a b ≡ false
unfolding have_common
none_common a b empty =
    false_from_ne_true _ (λ h.
    let p = part_of a b in
    let t = and_parts (nat_lt 0 p.w) (nat_lt 0 p.h) h in
    let c = ltb-true 0 p.w t.0 in
    let d = ltb-true 0 p.h t.1 in
    ⊎_elim (λ (e : b.w ≡ 0). absurd (omega arith)) (λ (e : b.h ≡ 0). absurd (omega arith)) empty)

-- a region that keeps its size has its parts where they are
pub places_kept : (g : Rect) (size : Dim) (part : Rect) → size ≡ sides_of g → 0 < g.w → 0 < g.h → places_of (sides_of g) size part ≡ part
places_kept g size part same columns rows =
    let w = kept_along g.w part.x part.w columns in
    let h = kept_along g.h part.y part.h rows in
    rw same (kept_rect _ _ _ _ part w.0 h.0 w.1 h.1)

-- a column further on is in no earlier column of squares
pub first_later : (s x y : ℕ) → 0 < s → x ≤ y → x / s ≤ y / s
first_later s x y p h = let b = column_has s y p in met_first s x (y / s) p (omega arith)
