-- Laws of parts and of the result places that they cover.
use Rattle.std.proofs.Common.{◌≡◌, ℕ, ◌+◌, ◌*◌, ◌/◌, ◌<◌, ◌≤◌, sym, subst, arith, ⊎_elim}
use Rattle.std.proofs.Math.Nat.{mul-le-mul_right, le_trans}
use Rattle.std.proofs.lemmas.Nat.{div-add-mod', le-div}
use Rattle.std.proofs.lemmas.Bool.{cases_lt}
use Rattle.std.specs.Int.{div_ceil}
use Rattle.iiif_pixel.specs.declared.geometry.Rect.{Rect}
use Rattle.iiif_area.specs.Laws.{PartIsCommon, PlacesGrow}
use Rattle.iiif_area.specs.Places.{corner_of, part_of}
use Rattle.iiif_area.proofs.WeightLaws.{div_times-le, div_ceil-times}

-- A quotient rounded up is at most c, if the dividend is at most c times the divisor.
pub div_ceil-le : (n a c : ℕ) → 0 < a → n ≤ c * a → div_ceil n a ≤ c
div_ceil-le n a c p h =
    let e = div-add-mod' n a in
    ⊎_elim
    (λ (l : n / a < c). omega arith)
    (λ (l : c ≤ n / a).
    let d : c * a ≤ n / a * a = mul-le-mul_right a l in
    ⊎_elim
    (λ (g : c < n / a). let d' : (c + 1) * a ≤ n / a * a = mul-le-mul_right a (omega arith) in absurd (omega arith))
    (λ (g : n / a ≤ c). omega arith)
    (cases_lt c (n / a)))
    (cases_lt (n / a) c)

-- A part's result columns are among the result's.
pub places_below : (x n a c : ℕ) → 0 < a → x + n ≤ a → (x * c / a ≤ c) × (div_ceil ((x + n) * c) a ≤ c)
places_below x n a c p h =
    let e : x * c ≤ a * c = mul-le-mul_right c (omega arith) in
    let d : (x + n) * c ≤ a * c = mul-le-mul_right c h in
    let f = div_ceil-le (x * c) a c p (omega arith) in
    (omega arith, div_ceil-le ((x + n) * c) a c p (omega arith))

-- A quotient grows with the dividend.
pub div-mono : (n m a : ℕ) → 0 < a → n ≤ m → n / a ≤ m / a
div-mono n m a p h = le-div (n / a) m a p (le_trans (div_times-le n a) h)

-- A quotient rounded up grows with the dividend.
pub div_ceil-mono : (n m a : ℕ) → 0 < a → n ≤ m → div_ceil n a ≤ div_ceil m a
div_ceil-mono n m a p h = div_ceil-le n a (div_ceil m a) p (le_trans h (div_ceil-times m a p))

-- A smaller part covers fewer result places.
pub places_grow : PlacesGrow
places_grow region size part of width height inside =
    let x1 = div-mono (of.x * size.w) (part.x * size.w) region.w width (mul-le-mul_right size.w inside.left) in
    let x2 = div_ceil-mono ((part.x + part.w) * size.w) ((of.x + of.w) * size.w) region.w width (mul-le-mul_right size.w inside.right) in
    let x3 = div-mono (part.x * size.w) ((of.x + of.w) * size.w) region.w width (mul-le-mul_right size.w (omega arith)) in
    let y1 = div-mono (of.y * size.h) (part.y * size.h) region.h height (mul-le-mul_right size.h inside.upper) in
    let y2 = div_ceil-mono ((part.y + part.h) * size.h) ((of.y + of.h) * size.h) region.h height (mul-le-mul_right size.h inside.lower) in
    let y3 = div-mono (part.y * size.h) ((of.y + of.h) * size.h) region.h height (mul-le-mul_right size.h (omega arith)) in
    record { left = omega arith; right = omega arith; upper = omega arith; lower = omega arith }

-- A part lies in its region, and from its corner on in its tile.
pub record PartFits (tile region part : Rect) (corner : ℕ × ℕ) : Type 0 where
  pub columns : 0 < part.w → part.x + part.w ≤ region.w
  pub rows : 0 < part.h → part.y + part.h ≤ region.h
  pub tile_columns : 0 < part.w → corner.0 + part.w ≤ tile.w
  pub tile_rows : 0 < part.h → corner.1 + part.h ≤ tile.h

part_of_fits : (tile region : Rect) → PartFits tile region (part_of tile region) (corner_of tile region)
part_of_fits tile region = record {
  columns = λ h. omega arith;
  rows = λ h. omega arith;
  tile_columns = λ h. omega arith;
  tile_rows = λ h. omega arith;
}

-- The part and the corner of a tile and a region fit so.
pub part_fits : (tile region part : Rect) (corner : ℕ × ℕ) → part ≡ part_of tile region → corner ≡ corner_of tile region →
    PartFits tile region part corner
part_fits tile region part corner e f =
    subst (λ (p : Rect). PartFits tile region p corner) (sym e)
    (subst (λ (k : ℕ × ℕ). PartFits tile region (part_of tile region) k) (sym f) (part_of_fits tile region))

-- A tile's part of a region has exactly the region's places that lie in the tile.
pub part_is_common : PartIsCommon
part_is_common tile region x y = (
  λ (a, b, c, d). (omega arith, omega arith, (omega arith, omega arith, omega arith, omega arith)),
  λ (a, b, (c, d, e, f)). (omega arith, omega arith, omega arith, omega arith),
)
