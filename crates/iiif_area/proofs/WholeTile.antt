-- A region taken as one tile, and the result that its sums make.
use Rattle.std.proofs.Common.{◌≡◌, ℕ, ◌+◌, ◌*◌, ◌/◌, ◌%◌, ◌<◌, sym, subst, ap, ◌∙◌, arith}
use Rattle.std.proofs.Math.Nat.{zero-div, mul-div_cancel_left, mul-mod_right}
use Rattle.std.specs.Int.{div_ceil}
use Rattle.iiif_pixel.specs.Geometry.{LiesIn}
use Rattle.iiif_pixel.specs.Picture.{Picture, IsWhole, dim_of}
use Rattle.iiif_pixel.specs.Operations.{crop}
use Rattle.iiif_pixel.specs.Scaling.{scale, whole_of}
use Rattle.iiif_pixel.specs.Laws.{AllRows}
use Rattle.iiif_pixel.specs.declared.geometry.Dim.{Dim}
use Rattle.iiif_pixel.specs.declared.geometry.Rect.{Rect}
use Rattle.iiif_pixel.proofs.Parts.{same_rect}
use Rattle.iiif_area.specs.Grid.{Grid, sums_at, sums_of}
use Rattle.iiif_area.specs.Places.{part_of, places_of, IsInside}

-- A region's part in itself is the whole of it.
pub whole_part : (d : Dim) → part_of (whole_of d) (whole_of d) ≡ whole_of d
whole_part d = same_rect (part_of (whole_of d) (whole_of d)) (whole_of d) (omega arith) (omega arith) (omega arith) (omega arith)

div_ceil_whole : (a c : ℕ) → 0 < a → div_ceil ((0 + a) * c) a ≡ c
div_ceil_whole a c some =
    let same : (0 + a) * c ≡ a * c = omega arith in
    let all : a * c / a ≡ c = mul-div_cancel_left c some in
    let none : a * c % a ≡ 0 = mul-mod_right a c in
    ap (λ n. div_ceil n a) same ∙ omega (arith, all, none)

-- The whole of a region covers all result places.
pub whole_places : (d s : Dim) → 0 < d.w → 0 < d.h → places_of d s (whole_of d) ≡ whole_of s
whole_places d s columns rows =
    let none : (n m : ℕ) → 0 * n / m ≡ 0 = λ n m. let e : 0 * n ≡ 0 = omega arith in ap (λ k. k / m) e ∙ zero-div m in
    let left = none s.w d.w in
    let top = none s.h d.h in
    let width = div_ceil_whole d.w s.w columns in
    let height = div_ceil_whole d.h s.h rows in
    same_rect (places_of d s (whole_of d)) (whole_of s) left top (omega (arith, left, width)) (omega (arith, top, height))

-- A whole picture, cropped to its sides, stays as it is.
pub whole_crop : AllRows → (p : Picture) → IsWhole p → crop p (whole_of (dim_of p)) ≡ p
whole_crop law p whole = law p whole

-- Sums of a whole picture that is its own region, as one tile.
pub record OneTile (p : Picture) (size : Dim) (g : Grid) : Type 0 where
  pub rect : g.rect ≡ whole_of size
  pub sums : g ≡ sums_at g.rect p size (whole_of (dim_of p))

-- The sums of a whole picture, taken as one tile, are the picture's.
pub one_tile : AllRows → (p : Picture) (size : Dim) (g : Grid) → IsWhole p → 0 < p.width → 0 < p.height
    → ((q : Picture) → p ≡ crop q (whole_of (dim_of p)) →
    g ≡ sums_of (crop q (whole_of (dim_of p))) size (part_of (whole_of (dim_of p)) (whole_of (dim_of p))))
    → OneTile p size g
one_tile law p size g whole columns rows made =
    let same = whole_crop law p whole in
    let first : g ≡ sums_of p size (part_of (whole_of (dim_of p)) (whole_of (dim_of p))) =
    made p (sym same) ∙ ap (λ (q : Picture). sums_of q size (part_of (whole_of (dim_of p)) (whole_of (dim_of p)))) same in
    let second : g ≡ sums_of p size (whole_of (dim_of p)) = first ∙ ap (λ (r : Rect). sums_of p size r) (whole_part (dim_of p)) in
    let places : g.rect ≡ whole_of size = ap (λ (h : Grid). h.rect) second ∙ whole_places (dim_of p) size columns rows in
    record {
      rect = places;
      sums = second ∙ ap (λ (r : Rect). sums_at r p size (whole_of (dim_of p))) (sym (ap (λ (h : Grid). h.rect) second));
    }

-- A rectangle lies in itself.
pub inside_itself : (r s : Rect) → s ≡ r → IsInside r s
inside_itself r s e = record {
  left = omega (arith, ap (λ (t : Rect). t.x) e);
  right = omega (arith, ap (λ (t : Rect). t.x) e, ap (λ (t : Rect). t.w) e);
  upper = omega (arith, ap (λ (t : Rect). t.y) e);
  lower = omega (arith, ap (λ (t : Rect). t.y) e, ap (λ (t : Rect). t.h) e);
}

-- A whole scaled picture, cropped to its sides, stays as it is.
pub finished_whole : AllRows → (p : Picture) (size : Dim) → IsWhole (scale p size) → crop (scale p size) (whole_of size) ≡ scale p size
finished_whole law p size whole = whole_crop law (scale p size) whole

-- The sums of a region that was summed up as one tile, from the results of the calls.
pub tile_from : AllRows → (p : Picture) (size sides : Dim) (at at' : Rect) (g : Grid) → IsWhole p → 0 < p.width → 0 < p.height
    → sides ≡ dim_of p → at ≡ whole_of sides → at' ≡ whole_of sides
    → ((q : Picture) → p ≡ crop q at → g ≡ sums_of (crop q at') size (part_of at at')) → OneTile p size g
tile_from law p size sides at at' g whole columns rows same is is' made =
    let place : at ≡ whole_of (dim_of p) = is ∙ ap whole_of same in
    let place' : at' ≡ whole_of (dim_of p) = is' ∙ ap whole_of same in
    let first : (q : Picture) → p ≡ crop q (whole_of (dim_of p)) → g ≡ sums_of (crop q at') size (part_of (whole_of (dim_of p)) at') =
    λ q. subst (λ (r : Rect). p ≡ crop q r → g ≡ sums_of (crop q at') size (part_of r at')) place (made q) in
    one_tile law p size g whole columns rows
    (λ q. subst (λ (r : Rect). p ≡ crop q (whole_of (dim_of p)) → g ≡ sums_of (crop q r) size (part_of (whole_of (dim_of p)) r)) place'
    (first q))

-- All of a result lies in it.
pub all_lies : (size : Dim) (r : Rect) → r ≡ whole_of size → LiesIn r size
all_lies size r e = record {
  columns = omega (arith, ap (λ (t : Rect). t.x) e, ap (λ (t : Rect). t.w) e);
  rows = omega (arith, ap (λ (t : Rect). t.y) e, ap (λ (t : Rect). t.h) e);
}
