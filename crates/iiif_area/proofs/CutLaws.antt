-- Sums over a part that is cut into rectangles.
use Rattle.std.proofs.Common.{◌≡◌, ℕ, ◌+◌, ◌-◌, ◌*◌, ◌≤◌, List, [], ◌∷◌, Bool, sum_by, count_by, sym, ap, ◌∙◌, arith, if◌then◌else◌}
use Rattle.std.proofs.lemmas.List.Sums.{sum_by-cons}
use Rattle.iiif_pixel.specs.Geometry.{HasPlace}
use Rattle.iiif_pixel.specs.Scaling.{sum_from, weight_of, area_sum}
use Rattle.iiif_pixel.specs.declared.geometry.Dim.{Dim}
use Rattle.iiif_pixel.specs.declared.geometry.Rect.{Rect}
use Rattle.iiif_area.specs.Grid.{has_place}
use Rattle.iiif_area.specs.Laws.{CutsAddUp}
use Rattle.iiif_area.proofs.GridLaws.{has_place-yes, has_place-no}
use Rattle.iiif_area.proofs.SumLaws.{sum_from-same, sum_from-zero, sum_from-add, sum_from-narrow, none_times}

-- The sum over the first n columns and rows.
abbrev pub window_sum : ℕ → (ℕ → ℕ → ℕ) → ℕ
window_sum n g = sum_from 0 n (λ y. sum_from 0 n (λ x. g x y))

-- A rectangle's mark: 1 at its places, and 0 elsewhere.
abbrev pub mark : Rect → ℕ → ℕ → ℕ
mark r x y = if has_place r x y then 1 else 0

mark-yes : (r : Rect) (x y : ℕ) → HasPlace r x y → mark r x y ≡ 1
mark-yes r x y h = ap (λ (b : Bool). if b then 1 else 0) (has_place-yes r x y h)

mark-no : (r : Rect) (x y : ℕ) → ¬ (HasPlace r x y) → mark r x y ≡ 0
mark-no r x y h = ap (λ (b : Bool). if b then 1 else 0) (has_place-no r x y h)

window_sum-same : (n : ℕ) (g h : ℕ → ℕ → ℕ) → ((x y : ℕ) → g x y ≡ h x y) → window_sum n g ≡ window_sum n h
window_sum-same n g h e = sum_from-same 0 n _ _ (λ y _ _. sum_from-same 0 n _ _ (λ x _ _. e x y))

window_sum-add : (n : ℕ) (g h : ℕ → ℕ → ℕ) → window_sum n (λ x y. g x y + h x y) ≡ window_sum n g + window_sum n h
window_sum-add n g h =
    sum_from-same 0 n _ _ (λ y _ _. sum_from-add 0 n (λ x. g x y) (λ x. h x y))
    ∙ sum_from-add 0 n (λ y. sum_from 0 n (λ x. g x y)) (λ y. sum_from 0 n (λ x. h x y))

one_times : {m : ℕ} (v : ℕ) → m ≡ 1 → m * v ≡ v
one_times v e = ap (λ u. u * v) e ∙ omega arith

-- the sum over a rectangle is that over the window, of its own places
rect_sum : (n : ℕ) (r : Rect) (g : ℕ → ℕ → ℕ) → r.x + r.w ≤ n → r.y + r.h ≤ n →
    sum_from r.y r.h (λ y. sum_from r.x r.w (λ x. g x y)) ≡ window_sum n (λ x y. mark r x y * g x y)
rect_sum n r g width height =
    let t : ℕ → ℕ → ℕ = λ x y. mark r x y * g x y in
    let rows = sum_from-narrow 0 n r.y (r.y + r.h) (λ y. sum_from 0 n (λ x. t x y)) (omega arith) (omega arith) (omega arith)
    (λ y _ l. sum_from-zero 0 n (λ x. t x y) (λ x _ _. none_times (g x y) (mark-no r x y (λ h. omega arith))))
    (λ y l _. sum_from-zero 0 n (λ x. t x y) (λ x _ _. none_times (g x y) (mark-no r x y (λ h. omega arith)))) in
    let tall : r.y + r.h - r.y ≡ r.h = omega arith in
    let wide : r.x + r.w - r.x ≡ r.w = omega arith in
    sum_from-same r.y r.h _ (λ y. sum_from 0 n (λ x. t x y)) (λ y l m.
    sum_from-same r.x r.w (λ x. g x y) (λ x. t x y) (λ x o q. sym (one_times (g x y) (mark-yes r x y (o, q, l, m))))
    ∙ ap (λ u. sum_from r.x u (λ x. t x y)) (sym wide)
    ∙ sym (sum_from-narrow 0 n r.x (r.x + r.w) (λ x. t x y) (omega arith) (omega arith) (omega arith)
    (λ x _ o. none_times (g x y) (mark-no r x y (λ h. omega arith)))
    (λ x o _. none_times (g x y) (mark-no r x y (λ h. omega arith)))))
    ∙ ap (λ u. sum_from r.y u (λ y. sum_from 0 n (λ x. t x y))) (sym tall) ∙ sym rows

-- a window that holds all of some rectangles
reach : List Rect → ℕ
reach [] = 0
reach (r ∷ rs) = r.x + r.w + (r.y + r.h) + reach rs

-- the sums over some rectangles, added up, count each place as often as it lies in one
rects_sum : (region size : Dim) (f : ℕ → ℕ → ℕ) (i j n : ℕ) (rects : List Rect) → reach rects ≤ n →
    sum_by (λ r. area_sum region size r f i j) rects
    ≡ window_sum n (λ x y. count_by (λ r. has_place r x y) rects * (weight_of i x region.w size.w * weight_of j y region.h size.h * f x y))
unfolding area_sum reach
rects_sum region size f i j n [] h =
    sym (sum_from-zero 0 n _ (λ y _ _. sum_from-zero 0 n _ (λ x _ _. omega arith)))
rects_sum region size f i j n (r ∷ rs) h =
    let g : ℕ → ℕ → ℕ = λ x y. weight_of i x region.w size.w * weight_of j y region.h size.h * f x y in
    let others = rects_sum region size f i j n rs (omega arith) in
    let first = rect_sum n r g (omega arith) (omega arith) in
    let both = window_sum-add n (λ x y. mark r x y * g x y) (λ x y. count_by (λ q. has_place q x y) rs * g x y) in
    let count = window_sum-same n (λ x y. mark r x y * g x y + count_by (λ q. has_place q x y) rs * g x y)
    (λ x y. count_by (λ q. has_place q x y) (r ∷ rs) * g x y) (λ x y.
    let e : count_by (λ q. has_place q x y) (r ∷ rs) ≡ mark r x y + count_by (λ q. has_place q x y) rs =
    sum_by-cons (λ q. mark q x y) r rs in
    sym (ap (λ u. u * g x y) e ∙ omega arith)) in
    sum_by-cons (λ q. area_sum region size q f i j) r rs ∙ omega arith

-- However a part is cut into rectangles, their sums add up to its sum.
pub cuts_add_up : CutsAddUp
unfolding area_sum
cuts_add_up region size part rects f i j cut =
    let n = part.x + part.w + (part.y + part.h) + reach rects in
    let g : ℕ → ℕ → ℕ = λ x y. weight_of i x region.w size.w * weight_of j y region.h size.h * f x y in
    rect_sum n part g (omega arith) (omega arith)
    ∙ window_sum-same n (λ x y. mark part x y * g x y) (λ x y. count_by (λ r. has_place r x y) rects * g x y)
    (λ x y. ap (λ u. u * g x y) (sym (cut x y)))
    ∙ sym (rects_sum region size f i j n rects (omega arith))
