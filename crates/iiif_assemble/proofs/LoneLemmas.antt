-- Sums that are all at the places of a rectangle.
use Rattle.std.proofs.Common.{◌≡◌, ℕ, ◌+◌, ◌-◌, ◌*◌, ◌^◌, ◌<◌, ◌≤◌, min, Bool, length, sym, ap, ◌∙◌, arith, if◌then◌else◌, ⊎_elim}
use Rattle.std.proofs.Math.ListN.{get_or-eq_default}
use Rattle.std.proofs.lemmas.Bool.{cases_lt}
use Rattle.std.proofs.lemmas.List.Elements.{All-get_or}
use Rattle.iiif_pixel.specs.Geometry.{HasPlace}
use Rattle.iiif_pixel.specs.Picture.{picture_of}
use Rattle.iiif_pixel.specs.declared.geometry.Dim.{Dim}
use Rattle.iiif_pixel.specs.declared.geometry.Rect.{Rect}
use Rattle.iiif_pixel.proofs.CropLaws.{same_built}
use Rattle.iiif_area.specs.Grid.{Grid, average_within, finished, grid_of, has_place, merged, sum_at, IsGrid}
use Rattle.iiif_area.specs.Places.{IsInside}
use Rattle.iiif_area.proofs.GridLaws.{has_place-yes, sum_at-grid_of}

-- each sum is one of 64 bits
sum_at-lt : (g : Grid) (i j k : ℕ) → IsGrid g → sum_at g i j k < 2 ^ 64
unfolding sum_at
sum_at-lt g i j k grid =
    let n = ((j - g.rect.y) * g.rect.w + (i - g.rect.x)) * g.channels + k in
    ⊎_elim
    (λ (h : n < length g.sums). All-get_or (λ s. s < 2 ^ 64) g.sums n 0 h grid.bound)
    (λ (h : length g.sums ≤ n). omega (arith, get_or-eq_default g.sums 0 h))
    (cases_lt n (length g.sums))

-- so it is the sum that stays where it is added to 0
sum_at-alone : (r : Rect) (n : ℕ) (g : Grid) (i j k : ℕ) → IsGrid g → HasPlace r i j → HasPlace g.rect i j → k < n →
    sum_at (merged (grid_of r n (λ i j k. 0)) g) i j k ≡ sum_at g i j k
sum_at-alone r n g i j k grid mine theirs ch =
    let zeros = grid_of r n (λ i j k. 0) in
    let none : sum_at zeros i j k ≡ 0 = sum_at-grid_of r n (λ i j k. 0) i j k mine ch in
    let small = sum_at-lt g i j k grid in
    sum_at-grid_of r n (λ i j k. if has_place g.rect i j then min (2 ^ 64 - 1) (sum_at zeros i j k + sum_at g i j k) else sum_at zeros i j
    k) i j k mine ch
    ∙ ap (λ (b : Bool). if b then min (2 ^ 64 - 1) (sum_at zeros i j k + sum_at g i j k) else sum_at zeros i j k)
    (has_place-yes g.rect i j theirs)
    ∙ omega arith

-- Sums that have each place of a rectangle make the samples there that they make merged into sums of 0.
pub finished-alone : (from : Rect) (n : ℕ) (g : Grid) (region : Dim) (top : ℕ) → IsGrid g → g.channels ≡ n → IsInside from g.rect →
    finished g region top from ≡ finished (merged (grid_of from n (λ i j k. 0)) g) region top from
finished-alone from n g region top grid channels inside =
    let area = region.w * region.h in
    ap (λ m. picture_of from.w from.h m top (λ x y k. average_within area top (sum_at g (from.x + x) (from.y + y) k))) channels
    ∙ same_built from.w from.h n top _ _ (λ x y k lx ly lk.
    let mine : HasPlace from (from.x + x) (from.y + y) = (omega arith, omega arith, omega arith, omega arith) in
    let theirs : HasPlace g.rect (from.x + x) (from.y + y) =
    (omega (arith, inside.left), omega (arith, inside.right), omega (arith, inside.upper), omega (arith, inside.lower)) in
    ap (average_within area top) (sym (sum_at-alone from n g (from.x + x) (from.y + y) k grid mine theirs lk)))
