-- Pieces of a part, merged one after another.
use Rattle.std.proofs.Common.{◌≡◌, ℕ, ◌+◌, ◌*◌, ◌^◌, ◌<◌, ◌≤◌, List, [], ◌∷◌, Bool, true, false, not, All, map, fold, filter, sum_by, refl}
use Rattle.std.proofs.Common.{sym, ap, ◌∙◌, arith}
use Rattle.std.proofs.lemmas.Bool.{false≢true}
use Rattle.std.proofs.lemmas.List.Elements.{All-head, All-tail, filter_passes}
use Rattle.std.proofs.lemmas.List.Filters.{sum_by-filter_both}
use Rattle.std.proofs.lemmas.List.Sums.{sum_by-cons}
use Rattle.iiif_pixel.specs.Geometry.{HasPlace}
use Rattle.iiif_pixel.specs.Scaling.{whole_of}
use Rattle.iiif_pixel.specs.Picture.{Picture, dim_of, sample_at, IsWhole}
use Rattle.iiif_pixel.specs.declared.geometry.Dim.{Dim}
use Rattle.iiif_pixel.specs.declared.geometry.Rect.{Rect}
use Rattle.iiif_pixel.proofs.Whole.{sample_at-le, top-le}
use Rattle.iiif_area.specs.Grid.{Grid, finished, grid_of, merged, part_sum, sums_of}
use Rattle.iiif_area.specs.Laws.{PiecesMerge, PassesMet, OthersAddNothing, BandsAreCut}
use Rattle.iiif_area.proofs.AreaLaws.{area-fits, area_elsewhere}
use Rattle.iiif_area.proofs.CutLaws.{cuts_add_up}
use Rattle.iiif_area.proofs.FinishLaws.{finished-scaled}
use Rattle.iiif_area.proofs.GridLaws.{grid_of-same}
use Rattle.iiif_area.proofs.MergeLaws.{merging_lem}

-- The total of some rectangles' sums at a place.
abbrev pub pieces_sum : Picture → Dim → List Rect → ℕ → ℕ → ℕ → ℕ
pieces_sum p size rects i j k = sum_by (λ r. part_sum p size r i j k) rects

-- A part's sum over a whole picture fits 64 bits.
pub part_sum-fits : (p : Picture) (size : Dim) (part : Rect) (i j k : ℕ) → IsWhole p → p.width * p.height ≤ 2 ^ 32 →
    part_sum p size part i j k < 2 ^ 64
unfolding part_sum
part_sum-fits p size part i j k whole area =
    area-fits (dim_of p) size part (λ x y. sample_at p x y k) i j area (λ x y _. omega (arith, sample_at-le p whole x y k, top-le p whole))

-- merged one after another into sums that leave room for all
merged_pieces : (p : Picture) (size : Dim) (rect : Rect) (rects : List Rect) (f : ℕ → ℕ → ℕ → ℕ) → 0 < p.width → 0 < p.height →
    ((i j k : ℕ) → f i j k + pieces_sum p size rects i j k < 2 ^ 64) →
    fold merged (grid_of rect p.channels f) (map (λ r. sums_of p size r) rects) ≡ grid_of rect p.channels
    (λ i j k. f i j k + pieces_sum p size rects i j k)
merged_pieces p size rect [] f w h room =
    grid_of-same rect p.channels f (λ i j k. f i j k + pieces_sum p size [] i j k) (λ i j k _ _. omega arith)
merged_pieces p size rect (r ∷ rs) f w h room =
    let all : (i j k : ℕ) → pieces_sum p size (r ∷ rs) i j k ≡ part_sum p size r i j k + pieces_sum p size rs i j k = λ i j k.
    sum_by-cons (λ q. part_sum p size q i j k) r rs in
    let g : ℕ → ℕ → ℕ → ℕ = λ i j k. f i j k + part_sum p size r i j k in
    let first = merging_lem p size r rect f w h (λ i j k _ _. omega (arith, all i j k, room i j k)) in
    let others = merged_pieces p size rect rs g w h (λ i j k. omega (arith, all i j k, room i j k)) in
    ap (λ (d : Grid). fold merged d (map (λ q. sums_of p size q) rs)) first ∙ others
    ∙ grid_of-same rect p.channels (λ i j k. g i j k + pieces_sum p size rs i j k) (λ i j k. f i j k + pieces_sum p size (r ∷ rs) i j k)
    (λ i j k _ _. omega (arith, all i j k))

-- The sums of a part's pieces, merged into sums of 0, are the part's sums.
pub pieces_merge : PiecesMerge
unfolding part_sum
pieces_merge p size part rect rects whole w h area cut =
    let same : (i j k : ℕ) → part_sum p size part i j k ≡ pieces_sum p size rects i j k = λ i j k.
    cuts_add_up (dim_of p) size part rects (λ x y. sample_at p x y k) i j cut in
    merged_pieces p size rect rects (λ i j k. 0) w h (λ i j k. omega (arith, same i j k, part_sum-fits p size part i j k whole area))
    ∙ grid_of-same rect p.channels (λ i j k. 0 + pieces_sum p size rects i j k) (part_sum p size part)
    (λ i j k _ _. omega (arith, same i j k))

-- where each that passes adds nothing, so do all
none_added : {X : Type 0} (f : X → ℕ) (q : X → Bool) (xs : List X) → ((x : X) → q x ≡ true → f x ≡ 0) → All (λ x. q x ≡ true) xs →
    sum_by f xs ≡ 0
none_added f q [] zero all = refl
none_added {X} f q (x ∷ xs) zero all =
    let P : X → Type 0 = λ y. q y ≡ true in
    let first = zero x (All-head P x xs all) in
    let others = none_added f q xs zero (All-tail P x xs all) in
    omega (arith, sum_by-cons f x xs)

failed : (b : Bool) → not b ≡ true → b ≡ true → ⊥
failed b n y = let e : false ≡ true = sym (ap not y) ∙ n in false≢true e

-- the parts that pass such a test come to what all come to, at each place of the rectangle
met_sum : (p : Picture) (size : Dim) (rect : Rect) (rects : List Rect) (test : Rect → Bool) (i j k : ℕ) → 0 < p.width → 0 < p.height →
    PassesMet p size rect test → HasPlace rect i j → pieces_sum p size (filter test rects) i j k ≡ pieces_sum p size rects i j k
unfolding part_sum
met_sum p size rect rects test i j k w h met place =
    let f : Rect → ℕ = λ r. part_sum p size r i j k in
    let others : Rect → Bool = λ r. not (test r) in
    let both = sum_by-filter_both test others (λ _. refl) f rects in
    let none = none_added f others (filter others rects) (λ r fails.
    area_elsewhere (dim_of p) size r (λ x y. sample_at p x y k) i j w h (λ there. failed (test r) fails (met r i j there place)))
    (filter_passes others rects) in
    omega (arith, both, none)

-- The pieces that cover a place of a rectangle, merged into sums of 0, are enough there.
pub others_add_nothing : OthersAddNothing
unfolding part_sum
others_add_nothing p size part rect rects test whole w h area cut met =
    let all : (i j k : ℕ) → part_sum p size part i j k ≡ pieces_sum p size rects i j k = λ i j k.
    cuts_add_up (dim_of p) size part rects (λ x y. sample_at p x y k) i j cut in
    let less : (i j k : ℕ) → pieces_sum p size (filter test rects) i j k ≤ pieces_sum p size rects i j k = λ i j k.
    omega (arith, sum_by-filter_both test (λ r. not (test r)) (λ _. refl) (λ r. part_sum p size r i j k) rects) in
    merged_pieces p size rect (filter test rects) (λ i j k. 0) w h
    (λ i j k. omega (arith, less i j k, all i j k, part_sum-fits p size part i j k whole area))
    ∙ grid_of-same rect p.channels (λ i j k. 0 + pieces_sum p size (filter test rects) i j k) (part_sum p size part)
    (λ i j k place _. omega (arith, all i j k, met_sum p size rect rects test i j k w h met place))

-- A rectangle of the scaled picture is made of the pieces that cover a place of it.
pub bands_are_cut : BandsAreCut
bands_are_cut p size rect rects test whole w h area cut met lies =
    ap (λ (g : Grid). finished g (dim_of p) p.top rect)
    (others_add_nothing p size (whole_of (dim_of p)) rect rects test whole w h area cut met)
    ∙ finished-scaled rect rect p size whole (record { left = omega arith; right = omega arith; upper = omega arith; lower = omega arith })
    lies
