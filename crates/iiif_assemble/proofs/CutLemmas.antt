-- The tiles that have a place of a part of a region cut it.
use Rattle.std.proofs.Common.{◌≡◌, ℕ, ◌+◌, List, [], ◌∷◌, Bool, true, false, cond, All, get_or, map, refl, sym, subst, ap, ◌∙◌, arith}
use Rattle.std.proofs.Common.{⊎_elim, if◌then◌else◌}
use Rattle.std.specs.List.{filter, count_by}
use Rattle.std.proofs.lemmas.Bool.{false≢true, false_from_ne_true}
use Rattle.std.proofs.lemmas.List.Elements.{All-head, All-tail, All-weaker}
use Rattle.iiif_pixel.specs.Geometry.{HasPlace, LiesIn, nested, sides_of}
use Rattle.iiif_pixel.specs.Scaling.{whole_of}
use Rattle.iiif_pixel.specs.declared.geometry.Dim.{Dim}
use Rattle.iiif_pixel.specs.declared.geometry.Rect.{Rect}
use Rattle.iiif_area.specs.Grid.{has_place}
use Rattle.iiif_area.specs.Laws.{IsCutInto}
use Rattle.iiif_area.specs.Places.{part_of}
use Rattle.iiif_area.proofs.GridLaws.{has_place-tested, has_place-yes, has_place-no, place_cases}
use Rattle.iiif_area.proofs.PlaceLaws.{part_is_common}
use Rattle.iiif_keys.proofs.Cuts.{alike, clipped_part, counted}
use Rattle.iiif_keys.specs.Blocks.{square, tile_of}
use Rattle.iiif_keys.specs.declared.keys.TileKey.{TileKey}
use Rattle.iiif_planner.proofs.Counts.{count_mapped}
use Rattle.iiif_planner.proofs.Once.{count_same, count_none}
use Rattle.iiif_planner.specs.Bands.{tile_places}
use Rattle.iiif_planner.specs.BandLaws.{PlacesAreThose}
use Rattle.iiif_assemble.specs.Code.{ListsMet}
use Rattle.iiif_assemble.proofs.SumLemmas.{map_twice}

abbrev one_zero : Bool → ℕ
one_zero b = cond b 1 0

count_cond : {X : Type 0} (p : X → Bool) (b : Bool) (x : X) (xs ys : List X) → (b ≡ false → p x ≡ false) → count_by p xs ≡ count_by p ys →
    count_by p (cond b (x ∷ xs) xs) ≡ count_by p (x ∷ ys)
count_cond p true x xs ys off e = counted p x xs ∙ ap (λ n. cond (p x) 1 0 + n) e ∙ sym (counted p x ys)
count_cond p false x xs ys off e =
    let none : one_zero (p x) ≡ 0 = ap one_zero (off refl) in
    let c : count_by p (x ∷ ys) ≡ one_zero (p x) + count_by p ys = counted p x ys in
    let same : count_by p (x ∷ ys) ≡ 0 + count_by p ys = c ∙ ap (λ n. n + count_by p ys) none in
    e ∙ omega (arith, same)

pub count_filtered : {X : Type 0} (p test : X → Bool) (xs : List X) → All (λ x. test x ≡ false → p x ≡ false) xs →
    count_by p (filter test xs) ≡ count_by p xs
count_filtered p test [] off = refl
count_filtered {X} p test (x ∷ xs) off =
    let P : X → Type 0 = λ y. test y ≡ false → p y ≡ false in
    count_cond p (test x) x (filter test xs) xs (All-head P x xs off) (count_filtered p test xs (All-tail P x xs off))

-- what is cut of a region cuts each part of it
pub cut_part : {K : Type 0} (f : K → Rect) (region from : Rect) (keys : List K) → LiesIn from (sides_of region) →
    IsCutInto (whole_of (sides_of region)) (map (λ k. part_of (f k) region) keys) →
    IsCutInto (whole_of (sides_of (nested region from))) (map (λ k. part_of (f k) (nested region from)) keys)
cut_part {K} f region from keys lies cut x y =
    let part = nested region from in
    let all = whole_of (sides_of part) in
    let whole = whole_of (sides_of region) in
    let one_if : Bool → ℕ = λ b. if b then 1 else 0 in
    let here = count_mapped (λ r. has_place r x y) (λ k. part_of (f k) part) keys in
    ⊎_elim
    (λ (yes : HasPlace all x y).
    let c = lies.columns in
    let r = lies.rows in
    let yes' : HasPlace whole (from.x + x) (from.y + y) = (omega arith, omega arith, omega arith, omega arith) in
    let same : (k : K) → has_place (part_of (f k) part) x y ≡ has_place (part_of (f k) region) (from.x + x) (from.y + y) = λ k.
    alike _ _
    (λ h. let q = (part_is_common (f k) part x y).0 ((has_place-tested (part_of (f k) part) x y).0 h) in
    let at = q.2 in
    (has_place-tested (part_of (f k) region) (from.x + x) (from.y + y)).1
    ((part_is_common (f k) region (from.x + x) (from.y + y)).1
    (omega arith, omega arith, (omega arith, omega arith, omega arith, omega arith))))
    (λ h. let q = (part_is_common (f k) region (from.x + x) (from.y + y)).0
    ((has_place-tested (part_of (f k) region) (from.x + x) (from.y + y)).0 h) in
    let at = q.2 in
    (has_place-tested (part_of (f k) part) x y).1
    ((part_is_common (f k) part x y).1 (omega arith, omega arith, (omega arith, omega arith, omega arith, omega arith)))) in
    here ∙ count_same (λ k. has_place (part_of (f k) part) x y) (λ k. has_place (part_of (f k) region) (from.x + x) (from.y + y)) keys
    (λ i k _. same (get_or keys i k))
    ∙ sym (count_mapped (λ r. has_place r (from.x + x) (from.y + y)) (λ k. part_of (f k) region) keys)
    ∙ cut (from.x + x) (from.y + y) ∙ ap one_if (has_place-yes whole (from.x + x) (from.y + y) yes') ∙
    sym (ap one_if (has_place-yes all x y yes)))
    (λ (no : ¬ (HasPlace all x y)).
    let none : (k : K) → has_place (part_of (f k) part) x y ≡ false = λ k.
    false_from_ne_true _ (λ h. let q = (part_is_common (f k) part x y).0 ((has_place-tested (part_of (f k) part) x y).0 h) in
    no (omega arith, omega arith, omega arith, omega arith)) in
    here ∙ count_none (λ k. has_place (part_of (f k) part) x y) keys (λ i k _. none (get_or keys i k)) ∙
    sym (ap one_if (has_place-no all x y no)))
    (place_cases all x y)

-- and so do those that pass a test, where the others have no place of it
pub cut_chosen : {K : Type 0} (test : K → Bool) (f : K → Rect) (whole : Rect) (keys : List K) →
    All (λ k. test k ≡ false → (x y : ℕ) → ¬ (HasPlace (f k) x y)) keys → IsCutInto whole (map f keys) →
    IsCutInto whole (map f (filter test keys))
cut_chosen {K} test f whole keys off cut x y =
    count_mapped (λ r. has_place r x y) f (filter test keys)
    ∙ count_filtered (λ k. has_place (f k) x y) test keys
    (All-weaker (λ k. test k ≡ false → (u v : ℕ) → ¬ (HasPlace (f k) u v)) (λ k. test k ≡ false → has_place (f k) x y ≡ false)
    (λ k h e. has_place-no (f k) x y (h e x y)) keys off)
    ∙ sym (count_mapped (λ r. has_place r x y) f keys) ∙ cut x y

-- the places of the tiles of a band's items cut the band's part of the region
pub items_cut : PlacesAreThose TileKey → (image : Dim) (region from : Rect) (keys : List TileKey) (items : List ℕ) (x : TileKey) →
    LiesIn region image → LiesIn from (sides_of region) →
    IsCutInto (whole_of (sides_of region)) (map (λ k. part_of (tile_of image k) region) keys) →
    ListsMet (tile_places region) from keys items →
    IsCutInto (whole_of (sides_of (nested region from))) (map (λ i. part_of (tile_of image (get_or keys i x)) (nested region from)) items)
items_cut those image region from keys items x lies inside cut lists =
    let part = nested region from in
    let test = lists.0 in
    let g : TileKey → Rect = λ k. part_of (tile_of image k) part in
    let off : (k : TileKey) → test k ≡ false → (u v : ℕ) → ¬ (HasPlace (g k) u v) = λ k e u v h.
    (let q = (part_is_common (tile_of image k) part u v).0 h in
    let at = q.2 in
    let c = inside.columns in
    let r = inside.rows in
    let there : HasPlace (part_of (tile_of image k) region) (from.x + u) (from.y + v) =
    (part_is_common (tile_of image k) region (from.x + u) (from.y + v)).1
    (omega arith, omega arith, (omega arith, omega arith, omega arith, omega arith)) in
    let of_tile : HasPlace (tile_places region k) (from.x + u) (from.y + v) =
    subst (λ (s : Rect). HasPlace s (from.x + u) (from.y + v)) (clipped_part image (square k.edge k.tx k.ty) region lies) there in
    let passed = lists.1 k (from.x + u) (from.y + v) of_tile (omega arith, omega arith, omega arith, omega arith) in
    let f : false ≡ true = sym e ∙ passed in
    absurd (false≢true f)) in
    let chosen : map (λ i. get_or keys i x) items ≡ filter test keys = ap (map (λ i. get_or keys i x)) lists.2 ∙ those test keys x in
    let rects : map (λ i. g (get_or keys i x)) items ≡ map g (filter test keys) = sym (map_twice g (λ i. get_or keys i x) items) ∙
    ap (map g) chosen in
    subst (λ rs. IsCutInto (whole_of (sides_of part)) rs) (sym rects)
    (cut_chosen test g (whole_of (sides_of part)) keys (λ i d l. off (get_or keys i d))
    (cut_part (tile_of image) region from keys inside cut))
