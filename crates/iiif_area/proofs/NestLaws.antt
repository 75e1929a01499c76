-- Cuts of which each rectangle is cut again.
use Rattle.std.proofs.Common.{◌≡◌, ℕ, ◌+◌, List, [], ◌∷◌, Bool, All, count_by, map, refl, ap, ◌∙◌, arith, if◌then◌else◌}
use Rattle.std.specs.List.{flat_map}
use Rattle.std.proofs.lemmas.List.Concat.{flat_map-cons}
use Rattle.std.proofs.lemmas.List.Elements.{All-head, All-tail, All-weaker}
use Rattle.std.proofs.lemmas.List.Sums.{sum_by-cons, sum_by-append}
use Rattle.iiif_pixel.specs.declared.geometry.Rect.{Rect}
use Rattle.iiif_area.specs.Grid.{has_place}
use Rattle.iiif_area.specs.Laws.{IsCutInto, CutsNest}

-- 1 where a test holds, and 0 elsewhere
abbrev one_if : Bool → ℕ
one_if b = if b then 1 else 0

-- what is counted among the pieces of each is what is counted among these
counts_join : {X : Type 0} (test : Rect → Bool) (f : X → Rect) (g : X → List Rect) (xs : List X) →
    All (λ x. count_by test (g x) ≡ one_if (test (f x))) xs → count_by test (flat_map g xs) ≡ count_by test (map f xs)
counts_join test f g [] each = refl
counts_join {X} test f g (x ∷ xs) each =
    let P : X → Type 0 = λ z. count_by test (g z) ≡ one_if (test (f z)) in
    let all : count_by test (flat_map g (x ∷ xs)) ≡ count_by test (g x) + count_by test (flat_map g xs) =
    ap (count_by test) (flat_map-cons g x xs) ∙ sum_by-append (λ r. one_if (test r)) (g x) (flat_map g xs) in
    let first : count_by test (g x) ≡ one_if (test (f x)) = All-head P x xs each in
    let others = counts_join test f g xs (All-tail P x xs each) in
    let both : count_by test (map f (x ∷ xs)) ≡ one_if (test (f x)) + count_by test (map f xs) =
    sum_by-cons (λ r. one_if (test r)) (f x) (map f xs) in
    omega (arith, all, first, others, both)

-- If a part is cut into rectangles, and each of these into pieces, then the part is cut into the pieces.
pub cuts_join : {X : Type 0} (part : Rect) (f : X → Rect) (g : X → List Rect) (xs : List X) → IsCutInto part (map f xs) →
    All (λ x. IsCutInto (f x) (g x)) xs → IsCutInto part (flat_map g xs)
cuts_join {X} part f g xs cut each = λ x y.
    counts_join (λ r. has_place r x y) f g xs
    (All-weaker (λ (z : X). IsCutInto (f z) (g z)) (λ z. count_by (λ r. has_place r x y) (g z) ≡ one_if (has_place (f z) x y))
    (λ z h. h x y) xs each)
    ∙ cut x y

-- The same for a list of rectangles with their pieces.
pub cuts_nest : CutsNest
cuts_nest part cuts cut each = cuts_join part (λ c. c.0) (λ c. c.1) cuts cut each
