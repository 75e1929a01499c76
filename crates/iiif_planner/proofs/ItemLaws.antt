-- The places of the elements that pass a test.
use Rattle.std.proofs.Common.{◌≡◌, ℕ, ◌+◌, ◌<◌, ◌≤◌, List, [], ◌∷◌, ◌++◌, Bool, true, false, cond, All, length, get_or, map, append_assoc}
use Rattle.std.proofs.Common.{refl, sym, ap, ◌∙◌, arith, if◌then◌else◌}
use Rattle.std.specs.List.{filter, AllPairs}
use Rattle.std.proofs.Math.Seq.{get_or-append_seam}
use Rattle.std.proofs.lemmas.List.{length_push}
use Rattle.std.proofs.lemmas.List.Elements.{All-nil, All-cons, All-weaker}
use Rattle.std.proofs.lemmas.List.Kept.{AllPairs-cons}
use Rattle.iiif_planner.specs.Bands.{places_from}
use Rattle.iiif_planner.specs.BandLaws.{PlacesRise, PlacesAreThose}

all_if : (P : ℕ → Type 0) (b : Bool) (n : ℕ) (xs : List ℕ) → P n → All P xs → All P (if b then n ∷ xs else xs)
all_if P true n xs p ps = All-cons P n xs p ps
all_if P false n xs p ps = ps

-- none is before the first
pub from_first : {K : Type 0} (n : ℕ) (test : K → Bool) (keys : List K) → All (λ i. n ≤ i) (places_from n test keys)
unfolding places_from
from_first n test [] = All-nil (λ i. n ≤ i)
from_first n test (k ∷ ks) =
    all_if (λ i. n ≤ i) (test k) n (places_from (n + 1) test ks) (omega arith)
    (All-weaker (λ i. n + 1 ≤ i) (λ i. n ≤ i) (λ i h. omega arith) (places_from (n + 1) test ks) (from_first (n + 1) test ks))

-- and none behind the last
pub within_list : {K : Type 0} (n : ℕ) (test : K → Bool) (keys : List K) → All (λ i. i < n + length keys) (places_from n test keys)
unfolding places_from
within_list n test [] = All-nil (λ i. i < n + 0)
within_list n test (k ∷ ks) =
    all_if (λ i. i < n + length (k ∷ ks)) (test k) n (places_from (n + 1) test ks) (omega arith)
    (All-weaker (λ i. i < n + 1 + length ks) (λ i. i < n + length (k ∷ ks)) (λ i h. omega arith) (places_from (n + 1) test ks)
    (within_list (n + 1) test ks))

pairs_if : (b : Bool) (n : ℕ) (xs : List ℕ) → All (λ j. n < j) xs → AllPairs (λ i j. i < j) xs →
    AllPairs (λ i j. i < j) (if b then n ∷ xs else xs)
pairs_if true n xs a p = AllPairs-cons (λ i j. i < j) n xs a p
pairs_if false n xs a p = p

pub places_rise : (K : Type 0) → PlacesRise K
unfolding places_from
places_rise K n test [] = λ i j d l m. absurd (omega arith)
places_rise K n test (k ∷ ks) =
    pairs_if (test k) n (places_from (n + 1) test ks)
    (All-weaker (λ i. n + 1 ≤ i) (λ i. n < i) (λ i h. omega arith) (places_from (n + 1) test ks) (from_first (n + 1) test ks))
    (places_rise K (n + 1) test ks)

map_if : {K : Type 0} (f : ℕ → K) (b : Bool) (n : ℕ) (xs : List ℕ) (k : K) (ys : List K) → f n ≡ k → map f xs ≡ ys →
    map f (if b then n ∷ xs else xs) ≡ cond b (k ∷ ys) ys
map_if {K} f true n xs k ys e h = ap (λ (x : K). x ∷ map f xs) e ∙ ap (λ zs. k ∷ zs) h
map_if f false n xs k ys e h = h

read_places : {K : Type 0} (test : K → Bool) (done rest keys : List K) (x : K) → keys ≡ done ++ rest →
    map (λ i. get_or keys i x) (places_from (length done) test rest) ≡ filter test rest
unfolding places_from
read_places test done [] keys x e = refl
read_places {K} test done (k ∷ ks) keys x e =
    let next : keys ≡ (done ++ k ∷ []) ++ ks = e ∙ sym (append_assoc done (k ∷ []) ks) in
    let here : get_or keys (length done) x ≡ k = ap (λ (ys : List K). get_or ys (length done) x) e ∙ get_or-append_seam done k ks x in
    let rest : map (λ i. get_or keys i x) (places_from (length done + 1) test ks) ≡ filter test ks =
    ap (λ n. map (λ i. get_or keys i x) (places_from n test ks)) (sym (length_push done k)) ∙
    read_places test (done ++ k ∷ []) ks keys x next in
    map_if (λ i. get_or keys i x) (test k) (length done) (places_from (length done + 1) test ks) k (filter test ks) here rest

pub places_are : (K : Type 0) → PlacesAreThose K
places_are K test keys x = read_places test [] keys keys x refl
