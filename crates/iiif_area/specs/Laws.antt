-- Laws of weights, of sums over parts and of merging.
--
-- weight   of source column x in result column i: the length that they share, of a parts (`weight_of`)
-- part sum the weighted sum of a part's samples at a result place (`area_sum`)
-- cut      rectangles that have each place of a part exactly once, and no other place
use Rattle.std.specs.Prelude.{◌≡◌, ℕ, ◌+◌, ◌*◌, ◌/◌, ◌^◌, ◌<◌, ◌≤◌, ◌↔◌, true, List, Bool, sum, sum_by, count_by, map, fold, All}
use Rattle.std.specs.Prelude.{if◌then◌else◌}
use Rattle.std.specs.Int.{div_ceil}
use Rattle.std.specs.List.{filter, flat_map, range_with_len}
use Rattle.iiif_pixel.specs.Geometry.{HasPlace, LiesIn}
use Rattle.iiif_pixel.specs.Operations.{crop}
use Rattle.iiif_pixel.specs.Picture.{Picture, IsWhole, dim_of}
use Rattle.iiif_pixel.specs.Scaling.{sum_from, weight_of, area_sum, scale, whole_of}
use Rattle.iiif_pixel.specs.declared.geometry.Dim.{Dim}
use Rattle.iiif_pixel.specs.declared.geometry.Rect.{Rect}
use Rattle.iiif_area.specs.Places.{part_of, places_of, IsInside}
use Rattle.iiif_area.specs.Grid.{finished, has_place, grid_of, merged, part_sum, sums_at, sums_of}

-- The weights of each result column add up to a.
abbrev pub WeightsAddUp : Type 0
WeightsAddUp = (i a c : ℕ) → i < c → sum_from 0 a (λ x. weight_of i x a c) ≡ a

-- Source columns from u on have no weight in the result columns before floor(u * c / a).
abbrev pub NoWeightBefore : Type 0
NoWeightBefore = (i x u a c : ℕ) → u ≤ x → i < u * c / a → weight_of i x a c ≡ 0

-- Source columns before v have no weight in the result columns from ceil(v * c / a) on.
abbrev pub NoWeightFrom : Type 0
NoWeightFrom = (i x v a c : ℕ) → 0 < a → x < v → div_ceil (v * c) a ≤ i → weight_of i x a c ≡ 0

-- A part's sum is the sum of its columns left of a cut plus the sum of the others.
abbrev pub SplitsAtColumn : Type 0
SplitsAtColumn = (region size : Dim) (x y m n h : ℕ) (f : ℕ → ℕ → ℕ) (i j : ℕ) →
    area_sum region size (record { x = x; y = y; w = m + n; h = h }) f i j
    ≡ area_sum region size (record { x = x; y = y; w = m; h = h }) f i j + area_sum region size (record { x = x + m; y = y; w = n; h = h })
    f i j

-- A part's sum is the sum of its rows above a cut plus the sum of the others.
abbrev pub SplitsAtRow : Type 0
SplitsAtRow = (region size : Dim) (x y w m n : ℕ) (f : ℕ → ℕ → ℕ) (i j : ℕ) →
    area_sum region size (record { x = x; y = y; w = w; h = m + n }) f i j
    ≡ area_sum region size (record { x = x; y = y; w = w; h = m }) f i j + area_sum region size (record { x = x; y = y + m; w = w; h = n })
    f i j

-- A part's sum is 0 at the result places that it doesn't cover.
abbrev pub IsZeroElsewhere : Type 0
IsZeroElsewhere = (region size : Dim) (part : Rect) (f : ℕ → ℕ → ℕ) (i j : ℕ) → 0 < region.w → 0 < region.h →
    ¬ (HasPlace (places_of region size part) i j) → area_sum region size part f i j ≡ 0

-- A tile's part of a region has exactly the region's places that lie in the tile.
abbrev pub PartIsCommon : Type 0
PartIsCommon = (tile region : Rect) (x y : ℕ) →
    HasPlace (part_of tile region) x y ↔ ((x < region.w) × (y < region.h) × HasPlace tile (region.x + x) (region.y + y))

-- The test `has_place` is true exactly at the places of the rectangle.
abbrev pub PlaceIsTested : Type 0
PlaceIsTested = (r : Rect) (x y : ℕ) → (has_place r x y ≡ true) ↔ HasPlace r x y

-- A part's sum depends on the samples of its own places alone.
abbrev pub IsOfPart : Type 0
IsOfPart = (region size : Dim) (part : Rect) (f g : ℕ → ℕ → ℕ) (i j : ℕ) →
    ((x y : ℕ) → HasPlace part x y → f x y ≡ g x y) → area_sum region size part f i j ≡ area_sum region size part g i j

-- A smaller part covers fewer result places.
abbrev pub PlacesGrow : Type 0
PlacesGrow = (region size : Dim) (part of : Rect) → 0 < region.w → 0 < region.h → IsInside part of →
    IsInside (places_of region size part) (places_of region size of)

-- Some rectangles are a cut of a part: each place of the part lies in exactly one of them, and no other place in any.
abbrev pub IsCutInto : Rect → List Rect → Type 0
IsCutInto part rects = (x y : ℕ) → count_by (λ r. has_place r x y) rects ≡ (if has_place part x y then 1 else 0)

-- However a part is cut into rectangles, their sums add up to its sum.
abbrev pub CutsAddUp : Type 0
CutsAddUp = (region size : Dim) (part : Rect) (rects : List Rect) (f : ℕ → ℕ → ℕ) (i j : ℕ) → IsCutInto part rects →
    area_sum region size part f i j ≡ sum_by (λ r. area_sum region size r f i j) rects

-- If no sample of a part is above m, its sum is at most the region's area times m.
abbrev pub IsBounded : Type 0
IsBounded = (region size : Dim) (part : Rect) (f : ℕ → ℕ → ℕ) (i j m : ℕ) → ((x y : ℕ) → HasPlace part x y → f x y ≤ m) →
    area_sum region size part f i j ≤ region.w * region.h * m

-- A sum of samples of up to 16 bits fits 64 bits, for regions of at most 2^32 places.
abbrev pub SumsFit : Type 0
SumsFit = (region size : Dim) (part : Rect) (f : ℕ → ℕ → ℕ) (i j : ℕ) → region.w * region.h ≤ 2 ^ 32 →
    ((x y : ℕ) → HasPlace part x y → f x y ≤ 65535) → area_sum region size part f i j < 2 ^ 64

-- Merging a part's sums adds them at every place, without loss where the totals fit 64 bits.
abbrev pub MergingAdds : Type 0
MergingAdds = (p : Picture) (size : Dim) (part rect : Rect) (f : ℕ → ℕ → ℕ → ℕ) → 0 < p.width → 0 < p.height →
    ((i j k : ℕ) → HasPlace rect i j → k < p.channels → f i j k + part_sum p size part i j k < 2 ^ 64) →
    merged (grid_of rect p.channels f) (sums_of p size part) ≡ grid_of rect p.channels (λ i j k. f i j k + part_sum p size part i j k)

-- However a part of a whole picture is cut into rectangles, their sums, merged one after another into sums of 0, are the part's sums.
abbrev pub PiecesMerge : Type 0
PiecesMerge = (p : Picture) (size : Dim) (part rect : Rect) (rects : List Rect) → IsWhole p → 0 < p.width → 0 < p.height →
    p.width * p.height ≤ 2 ^ 32 → IsCutInto part rects →
    fold merged (grid_of rect p.channels (λ i j k. 0)) (map (λ r. sums_of p size r) rects) ≡ sums_at rect p size part

-- A test passes each part that covers a place of a rectangle.
abbrev pub PassesMet : Picture → Dim → Rect → (Rect → Bool) → Type 0
PassesMet p size rect test = (r : Rect) (i j : ℕ) → HasPlace (places_of (dim_of p) size r) i j → HasPlace rect i j → test r ≡ true

-- The parts that pass such a test, merged into sums of 0, are enough: the others add nothing in the rectangle.
abbrev pub OthersAddNothing : Type 0
OthersAddNothing = (p : Picture) (size : Dim) (part rect : Rect) (rects : List Rect) (test : Rect → Bool) → IsWhole p → 0 < p.width →
    0 < p.height →
    p.width * p.height ≤ 2 ^ 32 → IsCutInto part rects → PassesMet p size rect test →
    fold merged (grid_of rect p.channels (λ i j k. 0)) (map (λ r. sums_of p size r) (filter test rects)) ≡ sums_at rect p size part

-- A rectangle of the scaled picture is made of the parts that cover a place of it, however the whole is cut.
abbrev pub BandsAreCut : Type 0
BandsAreCut = (p : Picture) (size : Dim) (rect : Rect) (rects : List Rect) (test : Rect → Bool) → IsWhole p → 0 < p.width → 0 < p.height →
    p.width * p.height ≤ 2 ^ 32 → IsCutInto (whole_of (dim_of p)) rects → PassesMet p size rect test → LiesIn rect size →
    finished (fold merged (grid_of rect p.channels (λ i j k. 0)) (map (λ r. sums_of p size r) (filter test rects))) (dim_of p) p.top rect
    ≡ crop (scale p size) rect

-- A whole picture that isn't empty, scaled to its own sides, stays as it is.
abbrev pub SameSidesChangeNothing : Type 0
SameSidesChangeNothing = (p : Picture) → IsWhole p → 0 < p.width → 0 < p.height → scale p (dim_of p) ≡ p

-- If a part is cut into rectangles, and each of these into pieces, then the part is cut into the pieces. Each pair is a rectangle and its
-- pieces.
abbrev pub CutsNest : Type 0
CutsNest = (part : Rect) (cuts : List (Rect × List Rect)) → IsCutInto part (map (λ c. c.0) cuts) →
    All (λ c. IsCutInto c.0 c.1) cuts → IsCutInto part (flat_map (λ c. c.1) cuts)

-- A sum over a range, in std's words.
abbrev pub IsSumOverRange : Type 0
IsSumOverRange = (u n : ℕ) (f : ℕ → ℕ) → sum_from u n f ≡ sum (map f (range_with_len u n))
