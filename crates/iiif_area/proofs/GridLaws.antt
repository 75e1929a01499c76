-- Grids of places: their indices, their sums, and the test of a place.
use Rattle.std.proofs.Common.{◌≡◌, ℕ, ◌+◌, ◌-◌, ◌*◌, ◌/◌, ◌%◌, ◌<◌, ◌≤◌, List, [], ◌∷◌, ◌++◌, true, false, length, get_or, take, drop, ◌⊎◌}
use Rattle.std.proofs.Common.{inl, inr, sym, ap, ◌∙◌, arith, ⊎_elim}
use Rattle.std.proofs.lemmas.Nat.{same_from_place, div-add-mod', div_below, mod_below}
use Rattle.std.proofs.lemmas.Bool.{false≢true, cases_lt, cases_order, and_from, le-leb, lt-ltb}
use Rattle.std.proofs.lemmas.Bool.Decides.{nat_tests}
use Rattle.std.proofs.Math.Nat.{mul-le-mul_right}
use borrow.Rule.Slice.PartMut.{put_mid}
use Rattle.std.proofs.lemmas.List.{get_or_append_left, get_or_push, length_push, get_or-take, get_or-drop}
use Rattle.iiif_pixel.specs.Geometry.{HasPlace}
use Rattle.iiif_pixel.specs.Picture.{samples_of}
use Rattle.iiif_pixel.specs.declared.geometry.Rect.{Rect}
use Rattle.iiif_pixel.proofs.SampleLists.{index_below, samples_from_places, samples_of-same, get_or-samples_of}
use Rattle.iiif_pixel.proofs.Splice.{get_or-put_inside, get_or-put_below, get_or-put_above}
use Rattle.iiif_area.specs.Grid.{Grid, grid_of, sum_at, has_place}
use Rattle.iiif_area.specs.Laws.{PlaceIsTested}

-- The index of channel k of column i and row j, in rows of w places with n channels.
abbrev pub place_index : ℕ → ℕ → ℕ → ℕ → ℕ → ℕ
place_index w n i j k = (j * w + i) * n + k

-- Each entry of xs is f of its place and channel, as far as xs goes.
abbrev pub FilledTo : ℕ → ℕ → (ℕ → ℕ → ℕ → ℕ) → List ℕ → Type 0
FilledTo w n f xs = (i j k : ℕ) → i < w → k < n → place_index w n i j k < length xs → get_or xs (place_index w n i j k) 0 ≡ f i j k

-- two places with one index are one
pub same_place : (w n i j k p q r : ℕ) → i < w → p < w → k < n → r < n → place_index w n i j k ≡ place_index w n p q r → (i ≡ p) × (j ≡ q) ×
    (k ≡ r)
same_place w n i j k p q r a b c d e =
    let s = same_from_place (j * w + i) k (q * w + p) r n c d e in
    let t = same_from_place j i q p w a b s.0 in
    (t.1, t.0, s.1)

-- An entry that is f of the next place may be pushed.
pub FilledTo-push : (w n : ℕ) (f : ℕ → ℕ → ℕ → ℕ) (xs : List ℕ) (i j k v : ℕ) → FilledTo w n f xs → i < w → k < n →
    length xs ≡ place_index w n i j k → v ≡ f i j k → FilledTo w n f (xs ++ v ∷ [])
FilledTo-push w n f xs i j k v filled a b e d = λ p q r m o s.
    ⊎_elim
    (λ (l : place_index w n p q r < length xs). get_or_append_left xs (v ∷ []) 0 (place_index w n p q r) l ∙ filled p q r m o l)
    (λ (g : length xs ≤ place_index w n p q r).
    let same : place_index w n p q r ≡ length xs = omega (arith, length_push xs v) in
    let t = same_place w n p q r i j k m a o b (same ∙ e) in
    get_or_push xs v 0 (place_index w n p q r) (sym same) ∙ d ∙ ap (λ u. f u j k) (sym t.0) ∙ ap (λ u. f p u k) (sym t.1) ∙
    ap (λ u. f p q u) (sym t.2))
    (cases_lt (place_index w n p q r) (length xs))

-- A list that is filled to its end holds f of all places.
pub filled_is : (w h n : ℕ) (f : ℕ → ℕ → ℕ → ℕ) (xs : List ℕ) → length xs ≡ w * h * n → FilledTo w n f xs → xs ≡ samples_of w h n f
filled_is w h n f xs e filled =
    samples_from_places w h n xs f e (λ x y k lx ly lk. filled x y k lx lk (omega (arith, index_below w h n x y k lx ly lk)))

-- The sum at a place of a grid that is built by f is f of that place.
pub sum_at-grid_of : (r : Rect) (n : ℕ) (f : ℕ → ℕ → ℕ → ℕ) (i j k : ℕ) → HasPlace r i j → k < n → sum_at (grid_of r n f) i j k ≡ f i j k
unfolding sum_at
sum_at-grid_of r n f i j k p l =
    let x : r.x + (i - r.x) ≡ i = omega arith in
    let y : r.y + (j - r.y) ≡ j = omega arith in
    get_or-samples_of r.w r.h n (λ u v t. f (r.x + u) (r.y + v) t) (i - r.x) (j - r.y) k 0 (omega arith) (omega arith) l
    ∙ ap (λ u. f u (r.y + (j - r.y)) k) x ∙ ap (λ u. f i u k) y

-- Two functions that agree at each place build one grid.
pub grid_of-same : (r : Rect) (n : ℕ) (f g : ℕ → ℕ → ℕ → ℕ) → ((i j k : ℕ) → HasPlace r i j → k < n → f i j k ≡ g i j k) →
    grid_of r n f ≡ grid_of r n g
grid_of-same r n f g h =
    ap (λ (s : List ℕ). let d : Grid = record { rect = r; channels = n; sums = s } in d)
    (samples_of-same r.w r.h n _ _ (λ x y k lx ly lk. h (r.x + x) (r.y + y) k (omega arith, omega arith, omega arith, omega arith) lk))

-- A place is one of a rectangle, or it isn't.
pub place_cases : (r : Rect) (i j : ℕ) → HasPlace r i j ⊎ (¬ (HasPlace r i j))
place_cases r i j =
    ⊎_elim
    (λ (a : i < r.x). inr (λ p. omega arith))
    (λ (a : r.x ≤ i). ⊎_elim
    (λ (b : i < r.x + r.w). ⊎_elim
    (λ (c : j < r.y). inr (λ p. omega arith))
    (λ (c : r.y ≤ j). ⊎_elim
    (λ (d : j < r.y + r.h). inl (a, b, c, d))
    (λ (d : r.y + r.h ≤ j). inr (λ p. omega arith))
    (cases_lt j (r.y + r.h)))
    (cases_lt j r.y))
    (λ (b : r.x + r.w ≤ i). inr (λ p. omega arith))
    (cases_lt i (r.x + r.w)))
    (cases_lt i r.x)

-- The test is true at a place of the rectangle.
pub has_place-yes : (r : Rect) (i j : ℕ) → HasPlace r i j → has_place r i j ≡ true
unfolding has_place
has_place-yes r i j p = and_from _ _ (and_from _ _ (le-leb r.x i p.0) (lt-ltb i (r.x + r.w) p.1))
    (and_from _ _ (le-leb r.y j p.2) (lt-ltb j (r.y + r.h) p.3))

-- The test is false elsewhere.
pub has_place-no : (r : Rect) (i j : ℕ) → ¬ (HasPlace r i j) → has_place r i j ≡ false
unfolding has_place
has_place-no r i j off = grind (arith, nat_tests)

-- The test is true exactly at the places of the rectangle.
pub has_place-tested : PlaceIsTested
has_place-tested r i j = (
  λ e. ⊎_elim
      (λ (p : HasPlace r i j). p)
      (λ (p : ¬ (HasPlace r i j)). let f : false ≡ true = sym (has_place-no r i j p) ∙ e in absurd (false≢true f))
      (place_cases r i j),
  has_place-yes r i j,
)

-- A run of m places of a row lies within the grid.
pub run-le : (w h n i m q : ℕ) → i + m ≤ w → q < h → (q * w + i) * n + m * n ≤ w * h * n
run-le w h n i m q a b =
    let e : (q + 1) * w ≤ h * w = mul-le-mul_right w (omega arith) in
    let d : (q * w + i + m) * n ≤ w * h * n = mul-le-mul_right n (omega arith) in
    omega arith

-- An entry of an earlier place has a smaller index than each entry of a later place.
pub entry-lt : (r s n k : ℕ) → r < s → k < n → r * n + k < s * n
entry-lt r s n k a b =
    let e : (r + 1) * n ≤ s * n = mul-le-mul_right n (omega arith) in
    omega arith

-- An index is that of a place and a channel.
pub index_parts : (n w t : ℕ) → t < w * n → (t / n < w) × (t % n < n) × (t / n * n + t % n ≡ t)
index_parts n w t h =
    ⊎_elim
    (λ (a : 0 < n).
    let e = div-add-mod' t n in
    (div_below t n w a h, mod_below t n a, omega arith))
    (λ (a : n ≤ 0). let z : w * n ≡ w * 0 = ap (λ u. w * u) (omega arith) in absurd (omega arith))
    (cases_lt 0 n)

-- An entry of the part of a list that begins at a and is k long.
pub part_at : (a k : ℕ) (xs : List ℕ) (t : ℕ) → t < k → get_or (take k (drop a xs)) t 0 ≡ get_or xs (a + t) 0
part_at a k xs t h = get_or-take k (drop a xs) t 0 h ∙ get_or-drop a xs t 0

-- After a write to m places of row q, from column l on, these places have what was written.
pub get_or-row_written : (xs ys : List ℕ) (w n l m q i k : ℕ) → length ys ≡ m * n → (q * w + l) * n + m * n ≤ length xs → l ≤ i →
    i < l + m → k < n →
    get_or (put_mid ((q * w + l) * n) (m * n) xs ys) (place_index w n i q k) 0 ≡ get_or ys ((i - l) * n + k) 0
get_or-row_written xs ys w n l m q i k e f a b c =
    let d = entry-lt (i - l) m n k (omega arith) c in
    let g : place_index w n i q k ≡ (q * w + l) * n + ((i - l) * n + k) =
    let h : i ≡ l + (i - l) = omega arith in
    let r : i * n ≡ (l + (i - l)) * n = ap (λ u. u * n) h in omega arith in
    ap (λ u. get_or (put_mid ((q * w + l) * n) (m * n) xs ys) u 0) g
    ∙ get_or-put_inside ((q * w + l) * n) (m * n) xs ys ((i - l) * n + k) (omega arith) (omega arith)

-- After such a write every other place has what it had.
pub get_or-row_kept : (xs ys : List ℕ) (w n l m q i j k : ℕ) → length ys ≡ m * n → (q * w + l) * n + m * n ≤ length xs → l + m ≤ w → i < w →
    k < n → (j ≡ q → l ≤ i → i < l + m → ⊥) →
    get_or (put_mid ((q * w + l) * n) (m * n) xs ys) (place_index w n i j k) 0 ≡ get_or xs (place_index w n i j k) 0
get_or-row_kept xs ys w n l m q i j k e f a b c apart =
    let before = λ (h : j * w + i < q * w + l).
    get_or-put_below ((q * w + l) * n) (m * n) xs ys (place_index w n i j k) (omega arith) (entry-lt (j * w + i) (q * w + l) n k h c) in
    let after = λ (h : q * w + l + m ≤ j * w + i).
    (let s : (q * w + l + m) * n ≤ (j * w + i) * n = mul-le-mul_right n h in
    get_or-put_above ((q * w + l) * n) (m * n) xs ys (place_index w n i j k) (omega arith) e (omega arith)) in
    ⊎_elim
    (λ (same : j ≡ q). ⊎_elim
    (λ (h : i < l). before (omega (arith, ap (λ u. u * w) same)))
    (λ (h : l ≤ i). ⊎_elim
    (λ (g : i < l + m). absurd (apart same h g))
    (λ (g : l + m ≤ i). after (omega (arith, ap (λ u. u * w) same)))
    (cases_lt i (l + m)))
    (cases_lt i l))
    (λ (other : (j < q) ⊎ (q < j)). ⊎_elim
    (λ (h : j < q). before (omega (arith, entry-lt j q w i h b)))
    (λ (h : q < j). let s : (q + 1) * w ≤ j * w = mul-le-mul_right w (omega arith) in after (omega arith))
    other)
    (cases_order j q)
