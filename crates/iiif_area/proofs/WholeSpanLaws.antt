-- Spans of whole columns, side by side, and rows of their sums.
use Rattle.std.proofs.Common.{⊎_elim, List, [], ◌∷◌, ◌++◌, get_or, length, ◌≡◌, ℕ, ◌+◌, ◌-◌, ◌*◌, ◌<◌, ◌≤◌, refl, sym, ap, ◌∙◌, arith}
use Rattle.std.proofs.lemmas.Bool.{cases_lt}
use Rattle.std.proofs.lemmas.List.{get_or_append_left, get_or_push, length_push}
use Rattle.std.proofs.lemmas.Nat.{same_from_place}
use Rattle.std.proofs.Math.Nat.{mul-le-mul_right}
use Rattle.iiif_pixel.specs.Picture.{Picture}
use Rattle.iiif_pixel.specs.Scaling.{area_sum, sum_from}
use Rattle.iiif_area.specs.declared.columns.Span.{Span}
use Rattle.iiif_area.specs.declared.places.Share.{Share}
use Rattle.iiif_area.specs.declared.weights.Axis.{Axis}
use Rattle.iiif_area.specs.Code.{column_sum, columns_of, held_of, rows_of, span_total, tile_sample, IsMore, IsSpan, IsWholeSpan}
use Rattle.iiif_area.proofs.ColumnLaws.{span_total-area}
use Rattle.iiif_area.proofs.GridLaws.{place_index, FilledTo}
use Rattle.iiif_area.proofs.SumLaws.{sum_from-split, sum_from-one, sum_from-more}

-- One term more of the sum of n terms from u on.
pub next_term : (u n s v : ℕ) (f : ℕ → ℕ) → s ≡ sum_from u n f → v ≡ f (u + n) → s + v ≡ sum_from u (n + 1) f
next_term u n s v f so_far is = let e = sum_from-more u n (u + n) f refl in omega arith

-- A list has no entry more than itself.
pub IsMore-none : (xs : List ℕ) (n m : ℕ) (f : ℕ → ℕ → ℕ) → m ≡ 0 → IsMore xs xs n m f
IsMore-none xs n m f e = record { count = omega arith; kept = λ t l. refl; added = λ i k l h. absurd (omega arith) }

-- A push is one entry more.
pub IsMore-push : (xs ys : List ℕ) (n m i k v p : ℕ) (f : ℕ → ℕ → ℕ) → IsMore xs ys n m f → k < n → m ≡ i * n + k → v ≡ f i k → p ≡ m + 1 →
    IsMore xs (ys ++ v ∷ []) n p f
IsMore-push xs ys n m i k v p f so_far below at is next = record {
  count = omega (arith, length_push ys v, so_far.count);
  kept = λ t l. get_or_append_left ys (v ∷ []) 0 t (omega (arith, so_far.count)) ∙ so_far.kept t l;
  added = λ q r l h.
      ⊎_elim
      (λ (before : q * n + r < m). get_or_append_left ys (v ∷ []) 0 (length xs + (q * n + r)) (omega (arith, so_far.count)) ∙
      so_far.added q r l before)
      (λ (here : m ≤ q * n + r).
      let e : q * n + r ≡ i * n + k = omega arith in
      let same = same_from_place q r i k n l below e in
      get_or_push ys v 0 (length xs + (q * n + r)) (omega (arith, so_far.count)) ∙ is ∙ ap (λ u. f u k) (sym same.0) ∙
      ap (λ u. f q u) (sym same.1))
      (cases_lt (q * n + r) m);
}

-- The total of a whole span is c times the sum of its columns.
pub span_total-whole : (columns : List ℕ) (channels k c n i : ℕ) (s : Span) → 1 < n → IsWholeSpan c n i s →
    span_total columns channels k c s ≡ c * sum_from (i * n) n (λ t. get_or columns (t * channels + k) 0)
unfolding span_total
span_total-whole columns channels k c n i s many whole =
    let f : ℕ → ℕ = λ t. get_or columns (t * channels + k) 0 in
    let u = s.start in
    let e : s.end - 1 - (u + 1) ≡ n - 2 = omega (arith, whole.start, whole.end) in
    let inner = ap (λ m. sum_from (u + 1) m f) e in
    let at : u + 1 + (n - 2) ≡ s.end - 1 = omega (arith, whole.start, whole.end) in
    let one = sum_from-one u f in
    let two = sum_from-split u 1 (n - 2 + 1) f in
    let three = sum_from-more (u + 1) (n - 2) (s.end - 1) f at in
    let all : 1 + (n - 2 + 1) ≡ n = omega arith in
    let total : sum_from u n f ≡ f u + sum_from (u + 1) (n - 2) f + f (s.end - 1) = ap (λ m. sum_from u m f) (sym all) ∙ omega arith in
    let first = ap (λ w. w * f u) whole.first in
    let last = ap (λ w. w * f (s.end - 1)) whole.last in
    let from = ap (λ v. c * sum_from v n f) whole.start in
    let between = ap (λ w. c * w) inner in
    let product = ap (λ w. c * w) total in
    omega arith

-- A row of entries that are f of their places may be appended.
pub FilledTo-more : (w n j m : ℕ) (f : ℕ → ℕ → ℕ → ℕ) (g : ℕ → ℕ → ℕ) (xs ys : List ℕ) → FilledTo w n f xs →
    length xs ≡ place_index w n 0 j 0 → m ≡ w * n →
    IsMore xs ys n m g → ((i k : ℕ) → i < w → k < n → g i k ≡ f i j k) → FilledTo w n f ys
FilledTo-more w n j m f g xs ys filled start all more same = λ p q r lp lr l.
    ⊎_elim
    (λ (before : place_index w n p q r < length xs). more.kept (place_index w n p q r) before ∙ filled p q r lp lr before)
    (λ (after : length xs ≤ place_index w n p q r).
    let row : (p + 1) * n ≤ w * n = mul-le-mul_right n (omega arith) in
    let least : j ≤ q = ⊎_elim (λ (h : q < j). let d : (q + 1) * (w * n) ≤ j * (w * n) = mul-le-mul_right (w * n) (omega arith) in
    absurd (omega arith)) (λ h. h) (cases_lt q j) in
    let most : q ≤ j = ⊎_elim (λ (h : j < q). let d : (j + 1) * (w * n) ≤ q * (w * n) = mul-le-mul_right (w * n) (omega arith) in
    absurd (omega (arith, more.count))) (λ h. h) (cases_lt j q) in
    let e : q ≡ j = omega arith in
    let index : place_index w n p q r ≡ length xs + (p * n + r) = ap (λ y. place_index w n p y r) e ∙ omega arith in
    ap (λ t. get_or ys t 0) index ∙ more.added p r lr (omega arith) ∙ same p r lp lr ∙ ap (λ y. f p y r) (sym e))
    (cases_lt (place_index w n p q r) (length xs))

-- The total of a whole span of column sums is the part's sum.
pub whole_area : (share : Share) (tile : Picture) (i j k p m n : ℕ) (columns : List ℕ) (s : Span) →
    1 < m → n ≡ tile.channels → IsSpan (columns_of share) i s → IsWholeSpan share.size.w m p s →
    ((t : ℕ) → t < share.part.w → get_or columns (t * tile.channels + k) 0 ≡ column_sum tile (held_of share) (rows_of share) j t k) →
    share.size.w * sum_from (p * m) m (λ t. get_or columns (t * n + k) 0) ≡ area_sum share.region share.size share.part
    (tile_sample tile share.corner share.part k) i j
whole_area share tile i j k p m n columns s many en span whole h =
    sym (span_total-whole columns n k share.size.w m p s many whole) ∙
    span_total-area share tile i j k n share.size.w columns s en refl span h

-- A span of no columns, for a list's default.
pub no_span : Span
no_span = record { start = 0; end = 0; first = 0; last = 0 }

-- Whole spans, side by side, have no more columns than the part.
pub whole_within : (axis : Axis) (first w m : ℕ) (spans : List Span) →
    ((t : ℕ) (d : Span) → t < w → IsSpan axis (first + t) (get_or spans t d)) →
    ((t : ℕ) (d : Span) → t < w → IsWholeSpan axis.c m t (get_or spans t d)) → w * m ≤ axis.count
whole_within axis first w m spans each whole =
    ⊎_elim
    (λ (some : 0 < w).
    let last : w - 1 < w = omega arith in
    let e : (w - 1 + 1) * m ≡ w * m = ap (λ u. u * m) (omega arith) in
    let span = each (w - 1) no_span last in
    let is = whole (w - 1) no_span last in
    omega (arith, span.within, is.end))
    (λ (none : w ≤ 0). let e : w * m ≡ 0 * m = ap (λ u. u * m) (omega arith) in omega arith)
    (cases_lt 0 w)
