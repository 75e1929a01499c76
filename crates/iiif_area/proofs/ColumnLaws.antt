-- Column sums of a tile: how they grow row by row, how a span adds them up, and that both make the part's sum.
use Rattle.std.proofs.Common.{⊎_elim, List, get_or, length, ◌≡◌, ℕ, ◌+◌, ◌-◌, ◌*◌, ◌/◌, ◌%◌, ◌^◌, ◌<◌, ◌≤◌, sym, ap, ◌∙◌, refl, arith}
use Rattle.std.proofs.lemmas.Bool.{cases_lt}
use Rattle.iiif_pixel.specs.Picture.{Picture, sample_at, span_of}
use Rattle.iiif_pixel.proofs.Reading.{get_or-span_of}
use Rattle.iiif_pixel.proofs.SampleLists.{length-row_of}
use Rattle.iiif_pixel.specs.Scaling.{sum_from, weight_of, area_sum}
use Rattle.iiif_pixel.specs.declared.geometry.Rect.{Rect}
use Rattle.iiif_area.specs.declared.columns.Span.{Span}
use Rattle.iiif_area.specs.declared.places.Share.{Share}
use Rattle.iiif_area.specs.declared.weights.Axis.{Axis}
use Rattle.iiif_area.specs.Code.{column_sum, columns_of, held_of, rows_of, span_total, tile_sample, IsSpan}
use Rattle.iiif_area.proofs.AreaLaws.{area_from_corner, area-fits}
use Rattle.iiif_area.proofs.GridLaws.{index_parts}
use Rattle.iiif_area.proofs.SumLaws.{sum_from-zero, sum_from-same, sum_from-one, sum_from-narrow, sum_from-step, sum_from-end}
use Rattle.iiif_area.proofs.SumLaws.{same_product, three_parts, none_times}
use Rattle.iiif_area.proofs.WeightLaws.{weighted-le_from, weighted_before}

no_terms : (u n : ℕ) (f : ℕ → ℕ) → n ≡ 0 → sum_from u n f ≡ 0
no_terms u n f e = sum_from-zero u n f (λ k l m. absurd (omega arith))

zero_times : {m : ℕ} (n : ℕ) → m ≡ 0 → n * m ≡ 0
zero_times n e = ap (λ u. n * u) e ∙ omega arith

-- A span that has no column adds up to 0.
pub span_total-none : (columns : List ℕ) (n k c : ℕ) (s : Span) → s.start ≡ s.end → s.first ≡ 0 → s.last ≡ 0 →
    span_total columns n k c s ≡ 0
unfolding span_total
span_total-none columns n k c s e first last =
    let a = none_times (get_or columns (s.start * n + k) 0) first in
    let b = zero_times c (no_terms (s.start + 1) (s.end - 1 - (s.start + 1)) (λ t. get_or columns (t * n + k) 0) (omega arith)) in
    let d = none_times (get_or columns ((s.end - 1) * n + k) 0) last in
    omega arith

-- The weighted sum of all columns is that of the span.
pub span_total-is : (a c from m i n k : ℕ) (columns : List ℕ) (s : Span) → IsSpan (record { a = a; c = c; from = from; count = m }) i s →
    sum_from 0 m (λ t. weight_of i (from + t) a c * get_or columns (t * n + k) 0) ≡ span_total columns n k c s
unfolding span_total
span_total-is a c from m i n k columns s h =
    let w : ℕ → ℕ = λ t. weight_of i (from + t) a c in
    let f : ℕ → ℕ = λ t. get_or columns (t * n + k) 0 in
    let g : ℕ → ℕ = λ t. w t * f t in
    let narrow = sum_from-narrow 0 m s.start s.end g (omega arith) h.in_order (omega (arith, h.within))
    (λ t _ l. weighted_before i (from + t) a c (f t) (h.below t l))
    (λ t l q. weighted_before i (from + t) a c (f t) (h.above t l (omega arith))) in
    ⊎_elim
    (λ (some : s.start < s.end). ⊎_elim
    (λ (more : s.start + 1 < s.end).
    let parts = three_parts c s.start s.end w f more h.between in
    let p1 = same_product (h.first some) (let e : f s.start ≡ f s.start = refl in e) in
    let p2 = same_product (h.last more) (let e : f (s.end - 1) ≡ f (s.end - 1) = refl in e) in
    omega arith)
    (λ (one : s.end ≤ s.start + 1).
    let e : s.end - s.start ≡ 1 = omega arith in
    let d = ap (λ u. sum_from s.start u g) e ∙ sum_from-one s.start g in
    let p1 = same_product (h.first some) (let e : f s.start ≡ f s.start = refl in e) in
    let b = zero_times c (no_terms (s.start + 1) (s.end - 1 - (s.start + 1)) f (omega arith)) in
    let z = none_times (f (s.end - 1)) (h.single one) in
    omega arith)
    (cases_lt (s.start + 1) s.end))
    (λ (none : s.end ≤ s.start).
    let same : s.start ≡ s.end = omega (arith, h.in_order) in
    let d = no_terms s.start (s.end - s.start) g (omega arith) in
    let z = span_total-none columns n k c s same (h.none same) (h.single (omega arith)) in
    narrow ∙ d ∙ sym z)
    (cases_lt s.start s.end)

-- The weighted sum of the column sums is the part's sum.
pub area_from_columns : (share : Share) (tile : Picture) (i j k : ℕ) (columns : List ℕ) →
    ((t : ℕ) → t < share.part.w → get_or columns (t * tile.channels + k) 0 ≡ column_sum tile (held_of share) (rows_of share) j t k) →
    sum_from 0 share.part.w (λ t. weight_of i (share.part.x + t) share.region.w share.size.w * get_or columns (t * tile.channels + k) 0)
    ≡ area_sum share.region share.size share.part (tile_sample tile share.corner share.part k) i j
unfolding column_sum tile_sample
area_from_columns share tile i j k columns h =
    let region = share.region in
    let size = share.size in
    let part = share.part in
    let corner = share.corner in
    sum_from-same 0 part.w _ _ (λ t _ l.
    ap (λ u. weight_of i (part.x + t) region.w size.w * u)
    (h t (omega arith) ∙ sum_from-same 0 part.h _ _ (λ s _ _.
    let x : corner.0 + t ≡ corner.0 + (part.x + t - part.x) = omega arith in
    let y : corner.1 + s ≡ corner.1 + (part.y + s - part.y) = omega arith in
    ap (λ u. weight_of j (part.y + s) region.h size.h * u)
    (ap (λ u. sample_at tile u (corner.1 + s) k) x ∙ ap (λ u. sample_at tile (corner.0 + (part.x + t - part.x)) u k) y))))
    ∙ sym (area_from_corner region size part (tile_sample tile corner part k) i j)

-- A column sum grows by the next row's sample times its weight.
pub next_row : (p : Picture) (cx cy from j b d start s w t k weight v : ℕ) (row : List ℕ) →
    start ≤ s → row ≡ span_of p cx (cy + s) w → weight ≡ weight_of j (from + s) b d → t < w → k < p.channels →
    v ≡ sum_from start (s - start) (λ s. weight_of j (from + s) b d * sample_at p (cx + t) (cy + s) k) →
    v + weight * get_or row (t * p.channels + k) 0
    ≡ sum_from start (s + 1 - start) (λ s. weight_of j (from + s) b d * sample_at p (cx + t) (cy + s) k)
next_row p cx cy from j b d start s w t k weight v row l e h lt lk so_far =
    let sample = ap (λ u. get_or u (t * p.channels + k) 0) e ∙ get_or-span_of p cx (cy + s) w t k 0 lt lk in
    sum_from-step start s (λ s. weight_of j (from + s) b d * sample_at p (cx + t) (cy + s) k) _ _ l so_far (same_product h sample)

-- A sum of which a multiple is held apart, before the first row: both are 0.
pub held-none : {a h : ℕ} (d : ℕ) → a ≡ 0 → h ≡ 0 → a + d * h ≡ 0
held-none d e f = omega (arith, e, ap (λ u. d * u) f)

-- A whole row is added to the sum that is held apart.
pub held-more : {b i : ℕ} (a h v d w : ℕ) → b ≡ a → i ≡ h + v → w ≡ d → b + d * i ≡ a + d * h + w * v
held-more a h v d w e f s = omega (arith, e, ap (λ u. d * u) f, ap (λ u. u * v) s)

-- Another row is added to the sum itself.
pub held-added : {b i : ℕ} (a h v d w : ℕ) → b ≡ a + w * v → i ≡ h → b + d * i ≡ a + d * h + w * v
held-added a h v d w e f = omega (arith, e, ap (λ u. d * u) f)

-- A row of a tile has n samples for each column, with n channels.
pub row-length : (p : Picture) (x y w : ℕ) (row : List ℕ) → row ≡ span_of p x y w → length row ≡ w * p.channels
row-length p x y w row e = ap length e ∙ length-row_of w p.channels (λ i k. sample_at p (x + i) y k)

-- A row's samples are at most the bound of the tile's samples.
pub row-le : (p : Picture) (x y w i m : ℕ) (row : List ℕ) → row ≡ span_of p x y w → ((x y k : ℕ) → sample_at p x y k ≤ m) →
    i < w * p.channels → get_or row i 0 ≤ m
row-le p x y w i m row e h l =
    let n = p.channels in
    let q = index_parts n w i l in
    let at = ap (λ u. get_or row u 0) q.2 in
    let s = ap (λ u. get_or u (i / n * n + i % n) 0) e ∙ get_or-span_of p x y w (i / n) (i % n) 0 q.0 q.1 in
    omega (arith, h (x + i / n) y (i % n))

-- A weighted sum of some rows is at most the number of the region's rows times the bound of the samples.
pub column_fits : (p : Picture) (cx cy from j b d start n t k m : ℕ) → ((x y k : ℕ) → sample_at p x y k ≤ m) →
    sum_from start n (λ s. weight_of j (from + s) b d * sample_at p (cx + t) (cy + s) k) ≤ b * m
column_fits p cx cy from j b d start n t k m h =
    weighted-le_from j b d from start n m (λ s. sample_at p (cx + t) (cy + s) k) (λ s _ _. h (cx + t) (cy + s) k)

-- A column sum is made of the rows from `start` to `end` alone, if the others have no weight.
pub column_sum-is : (p : Picture) (held : Rect) (rows : Axis) (j t k start end at v : ℕ) → start ≤ end → end ≤ rows.count → at ≡ end →
    ((s : ℕ) → s < start → weight_of j (rows.from + s) rows.a rows.c ≡ 0) →
    ((s : ℕ) → end ≤ s → s < rows.count → weight_of j (rows.from + s) rows.a rows.c ≡ 0) →
    v ≡ sum_from start (at - start) (λ s. weight_of j (rows.from + s) rows.a rows.c * sample_at p (held.x + t) (held.y + s) k) →
    v ≡ column_sum p held rows j t k
unfolding column_sum
column_sum-is p held rows j t k start end at v ordered within done below above so_far =
    let f : ℕ → ℕ = λ s. sample_at p (held.x + t) (held.y + s) k in
    sum_from-end _ _ _ _ _ so_far done
    ∙ sym (sum_from-narrow 0 rows.count start end (λ s. weight_of j (rows.from + s) rows.a rows.c * f s) (omega arith) ordered
    (omega (arith, within))
    (λ s _ m. weighted_before j (rows.from + s) rows.a rows.c (f s) (below s m))
    (λ s l m. weighted_before j (rows.from + s) rows.a rows.c (f s) (above s l (omega arith))))

-- The span total of a tile's column sums is the part's sum.
pub span_total-area : (share : Share) (tile : Picture) (i j k n c : ℕ) (columns : List ℕ) (s : Span) →
    n ≡ tile.channels → c ≡ share.size.w → IsSpan (columns_of share) i s →
    ((t : ℕ) → t < share.part.w → get_or columns (t * tile.channels + k) 0 ≡ column_sum tile (held_of share) (rows_of share) j t k) →
    span_total columns n k c s ≡ area_sum share.region share.size share.part (tile_sample tile share.corner share.part k) i j
span_total-area share tile i j k n c columns s en ec span h =
    ap (λ u. span_total columns u k c s) en ∙ ap (λ u. span_total columns tile.channels k u s) ec
    ∙ sym (span_total-is share.region.w share.size.w share.part.x share.part.w i tile.channels k columns s span)
    ∙ area_from_columns share tile i j k columns h

-- The part's sum of a tile fits 64 bits.
pub tile_area-fits : (share : Share) (tile : Picture) (i j k : ℕ) → share.region.w * share.region.h ≤ 2 ^ 32 →
    ((x y k : ℕ) → sample_at tile x y k ≤ 65535) →
    area_sum share.region share.size share.part (tile_sample tile share.corner share.part k) i j < 2 ^ 64
unfolding tile_sample
tile_area-fits share tile i j k area h =
    let corner = share.corner in
    let part = share.part in
    area-fits share.region share.size part (tile_sample tile corner part k) i j area
    (λ x y _. omega (arith, h (corner.0 + (x - part.x)) (corner.1 + (y - part.y)) k))
