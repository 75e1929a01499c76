-- Column sums of a tile of 8 bits, by the first row that has a weight, the last, and the whole rows between.
use Rattle.std.proofs.Common.{⊎_elim, List, zero, suc, get_or, ◌≡◌, ℕ, ◌+◌, ◌-◌, ◌*◌, ◌<◌, ◌≤◌, ◌⊎◌, inl, inr, sym, ap, ◌∙◌, refl, arith}
use Rattle.std.proofs.lemmas.Bool.{cases_lt}
use Rattle.std.proofs.Math.Nat.{mul-le-mul_right}
use Rattle.iiif_pixel.specs.Picture.{Picture, sample_at, span_of}
use Rattle.iiif_pixel.proofs.Reading.{get_or-span_of}
use Rattle.iiif_pixel.specs.Scaling.{sum_from, weight_of}
use Rattle.iiif_pixel.specs.declared.geometry.Rect.{Rect}
use Rattle.iiif_area.specs.declared.weights.Axis.{Axis}
use Rattle.iiif_area.specs.Code.{column_sum}
use Rattle.iiif_area.proofs.ColumnLaws.{column_fits, column_sum-is}
use Rattle.iiif_area.proofs.SumLaws.{sum_from-start, sum_from-one, sum_from-step, same_product, three_parts}
use Rattle.iiif_area.proofs.WeightLaws.{weighted-le_from}

-- An unweighted column sum grows by the next row's sample.
pub next_sample : (p : Picture) (cx cy start s w t k v : ℕ) (row : List ℕ) →
    start ≤ s → row ≡ span_of p cx (cy + s) w → t < w → k < p.channels →
    v ≡ sum_from start (s - start) (λ s. sample_at p (cx + t) (cy + s) k) →
    v + get_or row (t * p.channels + k) 0 ≡ sum_from start (s + 1 - start) (λ s. sample_at p (cx + t) (cy + s) k)
next_sample p cx cy start s w t k v row l e lt lk so_far =
    let sample = ap (λ u. get_or u (t * p.channels + k) 0) e ∙ get_or-span_of p cx (cy + s) w t k 0 lt lk in
    sum_from-step start s (λ s. sample_at p (cx + t) (cy + s) k) _ _ l so_far sample

-- An unweighted column sum grows by the next four rows' samples.
pub next_samples : (p : Picture) (cx cy start s w t k v : ℕ) (r0 r1 r2 r3 : List ℕ) →
    start ≤ s → r0 ≡ span_of p cx (cy + s) w → r1 ≡ span_of p cx (cy + (s + 1)) w → r2 ≡ span_of p cx (cy + (s + 2)) w →
    r3 ≡ span_of p cx (cy + (s + 3)) w →
    t < w → k < p.channels → v ≡ sum_from start (s - start) (λ s. sample_at p (cx + t) (cy + s) k) →
    v + (get_or r0 (t * p.channels + k) 0 + get_or r1 (t * p.channels + k) 0 + get_or r2 (t * p.channels + k) 0 + get_or r3
    (t * p.channels + k) 0)
    ≡ sum_from start (s + 4 - start) (λ s. sample_at p (cx + t) (cy + s) k)
next_samples p cx cy start s w t k v r0 r1 r2 r3 l e0 e1 e2 e3 lt lk so_far =
    let f : ℕ → ℕ = λ s. sample_at p (cx + t) (cy + s) k in
    let step : (m n v : ℕ) → m ≡ n → v ≡ sum_from start (m - start) f → v ≡ sum_from start (n - start) f = λ m n v e h. h ∙
    ap (λ u. sum_from start (u - start) f) e in
    let one = next_sample p cx cy start s w t k v r0 (omega arith) e0 lt lk so_far in
    let two = next_sample p cx cy start (s + 1) w t k _ r1 (omega arith) e1 lt lk one in
    let three = next_sample p cx cy start (s + 2) w t k _ r2 (omega arith) e2 lt lk (step (s + 1 + 1) (s + 2) _ (omega arith) two) in
    let four = step (s + 3 + 1) (s + 4) _ (omega arith)
    (next_sample p cx cy start (s + 3) w t k _ r3 (omega arith) e3 lt lk (step (s + 2 + 1) (s + 3) _ (omega arith) three)) in
    omega (arith, four)

-- a sum of equal terms
sum_from-equal : (u n d : ℕ) (f : ℕ → ℕ) → ((x : ℕ) → u ≤ x → x < u + n → f x ≡ d) → sum_from u n f ≡ n * d
unfolding sum_from
sum_from-equal u zero d f h = omega arith
sum_from-equal u (suc n) d f h =
    let e = sum_from-equal u n d f (λ k l m. h k l (omega arith)) in
    let g = h (u + n) (omega arith) (omega arith) in
    omega arith

-- At most 257 rows lie between the first and the last, if a part has no more or a result row covers no more.
pub run_fits : (j b d from start end h : ℕ) → 0 < d → end ≤ h → (h ≤ 257) ⊎ (b ≤ 257 * d) →
    ((s : ℕ) → start < s → s + 1 < end → weight_of j (from + s) b d ≡ d) →
    end - 1 ≤ start + 1 + 257
run_fits j b d from start end h p within (inl few) between = omega arith
run_fits j b d from start end h p within (inr few) between =
    let u = start + 1 in
    let n = end - 1 - u in
    let total = weighted-le_from j b d from u n 1 (λ x. 1) (λ x l m. omega arith) in
    let same = sum_from-equal u n d (λ x. weight_of j (from + x) b d * 1) (λ x l m. omega (arith, between x (omega arith) (omega arith))) in
    ⊎_elim
    (λ (over : 257 < n). let e : 258 * d ≤ n * d = mul-le-mul_right d (omega arith) in omega arith)
    (λ (fits : n ≤ 257). omega arith)
    (cases_lt 257 n)

-- A column sum of no row is 0.
pub column_of-none : (p : Picture) (held : Rect) (rows : Axis) (j t k start end : ℕ) → start ≡ end → end ≤ rows.count →
    ((s : ℕ) → s < start → weight_of j (rows.from + s) rows.a rows.c ≡ 0) →
    ((s : ℕ) → end ≤ s → s < rows.count → weight_of j (rows.from + s) rows.a rows.c ≡ 0) →
    0 ≡ column_sum p held rows j t k
column_of-none p held rows j t k start end e within below above =
    column_sum-is p held rows j t k start end end 0 (omega arith) within refl below above (sum_from-start _ _ _ (omega arith))

-- A column sum of one row is its sample times its weight.
pub column_of-one : (p : Picture) (held : Rect) (rows : Axis) (j t k start end w : ℕ) (row : List ℕ) → end - start ≡ 1 → end ≤ rows.count →
    row ≡ span_of p held.x (held.y + start) held.w → w ≡ weight_of j (rows.from + start) rows.a rows.c → t < held.w → k < p.channels →
    ((s : ℕ) → s < start → weight_of j (rows.from + s) rows.a rows.c ≡ 0) →
    ((s : ℕ) → end ≤ s → s < rows.count → weight_of j (rows.from + s) rows.a rows.c ≡ 0) →
    w * get_or row (t * p.channels + k) 0 ≡ column_sum p held rows j t k
column_of-one p held rows j t k start end w row one within er ew lt lk below above =
    let f : ℕ → ℕ = λ s. weight_of j (rows.from + s) rows.a rows.c * sample_at p (held.x + t) (held.y + s) k in
    let sample = ap (λ u. get_or u (t * p.channels + k) 0) er ∙ get_or-span_of p held.x (held.y + start) held.w t k 0 lt lk in
    column_sum-is p held rows j t k start end end _ (omega arith) within refl below above
    (same_product ew sample ∙ sym (ap (λ u. sum_from start u f) one ∙ sum_from-one start f))

-- A column sum is that of its first row, of the whole rows between, and of its last.
pub column_of-parts : (p : Picture) (held : Rect) (rows : Axis) (j t k start end w v i : ℕ) (first last : List ℕ) → start + 1 < end →
    end ≤ rows.count →
    first ≡ span_of p held.x (held.y + start) held.w → w ≡ weight_of j (rows.from + start) rows.a rows.c →
    last ≡ span_of p held.x (held.y + (end - 1)) held.w → v ≡ weight_of j (rows.from + (end - 1)) rows.a rows.c →
    i ≡ sum_from (start + 1) (end - 1 - (start + 1)) (λ s. sample_at p (held.x + t) (held.y + s) k) → t < held.w → k < p.channels →
    ((s : ℕ) → s < start → weight_of j (rows.from + s) rows.a rows.c ≡ 0) →
    ((s : ℕ) → start < s → s + 1 < end → weight_of j (rows.from + s) rows.a rows.c ≡ rows.c) →
    ((s : ℕ) → end ≤ s → s < rows.count → weight_of j (rows.from + s) rows.a rows.c ≡ 0) →
    w * get_or first (t * p.channels + k) 0 + rows.c * i + v * get_or last (t * p.channels + k) 0 ≡ column_sum p held rows j t k
column_of-parts p held rows j t k start end w v i first last more within ef ew el ev ei lt lk below between above =
    let weights : ℕ → ℕ = λ s. weight_of j (rows.from + s) rows.a rows.c in
    let f : ℕ → ℕ = λ s. sample_at p (held.x + t) (held.y + s) k in
    let one = ap (λ u. get_or u (t * p.channels + k) 0) ef ∙ get_or-span_of p held.x (held.y + start) held.w t k 0 lt lk in
    let two = ap (λ u. get_or u (t * p.channels + k) 0) el ∙ get_or-span_of p held.x (held.y + (end - 1)) held.w t k 0 lt lk in
    let parts = three_parts rows.c start end weights f more between in
    let a = same_product ew one in
    let z = same_product ev two in
    let m = ap (λ u. rows.c * u) ei in
    column_sum-is p held rows j t k start end end _ (omega arith) within refl below above (omega arith)

-- A column sum of two rows is that of the first and of the last.
pub column_of-two : (p : Picture) (held : Rect) (rows : Axis) (j t k start end w v : ℕ) (first last : List ℕ) → end - start ≡ 2 →
    end ≤ rows.count →
    first ≡ span_of p held.x (held.y + start) held.w → w ≡ weight_of j (rows.from + start) rows.a rows.c →
    last ≡ span_of p held.x (held.y + (end - 1)) held.w → v ≡ weight_of j (rows.from + (end - 1)) rows.a rows.c → t < held.w →
    k < p.channels →
    ((s : ℕ) → s < start → weight_of j (rows.from + s) rows.a rows.c ≡ 0) →
    ((s : ℕ) → start < s → s + 1 < end → weight_of j (rows.from + s) rows.a rows.c ≡ rows.c) →
    ((s : ℕ) → end ≤ s → s < rows.count → weight_of j (rows.from + s) rows.a rows.c ≡ 0) →
    w * get_or first (t * p.channels + k) 0 + v * get_or last (t * p.channels + k) 0 ≡ column_sum p held rows j t k
column_of-two p held rows j t k start end w v first last two within ef ew el ev lt lk below between above =
    let none = sum_from-start (start + 1) (end - 1 - (start + 1)) (λ s. sample_at p (held.x + t) (held.y + s) k) (omega arith) in
    let parts = column_of-parts p held rows j t k start end w v 0 first last (omega arith) within ef ew el ev none lt lk below between above
    in
    omega arith

-- A column sum is at most the number of the region's rows times the bound of the samples.
pub column_of-fits : (p : Picture) (held : Rect) (rows : Axis) (j t k m : ℕ) → ((x y k : ℕ) → sample_at p x y k ≤ m) →
    column_sum p held rows j t k ≤ rows.a * m
unfolding column_sum
column_of-fits p held rows j t k m h = column_fits p held.x held.y rows.from j rows.a rows.c 0 rows.count t k m h
