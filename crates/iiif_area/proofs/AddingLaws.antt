-- Sums that grow in place, by the rows of a tile.
use Rattle.std.proofs.Common.{◌≡◌, ℕ, ◌+◌, ◌-◌, ◌*◌, ◌/◌, ◌%◌, ◌^◌, ◌<◌, ◌≤◌, List, min, max, get_or, take, drop, sym, ap, ◌∙◌, refl, arith}
use Rattle.std.proofs.Math.Nat.{mul-le-mul_right}
use Rattle.iiif_pixel.specs.Operations.{crop}
use Rattle.iiif_pixel.specs.Picture.{Picture, samples_of, sample_at, span_of}
use Rattle.iiif_pixel.specs.Scaling.{sum_from, overlap, weight_of, area_sum}
use Rattle.iiif_pixel.specs.declared.geometry.Dim.{Dim}
use Rattle.iiif_pixel.specs.declared.geometry.Rect.{Rect}
use Rattle.iiif_pixel.proofs.Reading.{get_or-span_of}
use Rattle.iiif_pixel.proofs.SampleLists.{get_or-samples_of}
use Rattle.iiif_area.specs.declared.places.Share.{Share}
use Rattle.iiif_area.specs.Code.{row_sum_from, share_of, share_sums, tile_sample}
use Rattle.iiif_area.specs.Grid.{Grid, merged, sums_of}
use Rattle.iiif_area.specs.Places.{part_of}
use Rattle.iiif_area.proofs.AreaLaws.{area_from_rows}
use Rattle.iiif_area.proofs.GridLaws.{index_parts, part_at}
use Rattle.iiif_area.proofs.SumLaws.{sum_from-same, sum_from-more, sum_from-none, sum_from-start, sum_from-step, sum_from-narrow}
use Rattle.iiif_area.proofs.SumLaws.{sum_from-shift, same_product}
use Rattle.iiif_area.proofs.TileLaws.{share_sums_are}
use Rattle.iiif_area.proofs.WeightLaws.{weight_after, weight_before, weighted_before}

row_sum_from-none : (row : List ℕ) (n from a c i k : ℕ) → row_sum_from row n from 0 a c i k ≡ 0
unfolding row_sum_from
row_sum_from-none row n from a c i k = sum_from-none 0 _

row_sum_from-more : (row : List ℕ) (n from t a c i k : ℕ) →
    row_sum_from row n from (t + 1) a c i k ≡ row_sum_from row n from t a c i k + weight_of i (from + t) a c * get_or row (t * n + k) 0
unfolding row_sum_from
row_sum_from-more row n from t a c i k = sum_from-more 0 t t _ (omega arith)

-- The sum of result column i in channel k, of n, has grown by the first t columns of a row of samples, each times its weight and times the
-- row's weight.
pub record TakenOf (first from a c n weight : ℕ) (row olds news : List ℕ) (t i k : ℕ) : Type 0 where
  pub is : get_or news (i * n + k) 0 ≡ min (2 ^ 64 - 1) (get_or olds (i * n + k) 0 + weight * row_sum_from row n from t a c (first + i) k)

-- Before the first column no sum has grown.
pub TakenOf-none : {first from a c n weight : ℕ} {row olds : List ℕ} {i k : ℕ} → get_or olds (i * n + k) 0 < 2 ^ 64 →
    TakenOf first from a c n weight row olds olds 0 i k
TakenOf-none {first} {from} {a} {c} {n} {weight} {row} {olds} {i} {k} small =
    let z : weight * row_sum_from row n from 0 a c (first + i) k ≡ weight * 0 =
    ap (λ u. weight * u) (row_sum_from-none row n from a c (first + i) k) in
    record { is = omega arith }

-- A sum that is left as it was has grown as far as before.
pub TakenOf-kept : {first from a c n weight : ℕ} {row olds mids news : List ℕ} {t i k : ℕ} →
    TakenOf first from a c n weight row olds mids t i k →
    get_or news (i * n + k) 0 ≡ get_or mids (i * n + k) 0 → TakenOf first from a c n weight row olds news t i k
TakenOf-kept m e = record { is = e ∙ m.is }

-- A column that has no weight in a result column may be passed over.
pub TakenOf-passed : {first from a c n weight : ℕ} {row olds news : List ℕ} {t i k : ℕ} →
    TakenOf first from a c n weight row olds news t i k →
    weight_of (first + i) (from + t) a c ≡ 0 → TakenOf first from a c n weight row olds news (t + 1) i k
TakenOf-passed {first} {from} {a} {c} {n} {weight} {row} {olds} {news} {t} {i} {k} m e =
    let more = row_sum_from-more row n from t a c (first + i) k in
    let none = weighted_before (first + i) (from + t) a c (get_or row (t * n + k) 0) e in
    let same : row_sum_from row n from (t + 1) a c (first + i) k ≡ row_sum_from row n from t a c (first + i) k = omega arith in
    record { is = m.is ∙ ap (λ u. min (2 ^ 64 - 1) (get_or olds (i * n + k) 0 + weight * u)) (sym same) }

-- A column that is added with its weight is one column more.
pub TakenOf-more : {first from a c n weight : ℕ} {row olds mids news : List ℕ} {t i k : ℕ} (columns : ℕ) →
    TakenOf first from a c n weight row olds mids t i k →
    columns ≡ weight_of (first + i) (from + t) a c →
    get_or news (i * n + k) 0 ≡ min (2 ^ 64 - 1) (get_or mids (i * n + k) 0 + weight * columns * get_or row (t * n + k) 0) →
    TakenOf first from a c n weight row olds news (t + 1) i k
TakenOf-more {first} {from} {a} {c} {n} {weight} {row} {olds} {mids} {news} {t} {i} {k} columns m e added =
    let v = get_or row (t * n + k) 0 in
    let s = row_sum_from row n from t a c (first + i) k in
    let more : row_sum_from row n from (t + 1) a c (first + i) k ≡ s + columns * v = row_sum_from-more row n from t a c (first + i) k ∙
    ap (λ u. s + u * v) (sym e) in
    let times : weight * row_sum_from row n from (t + 1) a c (first + i) k ≡ weight * (s + columns * v) = ap (λ u. weight * u) more in
    let was = m.is in
    record { is = omega arith }

-- The length that result column i and source column t share is the weight, given the left ends of both.
pub common_parts : (first i from t a c left begin : ℕ) → left ≡ (first + i) * a → begin ≡ (from + t) * c →
    min (left + a) (begin + c) - max left begin ≡ weight_of (first + i) (from + t) a c
unfolding weight_of overlap
common_parts first i from t a c left begin l b = omega arith

-- A result column that ends before a source column begins has no weight of it.
pub passed_parts : (first i at from t a c : ℕ) → i < at → (first + at) * a ≤ (from + t) * c → weight_of (first + i) (from + t) a c ≡ 0
passed_parts first i at from t a c l h =
    let e : (first + i + 1) * a ≤ (first + at) * a = mul-le-mul_right a (omega arith) in
    weight_after (first + i) (from + t) a c (omega arith)

-- A result column that begins behind a source column has no weight of it.
pub later_parts : (first i at from t a c : ℕ) → at ≤ i → (from + t + 1) * c ≤ (first + at) * a → weight_of (first + i) (from + t) a c ≡ 0
later_parts first i at from t a c l h =
    let e : (first + at) * a ≤ (first + i) * a = mul-le-mul_right a (omega arith) in
    weight_before (first + i) (from + t) a c (omega arith)

-- The weighted sum of row s of a part, for the place in column i of a result row; a tile holds the part from its place `corner` on.
unfoldable pub row_part : Picture → ℕ × ℕ → Rect → Rect → Dim → Dim → ℕ → ℕ → ℕ → ℕ
row_part tile corner part row region size i k s =
    weight_of row.y (part.y + s) region.h size.h
    * sum_from 0 part.w (λ t. weight_of (row.x + i) (part.x + t) region.w size.w * sample_at tile (corner.0 + t) (corner.1 + s) k)

-- The sums of a result row have grown by the rows from `start` to s of a part.
pub record RowsTaken (tile : Picture) (corner : ℕ × ℕ) (part row : Rect) (region size : Dim) (n : ℕ) (olds news : List ℕ) (start s : ℕ) :
    Type 0 where
  pub is : (i k : ℕ) → i < row.w → k < n →
      get_or news (i * n + k) 0 ≡ min (2 ^ 64 - 1)
      (get_or olds (i * n + k) 0 + sum_from start (s - start) (row_part tile corner part row region size i k))

-- Before the first row no sum has grown.
pub RowsTaken-none : {tile : Picture} {corner : ℕ × ℕ} {part row : Rect} {region size : Dim} {n : ℕ} {olds : List ℕ} {start : ℕ} →
    ((e : ℕ) → get_or olds e 0 < 2 ^ 64) → RowsTaken tile corner part row region size n olds olds start start
RowsTaken-none {tile} {corner} {part} {row} {region} {size} {n} {olds} {start} small = record {
  is = λ i k _ _.
      let none = sum_from-start start (start - start) (row_part tile corner part row region size i k) (omega arith) in
      let h = small (i * n + k) in
      omega arith;
}

-- The weighted sum of a row is that of its columns from `left` to `right`, if the others have no weight.
pub row_sum_from-narrow : {n : ℕ} (tile : Picture) (samples : List ℕ) (column y w left right from a c i k : ℕ) →
    left ≤ right → right ≤ w → n ≡ tile.channels → k < n → samples ≡ span_of tile (column + left) y (right - left) →
    ((t : ℕ) → t < left → weight_of i (from + t) a c ≡ 0) → ((t : ℕ) → right ≤ t → t < w → weight_of i (from + t) a c ≡ 0) →
    row_sum_from samples n (from + left) (right - left) a c i k
    ≡ sum_from 0 w (λ t. weight_of i (from + t) a c * sample_at tile (column + t) y k)
unfolding row_sum_from
row_sum_from-narrow {n} tile samples column y w left right from a c i k order within ch lk span below above =
    let g : ℕ → ℕ = λ t. weight_of i (from + t) a c * sample_at tile (column + t) y k in
    let narrow = sum_from-narrow 0 w left right g (omega arith) order (omega (arith, within))
    (λ t _ l. weighted_before i (from + t) a c (sample_at tile (column + t) y k) (below t l))
    (λ t l q. weighted_before i (from + t) a c (sample_at tile (column + t) y k) (above t l (omega (arith, q)))) in
    sum_from-same 0 (right - left) _ (λ t. g (left + t)) (λ t _ lt.
    let source : from + left + t ≡ from + (left + t) = omega arith in
    let place : column + left + t ≡ column + (left + t) = omega arith in
    same_product (ap (λ u. weight_of i u a c) source)
    (ap (λ u. get_or samples (t * u + k) 0) ch ∙ ap (λ u. get_or u (t * tile.channels + k) 0) span
    ∙ get_or-span_of tile (column + left) y (right - left) t k 0 (omega (arith, lt)) (omega (arith, lk, ch))
    ∙ ap (λ u. sample_at tile u y k) place))
    ∙ sym (sum_from-shift left (right - left) g) ∙ sym narrow

-- A row of which the columns from `left` to `right` are added is one row more, if the other columns have no weight.
pub RowsTaken-more : {tile : Picture} {corner : ℕ × ℕ} {part row : Rect} {region size : Dim} {n : ℕ} {olds mids news : List ℕ} {start s : ℕ}
    (samples : List ℕ) (rows left right : ℕ) →
    start ≤ s → n ≡ tile.channels → left ≤ right → right ≤ part.w →
    samples ≡ span_of tile (corner.0 + left) (corner.1 + s) (right - left) →
    ((i t : ℕ) → row.x ≤ i → t < left → weight_of i (part.x + t) region.w size.w ≡ 0) →
    ((i t : ℕ) → i < row.x + row.w → right ≤ t → t < part.w → weight_of i (part.x + t) region.w size.w ≡ 0) →
    rows ≡ weight_of row.y (part.y + s) region.h size.h →
    ((i k : ℕ) → i < row.w → k < n → get_or news (i * n + k) 0
    ≡ min (2 ^ 64 - 1) (get_or mids (i * n + k) 0
    + rows * row_sum_from samples n (part.x + left) (right - left) region.w size.w (row.x + i) k)) →
    RowsTaken tile corner part row region size n olds mids start s → RowsTaken tile corner part row region size n olds news start (s + 1)
unfolding row_part
RowsTaken-more {tile} {corner} {part} {row} {region} {size} {n} {olds} {mids} {news} {start} {s} samples rows left right l ch order within
    span below above weight added m =
    record {
      is = λ i k li lk.
          let f : ℕ → ℕ = row_part tile corner part row region size i k in
          let own = row_sum_from-narrow tile samples corner.0 (corner.1 + s) part.w left right part.x region.w size.w (row.x + i) k
          order within ch lk span (λ t h. below (row.x + i) t (omega arith) h) (λ t h q. above (row.x + i) t (omega (arith, li)) h q) in
          let here : rows * row_sum_from samples n (part.x + left) (right - left) region.w size.w (row.x + i) k ≡ f s =
          same_product weight own in
          let so_far = sum_from-step start s f (sum_from start (s - start) f) (f s) l refl refl in
          let was = m.is i k li lk in
          let now = added i k li lk in
          omega (arith, so_far, here, was, now);
    }

-- All rows that have a weight make up the part's sum.
pub RowsTaken-all : {tile : Picture} {corner : ℕ × ℕ} {part row : Rect} {region size : Dim} {n : ℕ} {olds news : List ℕ} {start end : ℕ} →
    start ≤ end → end ≤ part.h → ((s : ℕ) → s < start → weight_of row.y (part.y + s) region.h size.h ≡ 0) →
    ((s : ℕ) → end ≤ s → s < part.h → weight_of row.y (part.y + s) region.h size.h ≡ 0) →
    RowsTaken tile corner part row region size n olds news start end → (i k : ℕ) → i < row.w → k < n →
    get_or news (i * n + k) 0 ≡ min (2 ^ 64 - 1)
    (get_or olds (i * n + k) 0 + area_sum region size part (tile_sample tile corner part k) (row.x + i) row.y)
unfolding row_part tile_sample
RowsTaken-all {tile} {corner} {part} {row} {region} {size} {n} {olds} {news} {start} {end} order within below above m i k li lk =
    let f : ℕ → ℕ = row_part tile corner part row region size i k in
    let g : ℕ → ℕ = λ s. sum_from 0 part.w (λ t.
    weight_of (row.x + i) (part.x + t) region.w size.w * sample_at tile (corner.0 + t) (corner.1 + s) k) in
    let narrow = sum_from-narrow 0 part.h start end f (omega arith) order (omega arith)
    (λ s _ l. weighted_before row.y (part.y + s) region.h size.h (g s) (below s l))
    (λ s l q. weighted_before row.y (part.y + s) region.h size.h (g s) (above s l (omega arith))) in
    let all : area_sum region size part (tile_sample tile corner part k) (row.x + i) row.y ≡ sum_from 0 part.h f =
    area_from_rows region size part (tile_sample tile corner part k) (row.x + i) row.y
    ∙ sum_from-same 0 part.h _ _ (λ s _ _. ap (λ u. weight_of row.y (part.y + s) region.h size.h * u)
    (sum_from-same 0 part.w _ _ (λ t _ _.
    let x : corner.0 + (part.x + t - part.x) ≡ corner.0 + t = omega arith in
    let y : corner.1 + (part.y + s - part.y) ≡ corner.1 + s = omega arith in
    ap (λ u. weight_of (row.x + i) (part.x + t) region.w size.w * u)
    (ap (λ u. sample_at tile u (corner.1 + (part.y + s - part.y)) k) x ∙ ap (λ u. sample_at tile (corner.0 + t) u k) y)))) in
    m.is i k li lk ∙ ap (λ u. min (2 ^ 64 - 1) (get_or olds (i * n + k) 0 + u)) (sym (all ∙ narrow))

-- The sums of a part at some result places; a tile holds the part from its place `corner` on.
abbrev pub part_sums : Dim → Dim → Rect → Picture → ℕ × ℕ → ℕ → Rect → List ℕ
part_sums region size part tile corner n places =
    samples_of places.w places.h n (λ i j k. area_sum region size part (tile_sample tile corner part k) (places.x + i) (places.y + j))

-- A run of w result places, from column `left` and row `top + j` of the places on, has grown by the part's sums there.
pub run_added : (region size : Dim) (part places : Rect) (tile : Picture) (corner : ℕ × ℕ) (n m left top j w b : ℕ) (olds news : List ℕ) →
    left + w ≤ places.w → top + j < places.h → b ≡ (top + j) * places.w + left → n ≡ m →
    ((i k : ℕ) → i < w → k < m → get_or news (i * m + k) 0
    ≡ min (2 ^ 64 - 1) (get_or olds (i * m + k) 0 + area_sum region size part (tile_sample tile corner part k) (places.x + left + i)
    (places.y + top + j))) →
    (t : ℕ) → t < w * n → get_or news t 0
    ≡ min (2 ^ 64 - 1) (get_or olds t 0 + get_or (take (w * n) (drop (b * n) (part_sums region size part tile corner n places))) t 0)
run_added region size part places tile corner n m left top j w b olds news columns row eb ch added t lt =
    let q = index_parts n w t lt in
    let i = t / n in
    let k = t % n in
    let f : ℕ → ℕ → ℕ → ℕ = λ i j k. area_sum region size part (tile_sample tile corner part k) (places.x + i) (places.y + j) in
    let own = area_sum region size part (tile_sample tile corner part k) (places.x + left + i) (places.y + top + j) in
    let others = part_sums region size part tile corner n places in
    let here : i * m + k ≡ t = ap (λ u. i * u + k) (sym ch) ∙ q.2 in
    let at : b * n + t ≡ ((top + j) * places.w + (left + i)) * n + k = omega (arith, ap (λ u. u * n) eb, q.2) in
    let x : places.x + (left + i) ≡ places.x + left + i = omega arith in
    let y : places.y + (top + j) ≡ places.y + top + j = omega arith in
    let theirs : get_or (take (w * n) (drop (b * n) others)) t 0 ≡ own =
    part_at (b * n) (w * n) others t lt ∙ ap (λ u. get_or others u 0) at
    ∙ get_or-samples_of places.w places.h n f (left + i) (top + j) k 0 (omega (arith, q.0)) row q.1
    ∙ ap (λ u. area_sum region size part (tile_sample tile corner part k) u (places.y + (top + j))) x
    ∙ ap (λ u. area_sum region size part (tile_sample tile corner part k) (places.x + left + i) u) y in
    ap (λ u. get_or news u 0) (sym here) ∙ added i k q.0 (omega (arith, q.1)) ∙ ap (λ u. min (2 ^ 64 - 1) (get_or olds u 0 + own)) here
    ∙ ap (λ u. min (2 ^ 64 - 1) (get_or olds t 0 + u)) (sym theirs)

-- A tile's share that was added in place: the sums are those of merging.
pub tile_merged : (p : Picture) (at region : Rect) (size : Dim) (g : Grid) (rect : Rect) (n : ℕ) (olds news : List ℕ) (share : Share)
    (tile : Picture) →
    rect ≡ g.rect → n ≡ g.channels → olds ≡ g.sums → tile.channels ≡ g.channels → share ≡ share_of at region size → tile ≡ crop p at →
    news ≡ (merged (record { rect = rect; channels = tile.channels; sums = olds }) (share_sums tile share)).sums →
    ◌≡◌ {A = Grid} (record { rect = rect; channels = n; sums = news }) (merged g (sums_of (crop p region) size (part_of at region)))
tile_merged p at region size g rect n olds news share tile er en es et eshare etile e =
    let G : Rect → ℕ → List ℕ → Grid = λ r m s. record { rect = r; channels = m; sums = s } in
    let T : Grid = share_sums tile share in
    ap (λ m. G rect m news) (en ∙ sym et)
    ∙ ap (G rect tile.channels) e
    ∙ ap (λ (r : Rect). merged (G r tile.channels olds) T) er
    ∙ ap (λ m. merged (G g.rect m olds) T) et
    ∙ ap (λ (s : List ℕ). merged (G g.rect g.channels s) T) es
    ∙ ap (λ (h : Grid). merged g h) (share_sums_are p at region size share tile eshare etile)
