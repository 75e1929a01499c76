-- Merging: rows of one grid added to another, and the sums that come of it.
use Rattle.std.proofs.Common.{◌≡◌, ℕ, ◌+◌, ◌-◌, ◌*◌, ◌^◌, ◌<◌, ◌≤◌, min, List, length, get_or, take, drop, sym, ap, ◌∙◌, subst, arith}
use Rattle.std.proofs.Common.{⊎_elim, if◌then◌else◌, Bool}
use Rattle.std.proofs.lemmas.Bool.{cases_lt}
use Rattle.std.proofs.lemmas.Nat.{mul-le}
use borrow.Rule.Slice.PartMut.{put_mid}
use Rattle.iiif_pixel.specs.Geometry.{HasPlace}
use Rattle.iiif_pixel.specs.Picture.{Picture, dim_of, sample_at}
use Rattle.iiif_pixel.specs.declared.geometry.Dim.{Dim}
use Rattle.iiif_pixel.specs.declared.geometry.Rect.{Rect}
use Rattle.iiif_pixel.proofs.SampleLists.{samples_from_places}
use Rattle.iiif_area.specs.Laws.{MergingAdds}
use Rattle.iiif_area.specs.Places.{corner_of, part_of, places_of}
use Rattle.iiif_area.specs.Grid.{Grid, grid_of, merged, part_sum, sum_at, sums_of}
use Rattle.iiif_area.proofs.AreaLaws.{area_elsewhere}
use Rattle.iiif_area.proofs.GridLaws.{place_index, grid_of-same, sum_at-grid_of, place_cases, has_place-yes, has_place-no, entry-lt}
use Rattle.iiif_area.proofs.GridLaws.{run-le, part_at, get_or-row_written, get_or-row_kept}

-- a part's sum is 0 where the part has no result place
part_sum-elsewhere : (p : Picture) (size : Dim) (part : Rect) (i j k : ℕ) → 0 < p.width → 0 < p.height →
    ¬ (HasPlace (places_of (dim_of p) size part) i j) → part_sum p size part i j k ≡ 0
unfolding part_sum
part_sum-elsewhere p size part i j k w h off = area_elsewhere (dim_of p) size part (λ x y. sample_at p x y k) i j w h off

-- Merging a part's sums adds them at every place, where the totals fit 64 bits.
pub merging_lem : MergingAdds
merging_lem p size part rect f w h fits =
    let n = p.channels in
    let g = grid_of rect n f in
    let t = sums_of p size part in
    grid_of-same rect n _ (λ i j k. f i j k + part_sum p size part i j k) (λ i j k place ch.
    let mine = sum_at-grid_of rect n f i j k place ch in
    ⊎_elim
    (λ (q : HasPlace t.rect i j).
    let theirs = sum_at-grid_of t.rect n (part_sum p size part) i j k q ch in
    let small = fits i j k place ch in
    ap (λ (b : Bool). if b then min (2 ^ 64 - 1) (sum_at g i j k + sum_at t i j k) else sum_at g i j k) (has_place-yes t.rect i j q) ∙
    omega arith)
    (λ (q : ¬ (HasPlace t.rect i j)).
    let none = part_sum-elsewhere p size part i j k w h q in
    ap (λ (b : Bool). if b then min (2 ^ 64 - 1) (sum_at g i j k + sum_at t i j k) else sum_at g i j k) (has_place-no t.rect i j q) ∙
    omega arith)
    (place_cases t.rect i j))

-- The part of theirs that mine has: its first j rows are added, and no other place is changed. It lies at `common` in mine,
-- and from column `left` and row `top` on in theirs.
pub record AddedTo (n : ℕ) (mine theirs common : Rect) (left top : ℕ) (olds others news : List ℕ) (j : ℕ) : Type 0 where
  pub both : (i q k : ℕ) → i < common.w → q < j → k < n →
      get_or news (place_index mine.w n (common.x + i) (common.y + q) k) 0
      ≡ min (2 ^ 64 - 1) (get_or olds (place_index mine.w n (common.x + i) (common.y + q) k) 0 + get_or others
      (place_index theirs.w n (left + i) (top + q) k) 0)
  pub kept : (i q k : ℕ) → i < mine.w → k < n → (common.x ≤ i → i < common.x + common.w → common.y ≤ q → q < common.y + j → ⊥) →
      get_or news (place_index mine.w n i q k) 0 ≡ get_or olds (place_index mine.w n i q k) 0

-- One row more is added.
pub AddedTo-step : (n : ℕ) (mine theirs common : Rect) (left top : ℕ) (olds others xs ys : List ℕ) (j a b : ℕ) →
    common.x + common.w ≤ mine.w → a ≡ (common.y + j) * mine.w + common.x → b ≡ (top + j) * theirs.w + left →
    a * n + common.w * n ≤ length xs → length ys ≡ common.w * n →
    ((t : ℕ) → t < common.w * n → get_or ys t 0
    ≡ min (2 ^ 64 - 1) (get_or (take (common.w * n) (drop (a * n) xs)) t 0 + get_or (take (common.w * n) (drop (b * n) others)) t 0)) →
    AddedTo n mine theirs common left top olds others xs j →
    AddedTo n mine theirs common left top olds others (put_mid (a * n) (common.w * n) xs ys) (j + 1)
AddedTo-step n mine theirs common left top olds others xs ys j a b columns ea eb room long added m =
    let w = common.w in
    let zs = put_mid (a * n) (w * n) xs ys in
    let ra : a * n ≡ ((common.y + j) * mine.w + common.x) * n = ap (λ u. u * n) ea in
    let rb : b * n ≡ ((top + j) * theirs.w + left) * n = ap (λ u. u * n) eb in
    let e : zs ≡ put_mid (((common.y + j) * mine.w + common.x) * n) (w * n) xs ys = ap (λ u. put_mid u (w * n) xs ys) ra in
    let fits : ((common.y + j) * mine.w + common.x) * n + w * n ≤ length xs = omega arith in
    let kept_at = λ (i q k : ℕ) (col : i < mine.w) (ch : k < n) (off : q ≡ common.y + j → common.x ≤ i → i < common.x + w → ⊥).
    ap (λ u. get_or u (place_index mine.w n i q k) 0) e ∙
    get_or-row_kept xs ys mine.w n common.x w (common.y + j) i q k long fits columns col ch off in
    record {
      both = λ i q k li lq lk.
          ⊎_elim
          (λ (before : q < j). kept_at (common.x + i) (common.y + q) k (omega arith) lk (λ same _ _. omega arith) ∙
          m.both i q k li before lk)
          (λ (from : j ≤ q).
          let qj : j ≡ q = omega arith in
          let t = i * n + k in
          let tl : t < w * n = entry-lt i w n k li lk in
          let at_x : a * n + t ≡ place_index mine.w n (common.x + i) (common.y + j) k = omega arith in
          let at_o : b * n + t ≡ place_index theirs.w n (left + i) (top + j) k = omega arith in
          let back : (common.x + i - common.x) * n + k ≡ t = ap (λ u. u * n + k) (let d : common.x + i - common.x ≡ i = omega arith in d) in
          let here = ap (λ u. get_or u (place_index mine.w n (common.x + i) (common.y + j) k) 0) e
          ∙ get_or-row_written xs ys mine.w n common.x w (common.y + j) (common.x + i) k long fits (omega arith) (omega arith) lk ∙
          ap (λ u. get_or ys u 0) back in
          let was = part_at (a * n) (w * n) xs t tl ∙ ap (λ u. get_or xs u 0) at_x ∙
          m.kept (common.x + i) (common.y + j) k (omega arith) lk (λ _ _ _ g. omega arith) in
          let more = part_at (b * n) (w * n) others t tl ∙ ap (λ u. get_or others u 0) at_o in
          let all = here ∙ added t tl ∙ ap (λ u. min (2 ^ 64 - 1) (u + get_or (take (w * n) (drop (b * n) others)) t 0)) was
          ∙ ap (λ u. min (2 ^ 64 - 1) (get_or olds (place_index mine.w n (common.x + i) (common.y + j) k) 0 + u)) more in
          subst (λ (u : ℕ). get_or zs (place_index mine.w n (common.x + i) (common.y + u) k) 0
          ≡ min (2 ^ 64 - 1) (get_or olds (place_index mine.w n (common.x + i) (common.y + u) k) 0 + get_or others
          (place_index theirs.w n (left + i) (top + u) k) 0)) qj all)
          (cases_lt q j);
      kept = λ i q k li lk off.
          kept_at i q k li lk (λ same f6 f7. off f6 f7 (omega arith) (omega arith)) ∙
          m.kept i q k li lk (λ g1 g2 g3 g4. off g1 g2 g3 (omega arith));
    }

-- When all rows are added, the sums are the merged ones.
pub added_is : (g h : Grid) (news : List ℕ) → length news ≡ g.rect.w * g.rect.h * g.channels → h.channels ≡ g.channels →
    AddedTo g.channels g.rect h.rect (part_of h.rect g.rect) (corner_of h.rect g.rect).0 (corner_of h.rect g.rect).1 g.sums h.sums news
    (part_of h.rect g.rect).h →
    news ≡ (merged g h).sums
unfolding sum_at
added_is g h news count ch m =
    let n = g.channels in
    let r = g.rect in
    let s = h.rect in
    let common = part_of s r in
    let left = (corner_of s r).0 in
    let top = (corner_of s r).1 in
    samples_from_places r.w r.h n news _ count (λ x y k lx ly lk.
    let i = r.x + x in
    let j = r.y + y in
    let mx : i - r.x ≡ x = omega arith in
    let my : j - r.y ≡ y = omega arith in
    let mine : sum_at g i j k ≡ get_or g.sums (place_index r.w n x y k) 0 = ap (λ u. get_or g.sums (place_index r.w n u (j - r.y) k) 0) mx ∙
    ap (λ u. get_or g.sums (place_index r.w n x u k) 0) my in
    ⊎_elim
    (λ (p : HasPlace s i j).
    let cx : common.x + (x - common.x) ≡ x = omega arith in
    let cy : common.y + (y - common.y) ≡ y = omega arith in
    let tx : left + (x - common.x) ≡ i - s.x = omega arith in
    let ty : top + (y - common.y) ≡ j - s.y = omega arith in
    let theirs : get_or h.sums (place_index s.w n (left + (x - common.x)) (top + (y - common.y)) k) 0 ≡ sum_at h i j k =
    ap (λ u. get_or h.sums (place_index s.w n u (top + (y - common.y)) k) 0) tx ∙
    ap (λ u. get_or h.sums (place_index s.w n (i - s.x) u k) 0) ty
    ∙ ap (λ u. get_or h.sums (place_index s.w u (i - s.x) (j - s.y) k) 0) (sym ch) in
    let added : get_or news (place_index r.w n x y k) 0 ≡ min (2 ^ 64 - 1)
    (get_or g.sums (place_index r.w n x y k) 0 + get_or h.sums (place_index s.w n (left + (x - common.x)) (top + (y - common.y)) k) 0) =
    subst (λ (v : ℕ). get_or news (place_index r.w n x v k) 0 ≡ min (2 ^ 64 - 1)
    (get_or g.sums (place_index r.w n x v k) 0 + get_or h.sums (place_index s.w n (left + (x - common.x)) (top + (y - common.y)) k) 0))
    cy
    (subst (λ (u : ℕ). get_or news (place_index r.w n u (common.y + (y - common.y)) k) 0 ≡ min (2 ^ 64 - 1)
    (get_or g.sums (place_index r.w n u (common.y + (y - common.y)) k) 0 + get_or h.sums
    (place_index s.w n (left + (x - common.x)) (top + (y - common.y)) k) 0)) cx
    (m.both (x - common.x) (y - common.y) k (omega arith) (omega arith) lk)) in
    added ∙ ap (λ u. min (2 ^ 64 - 1) (u + get_or h.sums (place_index s.w n (left + (x - common.x)) (top + (y - common.y)) k) 0)) (sym mine)
    ∙ ap (λ u. min (2 ^ 64 - 1) (sum_at g i j k + u)) theirs
    ∙ sym (ap (λ (b : Bool). if b then min (2 ^ 64 - 1) (sum_at g i j k + sum_at h i j k) else sum_at g i j k) (has_place-yes s i j p)))
    (λ (p : ¬ (HasPlace s i j)).
    m.kept x y k lx lk (λ a b c d. p (omega arith, omega arith, omega arith, omega arith)) ∙ sym mine
    ∙ sym (ap (λ (b : Bool). if b then min (2 ^ 64 - 1) (sum_at g i j k + sum_at h i j k) else sum_at g i j k) (has_place-no s i j p)))
    (place_cases s i j))

-- Row j of the common part lies among the sums of a rectangle r, which has it from column x and row y on.
pub record RunFits (r : Rect) (n x y w j len : ℕ) : Type 0 where
  pub place : (y + j) * r.w + x < 2 ^ 60
  pub end : ((y + j) * r.w + x) * n + w * n ≤ len

-- Each row of the common part lies among the sums.
pub run_fits_in : (r : Rect) (n x y w j len : ℕ) → 0 < n → x + w ≤ r.w → y + j < r.h → len ≡ r.w * r.h * n → len < 2 ^ 60 → 0 < w →
    RunFits r n x y w j len
run_fits_in r n x y w j len positive columns row count small some =
    let end = run-le r.w r.h n x w (y + j) columns row in
    let most = mul-le ((y + j) * r.w + x) 1 ((y + j) * r.w + x) n (omega arith) positive in
    let more = mul-le 1 1 w n some positive in
    record { place = omega arith; end = omega arith }
