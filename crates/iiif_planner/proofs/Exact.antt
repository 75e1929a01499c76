-- The tiles or blocks that cover a region, row by row, are just those of the squares that it meets, and so a plan's list is known.
use Rattle.std.proofs.Common.{◌≡◌, ℕ, suc, ◌+◌, ◌-◌, ◌*◌, ◌/◌, ◌^◌, ◌<◌, ◌≤◌, inl, inr, Bool, true, false, List, [], ◌∷◌, refl, sym}
use Rattle.std.proofs.Common.{ap, ◌∙◌, arith, ⊎_elim}
use Rattle.std.specs.Prelude.{◌&&◌, ◌==◌, nat_le, nat_lt}
use Rattle.std.specs.Int.{div_ceil}
use Rattle.std.specs.List.{All, AllPairs, count_by}
use Rattle.std.proofs.lemmas.Bool.{cases_lt, eq-eqb, eqb-true, and_from, and_parts, false_from_ne_true, leb-true, lt-ltb, ltb-true}
use Rattle.std.proofs.lemmas.List.Elements.{All-cons, All-head, All-tail, All-weaker}
use Rattle.iiif_pixel.specs.Geometry.{LiesIn}
use Rattle.iiif_pixel.specs.declared.geometry.Dim.{Dim}
use Rattle.iiif_pixel.specs.declared.geometry.Rect.{Rect}
use Rattle.iiif_area.specs.Places.{part_of}
use Rattle.iiif_keys.specs.Blocks.{square}
use Rattle.iiif_keys.specs.declared.keys.TileKey.{TileKey}
use Rattle.iiif_keys.specs.declared.keys.SumKey.{SumKey}
use Rattle.iiif_keys.proofs.Cuts.{alike, clipped_part, counted, one_if, within, within_yes}
use Rattle.iiif_planner.specs.Items.{block_at, each_square, squares_met, tile_at}
use Rattle.iiif_planner.specs.Laws.{is_met}
use Rattle.iiif_planner.specs.Plans.{BlocksCover, IsBlockFor, IsTileFor, StandsBefore, TilesCover}
use Rattle.iiif_planner.proofs.Counts.{each_all, each_count, each_pair}
use Rattle.iiif_planner.proofs.Meeting.{met_first, met_last, square_meets}
use Rattle.iiif_planner.proofs.Once.{count_none, each_block_once, each_tile_once}

pairs_head : {K : Type 0} (R : K → K → Type 0) (x : K) (xs : List K) → AllPairs R (x ∷ xs) → All (R x) xs
pairs_head R x xs h = λ i d l. h 0 (suc i) d (omega arith) (omega arith)

pairs_tail : {K : Type 0} (R : K → K → Type 0) (x : K) (xs : List K) → AllPairs R (x ∷ xs) → AllPairs R xs
pairs_tail R x xs h = λ i j d l m. h (suc i) (suc j) d (omega arith) (omega arith)

-- equal, or one before the other
data Compared (i j k l : ℕ) : Type 0 where
  Before : StandsBefore i j k l → Compared i j k l
  After : StandsBefore k l i j → Compared i j k l
  Same : i ≡ k → j ≡ l → Compared i j k l

compare : (i j k l : ℕ) → Compared i j k l
compare i j k l =
    ⊎_elim
    (λ (a : j < l). Before (inl a))
    (λ (a : l ≤ j). ⊎_elim
    (λ (b : l < j). After (inl b))
    (λ (b : j ≤ l). ⊎_elim
    (λ (c : i < k). Before (inr (omega arith, c)))
    (λ (c : k ≤ i). ⊎_elim
    (λ (d : k < i). After (inr (omega arith, d)))
    (λ (d : i ≤ k). Same (omega arith) (omega arith))
    (cases_lt k i))
    (cases_lt i k))
    (cases_lt l j))
    (cases_lt j l)

module _ {K : Type 0} (column row : K → ℕ) where
  abbrev is_at : ℕ → ℕ → K → Bool
  is_at i j k = column k == i && row k == j

  abbrev Precedes : K → K → Type 0
  Precedes k l = StandsBefore (column k) (row k) (column l) (row l)

  -- one that stands behind a square isn't at it
  not_at : (i j : ℕ) (k : K) → StandsBefore i j (column k) (row k) → is_at i j k ≡ false
  not_at i j k before =
      false_from_ne_true (is_at i j k) (λ h.
      let t = and_parts (column k == i) (row k == j) h in
      let c = eqb-true (column k) i t.0 in
      let r = eqb-true (row k) j t.1 in
      ⊎_elim (λ (a : j < row k). absurd (omega arith)) (λ (a : (j ≡ row k) × (i < column k)). let b = a.1 in absurd (omega arith)) before)

  behind : (i j k l m n : ℕ) → StandsBefore i j k l → StandsBefore k l m n → StandsBefore i j m n
  behind i j k l m n a b =
      ⊎_elim
      (λ (c : j < l). ⊎_elim
      (λ (d : l < n). inl (omega arith))
      (λ (d : (l ≡ n) × (k < m)). let e = d.0 in inl (omega arith)) b)
      (λ (c : (j ≡ l) × (i < k)). let e = c.0 in let f = c.1 in ⊎_elim
      (λ (d : l < n). inl (omega arith))
      (λ (d : (l ≡ n) × (k < m)). let g = d.0 in let h = d.1 in inr (omega arith, omega arith)) b)
      a

  -- a list that begins behind a square hasn't it
  none_at : (i j : ℕ) (y : K) (ys : List K) → StandsBefore i j (column y) (row y) → AllPairs Precedes (y ∷ ys) →
      count_by (is_at i j) (y ∷ ys) ≡ 0
  none_at i j y ys before pairs =
      let rest = All-weaker (λ k. Precedes y k) (λ k. is_at i j k ≡ false)
      (λ k h. not_at i j k (behind i j (column y) (row y) (column k) (row k) before h)) ys (pairs_head Precedes y ys pairs) in
      count_none (is_at i j) (y ∷ ys) (All-cons (λ k. is_at i j k ≡ false) y ys (not_at i j y before) rest)

  -- and one that begins with it has it
  has_first : (x : K) (xs : List K) → 0 < count_by (is_at (column x) (row x)) (x ∷ xs)
  has_first x xs =
      let at : is_at (column x) (row x) x ≡ true = and_from _ _ (eq-eqb (column x) (column x) refl) (eq-eqb (row x) (row x) refl) in
      let e = counted (is_at (column x) (row x)) x xs ∙ ap (λ (b : Bool). one_if b + count_by (is_at (column x) (row x)) xs) at in
      omega (arith, e)

  tails_alike : (p : K → Bool) (x : K) (xs ys : List K) → count_by p (x ∷ xs) ≡ count_by p (x ∷ ys) → count_by p xs ≡ count_by p ys
  tails_alike p x xs ys h =
      let a = counted p x xs in
      let b = counted p x ys in
      omega (arith, a, b, h)

  -- Two lists row by row that have each square as often as the other are equal, where a square says which element it is.
  pub same_list : (f : ℕ → ℕ → K) (xs ys : List K) → AllPairs Precedes xs → AllPairs Precedes ys →
      All (λ k. k ≡ f (column k) (row k)) xs → All (λ k. k ≡ f (column k) (row k)) ys →
      ((i j : ℕ) → count_by (is_at i j) xs ≡ count_by (is_at i j) ys) → xs ≡ ys
  same_list f [] [] p q a b h = refl
  same_list f (x ∷ xs) [] p q a b h = let e = has_first x xs in let g = h (column x) (row x) in absurd (omega (arith, e, g))
  same_list f [] (y ∷ ys) p q a b h = let e = has_first y ys in let g = h (column y) (row y) in absurd (omega (arith, e, g))
  same_list f (x ∷ xs) (y ∷ ys) p q a b h =
      elim (compare (column x) (row x) (column y) (row y)) as (λ o. x ∷ xs ≡ y ∷ ys) [
        | Before s ↦
            let none = none_at (column x) (row x) y ys s q in
            let e = has_first x xs in
            let g = h (column x) (row x) in
            absurd (omega (arith, e, g, none))
        | After s ↦
            let none = none_at (column y) (row y) x xs s p in
            let e = has_first y ys in
            let g = h (column y) (row y) in
            absurd (omega (arith, e, g, none))
        | Same c r ↦
            let E : K → Type 0 = λ k. k ≡ f (column k) (row k) in
            let is : x ≡ y = All-head E x xs a ∙ ap (λ n. f n (row x)) c ∙ ap (λ n. f (column y) n) r ∙ sym (All-head E y ys b) in
            let rest = same_list f xs ys (pairs_tail Precedes x xs p) (pairs_tail Precedes y ys q) (All-tail E x xs a) (All-tail E y ys b)
            (λ i j. tails_alike (is_at i j) x xs ys (h i j ∙ ap (λ (k : K). count_by (is_at i j) (k ∷ ys)) (sym is))) in
            ap (λ (k : K). k ∷ xs) is ∙ ap (λ (ks : List K). y ∷ ks) rest
      ]

-- A square has a place of a region of the image where it is one of those that the region meets.
met_is : (image : Dim) (s : ℕ) (g : Rect) (i j : ℕ) → 0 < s → 0 < g.w → 0 < g.h → LiesIn g image →
    is_met image s g i j
    ≡ (within (g.x / s) (div_ceil (g.x + g.w) s - g.x / s) i && within (g.y / s) (div_ceil (g.y + g.h) s - g.y / s) j)
met_is image s g i j p w h lies =
    ap (λ (r : Rect). nat_lt 0 r.w && nat_lt 0 r.h) (clipped_part image (square s i j) g lies) ∙
    alike _ _
    (λ met.
    let t = and_parts (nat_lt 0 (part_of (square s i j) g).w) (nat_lt 0 (part_of (square s i j) g).h) met in
    let a = ltb-true 0 _ t.0 in
    let b = ltb-true 0 _ t.1 in
    let left = met_first s g.x i p (omega arith) in
    let right = met_last s (g.x + g.w) i p (omega arith) in
    let top = met_first s g.y j p (omega arith) in
    let bottom = met_last s (g.y + g.h) j p (omega arith) in
    and_from _ _ (within_yes _ _ i left (omega arith)) (within_yes _ _ j top (omega arith)))
    (λ are.
    let t = and_parts (within (g.x / s) (div_ceil (g.x + g.w) s - g.x / s) i) (within (g.y / s) (div_ceil (g.y + g.h) s - g.y / s) j) are in
    let c = and_parts (nat_le (g.x / s) i) (nat_lt i (g.x / s + (div_ceil (g.x + g.w) s - g.x / s))) t.0 in
    let r = and_parts (nat_le (g.y / s) j) (nat_lt j (g.y / s + (div_ceil (g.y + g.h) s - g.y / s))) t.1 in
    let left = leb-true _ i c.0 in
    let right = ltb-true i _ c.1 in
    let top = leb-true _ j r.0 in
    let bottom = ltb-true j _ r.1 in
    let m = square_meets s g i j p w h left (omega arith) top (omega arith) in
    and_from _ _ (lt-ltb 0 _ m.columns) (lt-ltb 0 _ m.rows))

-- The tiles that cover a region are those of the squares that it meets, in their order.
pub tiles_exact : (name : List ℕ) (edge : ℕ) (image : Dim) (channels : ℕ) (g : Rect) (keys : List TileKey) → 0 < edge → 0 < g.w → 0 < g.h →
    LiesIn g image → TilesCover name edge image channels g keys → keys ≡ each_square (tile_at name edge) (squares_met edge g)
tiles_exact name edge image channels g keys p w h lies cover =
    let f = tile_at name edge in
    let s = squares_met edge g in
    same_list (λ k. k.tx) (λ k. k.ty) f keys (each_square f s) cover.in_order
    (each_pair f (λ k l. StandsBefore k.tx k.ty l.tx l.ty) s (λ i j k l t. t))
    (All-weaker (IsTileFor name edge image channels g) (λ k. k ≡ f k.tx k.ty)
    (λ k t. ap (λ n. tile_at n k.edge k.tx k.ty) t.named ∙ ap (λ n. tile_at name n k.tx k.ty) t.own_edge) keys cover.tiles)
    (each_all f (λ k. k ≡ f k.tx k.ty) s (λ i j a b c d. refl))
    (λ i j. each_tile_once name edge image channels g keys lies cover i j ∙ ap one_if (met_is image edge g i j p w h lies)
    ∙ sym (each_count f (λ k. k.tx == i && k.ty == j) true i j s (λ a b. refl)))

-- And so are the blocks of a level.
pub blocks_exact : (name : List ℕ) (edge : ℕ) (image : Dim) (channels : ℕ) (g : Rect) (size : Dim) (level : ℕ) (keys : List SumKey) →
    0 < 2 ^ level * edge → 0 < g.w → 0 < g.h → LiesIn g image → BlocksCover name edge image channels g size level keys →
    keys ≡ each_square (block_at name edge g size level) (squares_met (2 ^ level * edge) g)
blocks_exact name edge image channels g size level keys p w h lies cover =
    let f = block_at name edge g size level in
    let s = squares_met (2 ^ level * edge) g in
    same_list (λ k. k.bx) (λ k. k.by) f keys (each_square f s) cover.in_order
    (each_pair f (λ k l. StandsBefore k.bx k.by l.bx l.by) s (λ i j k l t. t))
    (All-weaker (IsBlockFor name edge image channels g size level) (λ k. k ≡ f k.bx k.by)
    (λ k t. ap (λ n. block_at n k.edge k.rect k.size k.level k.bx k.by) t.named
    ∙ ap (λ n. block_at name n k.rect k.size k.level k.bx k.by) t.own_edge
    ∙ ap (λ (r : Rect). block_at name edge r k.size k.level k.bx k.by) t.of_region
    ∙ ap (λ (d : Dim). block_at name edge g d k.level k.bx k.by) t.to_size
    ∙ ap (λ n. block_at name edge g size n k.bx k.by) t.at_level) keys cover.blocks)
    (each_all f (λ k. k ≡ f k.bx k.by) s (λ i j a b c d. refl))
    (λ i j. each_block_once name edge image channels g size level keys lies cover i j
    ∙ ap one_if (met_is image (2 ^ level * edge) g i j p w h lies)
    ∙ sym (each_count f (λ k. k.bx == i && k.by == j) true i j s (λ a b. refl)))
