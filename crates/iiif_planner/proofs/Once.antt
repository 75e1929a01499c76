-- What covers a region names each square that has a place of it once.
use Rattle.std.proofs.Common.{◌≡◌, ℕ, ◌+◌, ◌-◌, ◌*◌, ◌/◌, ◌^◌, ◌<◌, Bool, true, false, List, [], ◌∷◌, max, map, refl, sym, ap, subst, ◌∙◌}
use Rattle.std.proofs.Common.{arith}
use Rattle.std.specs.Prelude.{nat_lt, ◌&&◌, ◌==◌}
use Rattle.std.specs.List.{All, count_by}
use Rattle.std.proofs.lemmas.Bool.{and_from, lt-ltb, ltb-true, eqb-true, false≢true, and_parts, false_from_ne_true}
use Rattle.std.proofs.lemmas.List.Elements.{All-head, All-tail, All-weaker}
use Rattle.iiif_pixel.specs.Geometry.{sides_of}
use Rattle.iiif_pixel.specs.Scaling.{whole_of}
use Rattle.iiif_pixel.specs.declared.geometry.Dim.{Dim}
use Rattle.iiif_pixel.specs.declared.geometry.Rect.{Rect}
use Rattle.iiif_area.specs.Places.{part_of, Meets}
use Rattle.iiif_area.specs.Grid.{has_place}
use Rattle.iiif_area.specs.Laws.{IsCutInto}
use Rattle.iiif_area.proofs.GridLaws.{has_place-tested}
use Rattle.iiif_keys.specs.Blocks.{square, clipped, tile_of, part_in}
use Rattle.iiif_keys.proofs.Cuts.{clipped_part, counted, one_if}
use Rattle.iiif_planner.specs.Laws.{is_met, EachTileOnce, EachBlockOnce}
use Rattle.iiif_planner.specs.Plans.{IsTileFor, IsBlockFor}
use Rattle.iiif_planner.proofs.Counts.{count_mapped}
use Rattle.iiif_planner.proofs.Meeting.{column_is, place_in}

-- tests that agree on each element count alike
pub count_same : {K : Type 0} (p q : K → Bool) (ks : List K) → All (λ k. p k ≡ q k) ks → count_by p ks ≡ count_by q ks
count_same p q [] h = refl
count_same p q (k ∷ ks) h =
    let first : p k ≡ q k = All-head (λ x. p x ≡ q x) k ks h in
    let rest = count_same p q ks (All-tail (λ x. p x ≡ q x) k ks h) in
    counted p k ks ∙ (ap (λ (b : Bool). one_if b + count_by p ks) first ∙ (ap (λ (n : ℕ). one_if (q k) + n) rest ∙ sym (counted q k ks)))

pub count_none : {K : Type 0} (p : K → Bool) (ks : List K) → All (λ k. p k ≡ false) ks → count_by p ks ≡ 0
count_none p [] h = refl
count_none p (k ∷ ks) h =
    let first : p k ≡ false = All-head (λ x. p x ≡ false) k ks h in
    let rest = count_none p ks (All-tail (λ x. p x ≡ false) k ks h) in
    counted p k ks ∙ (ap (λ (b : Bool). one_if b + count_by p ks) first ∙ (ap (λ (n : ℕ). 0 + n) rest ∙ omega arith))

-- a key of the square in this column and row, which has this part of the region, and has one
record IsOfSquare (s : ℕ) (g : Rect) (column row : ℕ) (part : Rect) : Type 0 where
  pub has : part ≡ part_of (square s column row) g
  pub met : Meets (square s column row) g

-- whether the square has a place of the region
abbrev meets : ℕ → Rect → ℕ → ℕ → Bool
meets s g i j = nat_lt 0 (part_of (square s i j) g).w && nat_lt 0 (part_of (square s i j) g).h

-- the square's first place of the region is one of just the square's part
first_place : {K : Type 0} (ks : List K) (column row : K → ℕ) (part : K → Rect) (s : ℕ) (g : Rect) (i j : ℕ) →
    IsCutInto (whole_of (sides_of g)) (map part ks) →
    All (λ k. IsOfSquare s g (column k) (row k) (part k)) ks → Meets (square s i j) g → count_by (λ k. column k == i && row k == j) ks ≡ 1
first_place {K} ks column row part s g i j cut of m =
    let columns = m.columns in
    let rows = m.rows in
    let x = max (i * s) g.x - g.x in
    let y = max (j * s) g.y - g.y in
    let p : 0 < s = omega arith in
    let u : (g.x + x) / s ≡ i = column_is s i (g.x + x) (omega arith) (omega arith) in
    let v : (g.y + y) / s ≡ j = column_is s j (g.y + y) (omega arith) (omega arith) in
    let a : nat_lt x g.w ≡ true = lt-ltb x g.w (omega arith) in
    let b : nat_lt y g.h ≡ true = lt-ltb y g.h (omega arith) in
    let same : All (λ k. (column k == i && row k == j) ≡ has_place (part k) x y) ks =
    All-weaker (λ k. IsOfSquare s g (column k) (row k) (part k)) (λ k. (column k == i && row k == j) ≡ has_place (part k) x y)
    (λ k h. sym (ap (λ (r : Rect). has_place r x y) h.has ∙ (rw (a, b, u, v) at (place_in s g (column k) (row k) x y p)))) ks of in
    let whole = (has_place-tested (whole_of (sides_of g)) x y).1 (omega arith, omega arith, omega arith, omega arith) in
    count_same _ _ ks same ∙ (sym (count_mapped (λ r. has_place r x y) part ks) ∙ (cut x y ∙ ap one_if whole))

-- and of a square that has no place of it no key is listed
not_listed : {K : Type 0} (ks : List K) (column row : K → ℕ) (part : K → Rect) (s : ℕ) (g : Rect) (i j : ℕ) →
    All (λ k. IsOfSquare s g (column k) (row k) (part k)) ks → meets s g i j ≡ false → count_by (λ k. column k == i && row k == j) ks ≡ 0
not_listed {K} ks column row part s g i j of off =
    count_none _ ks (All-weaker (λ k. IsOfSquare s g (column k) (row k) (part k)) (λ k. (column k == i && row k == j) ≡ false)
    (λ k h. false_from_ne_true (column k == i && row k == j) (λ t.
    let q = and_parts (column k == i) (row k == j) t in
    let m = subst (λ (y : ℕ). Meets (square s i y) g) (eqb-true (row k) j q.1)
    (subst (λ (x : ℕ). Meets (square s x (row k)) g) (eqb-true (column k) i q.0) h.met) in
    let yes : meets s g i j ≡ true = and_from _ _ (lt-ltb 0 _ m.columns) (lt-ltb 0 _ m.rows) in
    absurd (false≢true (sym off ∙ yes)))) ks of)

listed_once : {K : Type 0} (ks : List K) (column row : K → ℕ) (part : K → Rect) (s : ℕ) (g : Rect) (i j : ℕ) (b : Bool) →
    meets s g i j ≡ b →
    IsCutInto (whole_of (sides_of g)) (map part ks) → All (λ k. IsOfSquare s g (column k) (row k) (part k)) ks →
    count_by (λ k. column k == i && row k == j) ks ≡ one_if b
listed_once ks column row part s g i j true e cut of =
    let q = and_parts (nat_lt 0 (part_of (square s i j) g).w) (nat_lt 0 (part_of (square s i j) g).h) e in
    first_place ks column row part s g i j cut of (record { columns = ltb-true 0 _ q.0; rows = ltb-true 0 _ q.1 })
listed_once ks column row part s g i j false e cut of = not_listed ks column row part s g i j of e

-- a square meets the region where what the image leaves of it does
unclipped : (image : Dim) (r g : Rect) → part_of (clipped image r) g ≡ part_of r g → Meets (clipped image r) g → Meets r g
unclipped image r g e m = record { columns = subst (λ (p : Rect). 0 < p.w) e m.columns; rows = subst (λ (p : Rect). 0 < p.h) e m.rows }

pub each_tile_once : EachTileOnce
each_tile_once name edge image channels g ks h cover i j =
    let e = sym (clipped_part image (square edge i j) g h) in
    let of : All (λ k. IsOfSquare edge g k.tx k.ty (part_of (tile_of image k) g)) ks =
    All-weaker (IsTileFor name edge image channels g) (λ k. IsOfSquare edge g k.tx k.ty (part_of (tile_of image k) g)) (λ k t.
    let c = clipped_part image (square k.edge k.tx k.ty) g h in
    subst (λ (s : ℕ). IsOfSquare s g k.tx k.ty (part_of (tile_of image k) g)) t.own_edge
    (record { has = c; met = unclipped image (square k.edge k.tx k.ty) g c t.meets })) ks cover.tiles in
    listed_once ks (λ k. k.tx) (λ k. k.ty) (λ k. part_of (tile_of image k) g) edge g i j (is_met image edge g i j)
    (ap (λ (p : Rect). nat_lt 0 p.w && nat_lt 0 p.h) e) cover.cut of

pub each_block_once : EachBlockOnce
each_block_once name edge image channels g size level ks h cover i j =
    let s = 2 ^ level * edge in
    let e = sym (clipped_part image (square s i j) g h) in
    let of : All (λ k. IsOfSquare s g k.bx k.by (part_in image k)) ks =
    All-weaker (IsBlockFor name edge image channels g size level) (λ k. IsOfSquare s g k.bx k.by (part_in image k)) (λ k t.
    let side = 2 ^ k.level * k.edge in
    let same : side ≡ s = rw (t.at_level, t.own_edge) refl in
    let c = clipped_part image (square side k.bx k.by) k.rect t.fits.block.rect in
    let of : IsOfSquare side k.rect k.bx k.by (part_in image k) =
    record { has = c; met = unclipped image (square side k.bx k.by) k.rect c t.fits.block.meets } in
    subst (λ (n : ℕ). IsOfSquare n g k.bx k.by (part_in image k)) same
    (subst (λ (r : Rect). IsOfSquare side r k.bx k.by (part_in image k)) t.of_region of)) ks cover.blocks in
    listed_once ks (λ k. k.bx) (λ k. k.by) (part_in image) s g i j (is_met image s g i j)
    (ap (λ (p : Rect). nat_lt 0 p.w && nat_lt 0 p.h) e) cover.cut of
