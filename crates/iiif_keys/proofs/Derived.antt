-- Lemmas on derived values: the meanings of a sum's parts make its meaning.
use Rattle.std.proofs.Common.{◌≡◌, ℕ, zero, suc, ◌*◌, ◌^◌, ◌<◌, ◌≤◌, Bool, true, false, cond, List, [], ◌∷◌, Option, Some, map, fold, refl}
use Rattle.std.proofs.Common.{sym, ap, ◌∙◌, arith}
use Rattle.std.specs.Prelude.{unwrap_or, ◌==◌}
use Rattle.std.specs.List.{filter, AllByRecursion}
use Rattle.std.proofs.Math.Nat.{mul-le-mul}
use Rattle.std.proofs.lemmas.Bool.{eqb-true}
use Rattle.iiif_pixel.specs.Geometry.{channels_of, LiesIn, sides_of}
use Rattle.iiif_pixel.specs.Picture.{Picture, dim_of, IsWhole}
use Rattle.iiif_pixel.specs.Operations.{crop}
use Rattle.iiif_pixel.specs.declared.geometry.Rect.{Rect}
use Rattle.iiif_pixel.proofs.Whole.{whole_crop}
use Rattle.iiif_area.specs.Code.{tile_sample}
use Rattle.iiif_area.specs.Places.{part_of, places_of}
use Rattle.iiif_area.specs.Grid.{Grid, grid_of, merged, sums_of}
use Rattle.iiif_area.proofs.PieceLaws.{pieces_merge}
use Rattle.iiif_area.proofs.TileLaws.{tile_grid-is}
use Rattle.iiif_keys.specs.declared.keys.SumKey.{SumKey}
use Rattle.iiif_keys.specs.declared.keys.Shape.{Shape}
use Rattle.iiif_keys.specs.Names.{Pictures, named, no_picture, IsSource}
use Rattle.iiif_keys.specs.Shapes.{HasPicture}
use Rattle.iiif_keys.specs.Blocks.{square, clipped, tile_of, block_of, part_in, places_in, SumFitsIn}
use Rattle.iiif_keys.specs.Meaning.{sum_meaning, sum_derived, tile_meaning, tile_below, tile_sums, no_sums, quarter, quarters, meets_rect}
use Rattle.iiif_keys.specs.Meaning.{sums_below}
use Rattle.iiif_keys.proofs.Cuts.{whole_square, square_part, clipped_part, quarters_cut}
use Rattle.iiif_keys.proofs.Shaped.{fits_picture}

-- The named picture is the one that the name is known to have.
pub picture_is : (shows : Pictures) (name : List ℕ) (p : Picture) → shows name ≡ Some p → named shows name ≡ p
picture_is shows name p e = ap (λ (o : Option Picture). unwrap_or o no_picture) e

-- The meaning of a sum's key, by its block not cut off.
sum_is : (shows : Pictures) (p : Picture) (q : SumKey) → named shows q.name ≡ p → LiesIn q.rect (dim_of p) →
    (sum_meaning shows q).sums ≡ sums_of (crop p q.rect) q.size (square_part q)
sum_is shows p q e h =
    ap (λ (u : Picture). sums_of (crop u q.rect) q.size (part_in (dim_of u) q)) e
    ∙ ap (λ (r : Rect). sums_of (crop p q.rect) q.size r) (clipped_part (dim_of p) (whole_square q) q.rect h)

-- A function that is a composition at an element maps as it does, with that element or without.
kept : (f : SumKey → Grid) (g : Rect → Grid) (h : SumKey → Rect) (q : SumKey) (qs : List SumKey) (b : Bool) → f q ≡ g (h q) →
    map f qs ≡ map g (map h qs) →
    map f (cond b (q ∷ qs) qs) ≡ map g (map h (cond b (q ∷ qs) qs))
kept f g h q qs true e others = cc
kept f g h q qs false e others = others

-- A function that is a composition on each element maps what a filter keeps as it does.
mapped : (f : SumKey → Grid) (g : Rect → Grid) (h : SumKey → Rect) (t : SumKey → Bool) (qs : List SumKey) →
    AllByRecursion (λ q. f q ≡ g (h q)) qs →
    map f (filter t qs) ≡ map g (map h (filter t qs))
mapped f g h t [] e = refl
mapped f g h t (q ∷ qs) e = kept f g h q (filter t qs) (t q) e.0 (mapped f g h t qs e.1)

-- Above level 0, the merged sums of the quarters are the meaning.
pub merged_meaning : (shows : Pictures) (p : Picture) (k : SumKey) → shows k.name ≡ Some p → IsWhole p → p.width * p.height ≤ 2 ^ 32 →
    SumFitsIn (dim_of p) p.channels k → 0 < k.level →
    fold merged (no_sums (dim_of p) p.channels k) (map (λ q. (sum_meaning shows q).sums) (sums_below k)) ≡ (sum_meaning shows k).sums
merged_meaning shows p k known whole area fits above =
    let name = picture_is shows k.name p known in
    let h = fits.block.rect in
    let part = clipped_part (dim_of p) (whole_square k) k.rect h in
    let w = fits.columns in
    let b = fits.rows in
    let c = h.columns in
    let d = h.rows in
    let small : k.rect.w * k.rect.h ≤ p.width * p.height = mul-le-mul (omega arith) (omega arith) in
    let f : SumKey → Grid = λ q. (sum_meaning shows q).sums in
    let g : Rect → Grid = λ r. sums_of (crop p k.rect) k.size r in
    let each = λ (i j : ℕ). sum_is shows p (quarter k i j) name h in
    let parts = mapped f g square_part meets_rect (quarters k) (each 0 0, (each 1 0, (each 0 1, (each 1 1, tt)))) in
    let start : no_sums (dim_of p) p.channels k ≡ grid_of (places_of (sides_of k.rect) k.size (square_part k)) p.channels (λ i j n. 0) =
    ap (λ (r : Rect). grid_of (places_of (sides_of k.rect) k.size r) p.channels (λ i j n. 0)) part in
    let merge = pieces_merge (crop p k.rect) k.size (square_part k) (places_of (sides_of k.rect) k.size (square_part k))
    (map square_part (sums_below k))
    (whole_crop p k.rect whole) (omega arith) (omega arith) (omega arith) (quarters_cut k above) in
    ap (λ (d : Grid). fold merged d (map f (sums_below k))) start
    ∙ (ap (λ (gs : List Grid). fold merged (grid_of (places_of (sides_of k.rect) k.size (square_part k)) p.channels (λ i j n. 0)) gs) parts
    ∙ (merge ∙ sym (sum_is shows p k name h)))

-- At level 0, the tile's sums are the meaning.
pub tile_meant : (shows : Pictures) (p : Picture) (k : SumKey) → shows k.name ≡ Some p → k.level ≡ 0 →
    tile_sums (tile_meaning shows (tile_below k)).raster (tile_of (dim_of p) (tile_below k)) k (places_in (dim_of p) k) ≡
    (sum_meaning shows k).sums
unfolding tile_sample
tile_meant shows p k known level =
    let name = picture_is shows k.name p known in
    let at = tile_of (dim_of p) (tile_below k) in
    let side : k.edge ≡ 2 ^ k.level * k.edge = rw level (omega arith) in
    let block : at ≡ block_of (dim_of p) k = ap (λ (s : ℕ). clipped (dim_of p) (square s k.bx k.by)) side in
    let places : places_in (dim_of p) k ≡ places_of (sides_of k.rect) k.size (part_of at k.rect) =
    ap (λ (r : Rect). places_of (sides_of k.rect) k.size (part_of r k.rect)) (sym block) in
    ap (λ (u : Picture). tile_sums (crop u (tile_of (dim_of u) (tile_below k))) at k (places_in (dim_of p) k)) name
    ∙ (ap (λ (r : Rect). tile_sums (crop p at) at k r) places
    ∙ (tile_grid-is p at k.rect k.size
    ∙ (ap (λ (r : Rect). sums_of (crop p k.rect) k.size (part_of r k.rect)) block
    ∙ ap (λ (u : Picture). sums_of (crop u k.rect) k.size (part_in (dim_of u) k)) (sym name))))

-- A level that is not 0 is above 0.
pub above_zero : (l : ℕ) → (l == 0) ≡ false → 0 < l
above_zero zero e = absurd cc
above_zero (suc l) e = omega arith

-- A choice of two equal values is that value.
chosen : (b : Bool) (x y z : Grid) → (b ≡ true → x ≡ z) → (b ≡ false → y ≡ z) → cond b x y ≡ z
chosen true x y z f g = f refl
chosen false x y z f g = g refl

-- The derived value of a sum's key that fits is its meaning.
pub derived_is : (shows : Pictures) (s : Shape) (k : SumKey) → HasPicture shows k.name s → IsSource (named shows k.name) →
    SumFitsIn s.dim (channels_of s.kind) k
    → sum_derived shows k ≡ sum_meaning shows k
derived_is shows s k has source fits =
    let p = named shows k.name in
    let own : SumFitsIn (dim_of p) p.channels k = fits_picture (λ d n. SumFitsIn d n k) p s has.shape source.whole fits in
    ap (λ (g : Grid). record { sums = g })
    (chosen (k.level == 0) _ _ _
    (λ e. tile_meant shows p k has.known (eqb-true k.level 0 e))
    (λ e. merged_meaning shows p k has.known source.whole source.readable.area own (above_zero k.level e)))
