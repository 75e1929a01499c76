-- The items of a band.
use Rattle.std.proofs.Common.{◌≡◌, ℕ, ◌+◌, ◌*◌, ◌^◌, ◌<◌, ◌≤◌, ◌↔◌, ◌⊎◌, List, []}
use Rattle.std.proofs.Common.{◌∷◌, true, length, get_or, max, refl, sym, subst, ap}
use Rattle.std.proofs.Common.{◌∙◌, arith, ⊎_elim, Global}
use Rattle.std.specs.Prelude.{nat_lt}
use Rattle.std.proofs.lemmas.Bool.{and_from, lt-ltb, ltb-true, and_parts}
use Rattle.std.specs.declared.vec.Vec.{Vec}
use Rattle.std.proofs.lemmas.List.Elements.{All-head}
use Rattle.std.proofs.lemmas.Nat.{pow_pos}
use Rattle.std.proofs.Math.Nat.{mul-le-mul}
use Rattle.iiif_pixel.specs.Geometry.{HasPlace, LiesIn, sides_of}
use Rattle.iiif_pixel.specs.TurnPlaces.{turned_place}
use Rattle.iiif_pixel.specs.declared.geometry.Dim.{Dim}
use Rattle.iiif_pixel.specs.declared.geometry.Rect.{Rect}
use Rattle.iiif_pixel.specs.declared.geometry.Turn.{Turn}
use Rattle.iiif_area.specs.Places.{part_of, Meets}
use Rattle.iiif_keys.proofs.Cuts.{clipped_part}
use Rattle.iiif_keys.specs.Blocks.{square, clipped}
use Rattle.iiif_keys.specs.declared.keys.TileKey.{TileKey}
use Rattle.iiif_keys.specs.declared.keys.SumKey.{SumKey}
use Rattle.iiif_planner.specs.Plans.{IsTileFor, IsBlockFor}
use Rattle.iiif_planner.specs.Items.{block_at, each_square, squares_met, tile_at}
use Rattle.iiif_canonical.specs.declared.resolved.Resolved.{Resolved}
use Rattle.iiif_planner.specs.declared.plans.Plan.TheVariants.{Copy, Grow, Sum}
use Rattle.iiif_planner.specs.Bands.{places_from, IsPlanned, ListsThose, ReachesInto}
use Rattle.iiif_planner.specs.Code.{block_met, grown_met, have_common, place_among, source_of, tile_met, AreBlocks, AreTiles}
use Rattle.iiif_planner.proofs.Backwards.{none_common, part_squares, places_kept}
use Rattle.iiif_planner.proofs.Exact.{blocks_exact, tiles_exact}
use Rattle.iiif_planner.proofs.Runs.{places_from-nil, places_from-none, places_from-same}

-- rectangles meet where the test says so
pub common_meets : (a b : Rect) → have_common a b ≡ true → Meets a b
unfolding have_common
common_meets a b h =
    let p = part_of a b in
    let t = and_parts (nat_lt 0 p.w) (nat_lt 0 p.h) h in
    record { columns = ltb-true 0 p.w t.0; rows = ltb-true 0 p.h t.1 }

-- the test says so where rectangles meet
pub meets_common : (a b : Rect) → Meets a b → have_common a b ≡ true
unfolding have_common
meets_common a b m = let p = part_of a b in and_from _ _ (lt-ltb 0 p.w m.columns) (lt-ltb 0 p.h m.rows)

-- an item has a place of a part of the scaled result where it reaches into the rectangle that the part is turned into
pub reaches : (t : Turn) (d : Dim) (places from rect : Rect) → LiesIn from d →
    ((x y : ℕ) → x < d.w → y < d.h → HasPlace from x y ↔ HasPlace rect (turned_place t d x y).0 (turned_place t d x y).1) →
    (have_common places from ≡ true) ↔ ReachesInto t d places rect
reaches t d places from rect lies same = (
  λ h.
      let m = common_meets places from h in
      let c = m.columns in
      let r = m.rows in
      let x = max places.x from.x in
      let y = max places.y from.y in
      let lx : x < d.w = let l = lies.columns in omega arith in
      let ly : y < d.h = let l = lies.rows in omega arith in
      let here : HasPlace places x y = (omega arith, omega arith, omega arith, omega arith) in
      let there : HasPlace from x y = (omega arith, omega arith, omega arith, omega arith) in
      (x, y, lx, ly, here, (same x y lx ly).0 there),
  λ h.
      let x = h.0 in
      let y = h.1 in
      let here : HasPlace places x y = h.4 in
      let there : HasPlace from x y = (same x y h.2 h.3).1 h.5 in
      meets_common places from (record { columns = omega arith; rows = omega arith }),
)

-- what a region has of a rectangle that it meets lies in the region
pub part_lies : (t region : Rect) → Meets t region → LiesIn (part_of t region) (sides_of region)
part_lies t region m = let c = m.columns in let r = m.rows in record { columns = omega arith; rows = omega arith }

-- an item that is tested so is listed so
pub lists_those : {K : Type 0} (t : Turn) (d : Dim) (places : K → Rect) (from rect : Rect) (keys : List K) (items : List ℕ) →
    LiesIn from d →
    ((x y : ℕ) → x < d.w → y < d.h → HasPlace from x y ↔ HasPlace rect (turned_place t d x y).0 (turned_place t d x y).1) →
    items ≡ places_from 0 (λ k. have_common (places k) from) keys → ListsThose (λ k. ReachesInto t d (places k) rect) keys items
lists_those t d places from rect keys items lies same are =
    (λ k. have_common (places k) from, λ k. reaches t d (places k) from rect lies same, are)

-- a square meets a region of the image where what the image leaves of it does
pub meets_square : (image : Dim) (r g : Rect) → LiesIn g image → Meets (clipped image r) g → Meets r g
meets_square image r g h m =
    let e = clipped_part image r g h in
    record { columns = subst (λ (p : Rect). 0 < p.w) e m.columns; rows = subst (λ (p : Rect). 0 < p.h) e m.rows }

-- What the first key of a plan says of the plan: its squares and its region have places, and its numbers are small.
pub record IsGrid (side : ℕ) (g : Rect) : Type 0 where
  pub some : 0 < side
  pub columns : 0 < g.w
  pub rows : 0 < g.h
  pub right : g.x + g.w < 2 ^ 32
  pub bottom : g.y + g.h < 2 ^ 32

-- of tiles
pub tiles_grid : (g : Rect) (keys : List TileKey) (k : TileKey) → AreTiles g keys → 0 < length keys → get_or keys 0 k ≡ k → IsGrid k.edge g
tiles_grid g [] k of some at = absurd (omega (arith, some))
tiles_grid g (x ∷ xs) k of some at =
    let t = All-head (IsTileFor of.name of.edge of.image of.channels g) x xs of.cover.tiles in
    let m = meets_square of.image (square x.edge x.tx x.ty) g of.inside t.meets in
    let a = m.columns in
    let b = m.rows in
    let c = of.inside.columns in
    let d = of.inside.rows in
    let e = of.small.0 in
    let f = of.small.1 in
    subst (λ (q : TileKey). IsGrid q.edge g) at
    (record { some = t.fits.edge.some; columns = omega arith; rows = omega arith; right = omega arith; bottom = omega arith })

-- of blocks
pub blocks_grid : (g : Rect) (size : Dim) (keys : List SumKey) (k : SumKey) → AreBlocks g size keys → 0 < length keys →
    get_or keys 0 k ≡ k → (k.edge ≤ 1024) × (k.level ≤ 20) × IsGrid (2 ^ k.level * k.edge) g
blocks_grid g size [] k of some at = absurd (omega (arith, some))
blocks_grid g size (x ∷ xs) k of some at =
    let t = All-head (IsBlockFor of.name of.edge of.image of.channels g size of.level) x xs of.cover.blocks in
    let block = t.fits.block in
    let n = meets_square of.image (square (2 ^ x.level * x.edge) x.bx x.by) x.rect block.rect block.meets in
    let m = subst (λ (r : Rect). Meets (square (2 ^ x.level * x.edge) x.bx x.by) r) t.of_region n in
    let a = m.columns in
    let b = m.rows in
    let c = of.inside.columns in
    let d = of.inside.rows in
    let e = of.small.0 in
    let f = of.small.1 in
    let power : 1 ≤ 2 ^ x.level = pow_pos x.level in
    let product : 1 * 1 ≤ 2 ^ x.level * x.edge = mul-le-mul power block.edge.some in
    subst (λ (q : SumKey). (q.edge ≤ 1024) × (q.level ≤ 20) × IsGrid (2 ^ q.level * q.edge) g) at (
      block.edge.within,
      block.level,
      record { some = omega arith; columns = omega arith; rows = omega arith; right = omega arith; bottom = omega arith },
    )

-- The squares of the part's source are the tiles that have samples for the part.
pub tiles_listed : (g : Rect) (size : Dim) (part : Rect) (keys : List TileKey) (k : TileKey) (side : ℕ) → AreTiles g keys →
    0 < length keys → get_or keys 0 k ≡ k → side ≡ k.edge → 0 < part.w → 0 < part.h → LiesIn part size →
    each_square (place_among (squares_met side g)) (squares_met side (source_of g size part)) ≡ places_from 0 (grown_met g size part) keys
tiles_listed g size part [] k side of some at is w h inside = absurd (omega (arith, some))
tiles_listed g size part (x ∷ xs) k side of some at is w h inside =
    let grid = tiles_grid g (x ∷ xs) k of some at in
    let t = All-head (IsTileFor of.name of.edge of.image of.channels g) x xs of.cover.tiles in
    let edge : side ≡ of.edge = is ∙ ap (λ (q : TileKey). q.edge) (sym at) ∙ t.own_edge in
    let pos : 0 < of.edge = let p = grid.some in omega (arith, p, is, edge) in
    let f = tile_at of.name of.edge in
    let exact = tiles_exact of.name of.edge of.image of.channels g (x ∷ xs) pos grid.columns grid.rows of.inside of.cover in
    ap (λ n. each_square (place_among (squares_met n g)) (squares_met n (source_of g size part))) edge
    ∙ sym (part_squares f (grown_met g size part) of.edge g size part
    (record { side = pos; columns = grid.columns; rows = grid.rows; some_columns = w; some_rows = h; inside = inside }) (λ i j. refl))
    ∙ ap (λ (ks : List TileKey). places_from 0 (grown_met g size part) ks) (sym exact)

-- And they are the blocks that have sums for it.
pub blocks_listed : (g : Rect) (size : Dim) (part : Rect) (keys : List SumKey) (k : SumKey) (side : ℕ) → AreBlocks g size keys →
    0 < length keys → get_or keys 0 k ≡ k → side ≡ 2 ^ k.level * k.edge → 0 < part.w → 0 < part.h → LiesIn part size →
    each_square (place_among (squares_met side g)) (squares_met side (source_of g size part)) ≡ places_from 0 (block_met part) keys
blocks_listed g size part [] k side of some at is w h inside = absurd (omega (arith, some))
blocks_listed g size part (x ∷ xs) k side of some at is w h inside =
    let grid = (blocks_grid g size (x ∷ xs) k of some at).2 in
    let t = All-head (IsBlockFor of.name of.edge of.image of.channels g size of.level) x xs of.cover.blocks in
    let own : 2 ^ x.level * x.edge ≡ 2 ^ of.level * of.edge = rw (t.at_level, t.own_edge) refl in
    let edge : side ≡ 2 ^ of.level * of.edge = is ∙ ap (λ (q : SumKey). 2 ^ q.level * q.edge) (sym at) ∙ own in
    let pos : 0 < 2 ^ of.level * of.edge = let p = grid.some in omega (arith, p, is, edge) in
    let f = block_at of.name of.edge g size of.level in
    let exact = blocks_exact of.name of.edge of.image of.channels g size of.level (x ∷ xs) pos grid.columns grid.rows of.inside of.cover in
    ap (λ n. each_square (place_among (squares_met n g)) (squares_met n (source_of g size part))) edge
    ∙ sym (part_squares f (block_met part) (2 ^ of.level * of.edge) g size part
    (record { side = pos; columns = grid.columns; rows = grid.rows; some_columns = w; some_rows = h; inside = inside }) (λ i j. refl))
    ∙ ap (λ (ks : List SumKey). places_from 0 (block_met part) ks) (sym exact)

-- Where the region keeps its size, a tile has samples for just its own places.
pub tiles_kept : (g : Rect) (size : Dim) (part : Rect) (keys : List TileKey) → size ≡ sides_of g → AreTiles g keys →
    places_from 0 (grown_met g size part) keys ≡ places_from 0 (tile_met g part) keys
unfolding places_from
tiles_kept g size part [] same of = refl
tiles_kept g size part (x ∷ xs) same of =
    let grid = tiles_grid g (x ∷ xs) x of (omega arith) refl in
    places_from-same 0 (grown_met g size part) (tile_met g part) (x ∷ xs) (λ k.
    ap (λ (r : Rect). have_common r part) (places_kept g size (part_of (square k.edge k.tx k.ty) g) same grid.columns grid.rows))

-- the tiles of a plan that copies them
pub tiles_copied : (r : Resolved) (keys : Vec TileKey Global) → IsPlanned r (Copy keys) → AreTiles r.rect keys.items
tiles_copied r keys is = record {
  name = is.name;
  edge = is.edge;
  image = is.image;
  channels = is.channels;
  inside = is.inside;
  small = is.small;
  cover = is.is_plan.1;
}

-- the tiles of a plan that enlarges them
pub tiles_grown : (r : Resolved) (keys : Vec TileKey Global) → IsPlanned r (Grow keys) → AreTiles r.rect keys.items
tiles_grown r keys is = record {
  name = is.name;
  edge = is.edge;
  image = is.image;
  channels = is.channels;
  inside = is.inside;
  small = is.small;
  cover = is.is_plan.1;
}

-- the blocks of a plan
pub blocks_of : (r : Resolved) (keys : Vec SumKey Global) → IsPlanned r (Sum keys) → AreBlocks r.rect r.size keys.items
blocks_of r keys is = record {
  name = is.name;
  edge = is.edge;
  image = is.image;
  channels = is.channels;
  level = is.is_plan.1;
  inside = is.inside;
  small = is.small;
  cover = is.is_plan.3;
}

-- A plan without keys has no item of a band, and a band without places has no item of a plan.
pub nothing_listed : {K : Type 0} (places : K → Rect) (keys : List K) (part : Rect) (items : List ℕ) → items ≡ [] →
    (length keys ≡ 0) ⊎ ((part.w ≡ 0) ⊎ (part.h ≡ 0)) → items ≡ places_from 0 (λ k. have_common (places k) part) keys
nothing_listed places [] part items made none = made ∙ sym (places_from-nil 0 (λ k. have_common (places k) part))
nothing_listed places (x ∷ xs) part items made none =
    ⊎_elim
    (λ (e : length (x ∷ xs) ≡ 0). absurd (omega (arith, e)))
    (λ (e : (part.w ≡ 0) ⊎ (part.h ≡ 0)).
    made ∙ sym (places_from-none 0 (λ k. have_common (places k) part) (x ∷ xs) (λ k. none_common (places k) part e)))
    none

-- a list has one first element
pub one_first : {K : Type 0} (keys : List K) (j k : K) → 0 < length keys → get_or keys 0 j ≡ j → get_or keys 0 k ≡ k → j ≡ k
one_first [] j k some a b = absurd (omega (arith, some))
one_first (x ∷ xs) j k some a b = sym a ∙ b
