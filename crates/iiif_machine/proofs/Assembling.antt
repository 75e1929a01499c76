-- What the meanings of a plan's items make is the image.
use Rattle.std.proofs.Common.{◌≡◌, ℕ, ◌*◌, ◌^◌, ◌<◌, ◌≤◌, ◌⊎◌, inr, List, [], ◌∷◌, Bool, true, false, Some, Ok, All, map, fold, refl, sym}
use Rattle.std.proofs.Common.{ap, subst, ◌∙◌, arith, ⊎_elim, if◌then◌else◌}
use Rattle.std.specs.Prelude.{◌==◌, ◌&&◌, nat_le, count_by}
use Rattle.std.proofs.Math.Nat.{mul-le-mul}
use Rattle.std.proofs.lemmas.Bool.{eqb-true, leb-true, and_parts}
use Rattle.std.proofs.lemmas.List.Elements.{All-map}
use Rattle.iiif_pixel.specs.Geometry.{channels_of, LiesIn, sides_of}
use Rattle.iiif_pixel.specs.Picture.{dim_of}
use Rattle.iiif_pixel.specs.Operations.{crop, turn, quality}
use Rattle.iiif_pixel.specs.Scaling.{scale, whole_of}
use Rattle.iiif_pixel.specs.declared.geometry.Dim.{Dim}
use Rattle.iiif_pixel.specs.declared.geometry.Rect.{Rect}
use Rattle.iiif_pixel.proofs.Whole.{whole_crop}
use Rattle.iiif_pixel.proofs.ScaleLemmas.{whole_scale}
use Rattle.iiif_pixel.proofs.CropLaws.{crop-all}
use Rattle.iiif_pixel.proofs.Parts.{same_dim}
use Rattle.iiif_area.specs.Grid.{Grid, grid_of, merged, finished, sums_of, has_place}
use Rattle.iiif_area.specs.Laws.{IsCutInto}
use Rattle.iiif_area.specs.Places.{part_of}
use Rattle.iiif_area.proofs.GridLaws.{has_place-yes}
use Rattle.iiif_area.proofs.PieceLaws.{pieces_merge}
use Rattle.iiif_area.proofs.FinishLaws.{finished-scaled}
use Rattle.iiif_area.proofs.SameSides.{same_sides}
use Rattle.iiif_keys.specs.Names.{IsSource}
use Rattle.iiif_keys.specs.Blocks.{IsEdge, TileFitsIn, SumFitsIn, part_in, tile_of}
use Rattle.iiif_keys.specs.Meaning.{sum_meaning}
use Rattle.iiif_keys.specs.declared.keys.TileKey.{TileKey}
use Rattle.iiif_keys.specs.declared.keys.SumKey.{SumKey}
use Rattle.iiif_keys.proofs.Derived.{picture_is}
use Rattle.iiif_planner.specs.Plans.{IsTileFor, IsBlockFor, TilesCover, BlocksCover}
use Rattle.iiif_planner.specs.Levels.{met_at_most, sums_at_most}
use Rattle.iiif_planner.specs.Items.{keeps_size, is_scaled_up, is_usable, tiles_for, blocks_for, HasItems}
use Rattle.iiif_planner.specs.declared.plans.Plan.{Plan}
use Rattle.iiif_planner.specs.declared.plans.Plan.TheVariants.{Copy, Grow, Sum}
use Rattle.iiif_planner.proofs.Covers.{tiles_cover, blocks_cover}
use Rattle.iiif_planner.proofs.LevelLaws.{most_sums, level_limits}
use Rattle.iiif_planner.proofs.Sides.{up_tested, down_tested}
use Rattle.iiif_planner.proofs.Greatest.{greatest_cases, greatest_within}
use Rattle.iiif_canonical.specs.Resolution.{IsResolved}
use Rattle.iiif_canonical.specs.Images as images
use Rattle.iiif_canonical.proofs.ResolutionLemmas.{resolved_of_ok}
use Rattle.iiif_machine.specs.declared.keys.Key.TheVariants as key
use Rattle.iiif_machine.specs.Scenes.{Scene, IsProper}
use Rattle.iiif_machine.specs.Keys.{Key, name_of, Fits, meaning}
use Rattle.iiif_machine.specs.Plans.{Request, Resolved, resolved, kind_of, level_of, Way, copied, grown, summed, keys_met, keys_in, items}
use Rattle.iiif_machine.specs.Images.{Picture, averaged, made, assembled}
use Rattle.iiif_machine.specs.KeyLaws.{Accepts, PlansHaveItems, NoPlanIsEmpty, ItemsFit, ItemsMakeImage, RefusedHasNoImage}
use Rattle.iiif_machine.specs.Sound.{Each}
use Rattle.iiif_machine.proofs.Lists.{each_of_all, each_tail}
use Rattle.iiif_machine.proofs.KeyParts.{grids_same}
use Rattle.iiif_machine.proofs.Plans.{kind_is, image_from_resolved, refused}
use Rattle.iiif_machine.proofs.Pasting.{pasted_is}

block_sums : (s : Scene) (name : List ℕ) (p : Picture) (region : Rect) (size : Dim) (level : ℕ) (keys : List SumKey) →
    s.shows name ≡ Some p →
    Each (IsBlockFor name s.edge (dim_of p) p.channels region size level) keys →
    map (λ q. (sum_meaning s.shows q).sums) keys ≡ map (λ r. sums_of (crop p region) size r) (map (part_in (dim_of p)) keys)
block_sums s name p region size level [] shown each = refl
block_sums s name p region size level (k ∷ keys) shown each =
    let is = each 0 k refl in
    let known : s.shows k.name ≡ Some p = subst (λ n. s.shows n ≡ Some p) (sym is.named) shown in
    let first : (sum_meaning s.shows k).sums ≡ sums_of (crop p region) size (part_in (dim_of p) k) =
    ap (λ (z : Picture). sums_of (crop z k.rect) k.size (part_in (dim_of z) k)) (picture_is s.shows k.name p known)
    ∙ ap (λ (r : Rect). sums_of (crop p r) k.size (part_in (dim_of p) k)) is.of_region
    ∙ ap (λ (d : Dim). sums_of (crop p region) d (part_in (dim_of p) k)) is.to_size in
    ap (λ (g : Grid). g ∷ map (λ q. (sum_meaning s.shows q).sums) keys) first
    ∙ ap (λ gs. sums_of (crop p region) size (part_in (dim_of p) k) ∷ gs)
    (block_sums s name p region size level keys shown
    (each_tail (IsBlockFor name s.edge (dim_of p) p.channels region size level) k keys each))

averaged_is : (s : Scene) (name : List ℕ) (p : Picture) (r : Resolved) (level : ℕ) (keys : List SumKey) → s.shows name ≡ Some p →
    IsSource p → LiesIn r.rect (dim_of p) →
    0 < r.rect.w → 0 < r.rect.h → BlocksCover name s.edge (dim_of p) p.channels r.rect r.size level keys →
    averaged p r (map (meaning s) (map key.Sum keys)) ≡ scale (crop p r.rect) r.size
averaged_is s name p r level keys shown source inside w h cover =
    let q = crop p r.rect in
    let size = r.size in
    let all = whole_of size in
    let whole = whole_crop p r.rect source.whole in
    let columns = inside.columns in
    let rows = inside.rows in
    let area' : r.rect.w * r.rect.h ≤ p.width * p.height = mul-le-mul (omega arith) (omega arith) in
    let small = source.readable.area in
    let area : q.width * q.height ≤ 2 ^ 32 = omega arith in
    let blocks = each_of_all (IsBlockFor name s.edge (dim_of p) p.channels r.rect size level) keys cover.blocks in
    let grids = grids_same s keys ∙ block_sums s name p r.rect size level keys shown blocks in
    let sums = pieces_merge q size (whole_of (dim_of q)) all (map (part_in (dim_of p)) keys) whole w h area cover.cut in
    let zero' = grid_of all p.channels (λ i j k. 0) in
    ap (λ gs. finished (fold merged zero' gs) (sides_of r.rect) p.top all) grids
    ∙ ap (λ (g : Grid). finished g (sides_of r.rect) p.top all) sums
    ∙ finished-scaled all all q size whole (record { left = omega arith; right = omega arith; upper = omega arith; lower = omega arith })
    (record { columns = omega arith; rows = omega arith })
    ∙ crop-all (scale q size) (whole_scale q size whole)

some_sums : (edge level : ℕ) (region size : Dim) (channels : ℕ) → 0 < channels → 0 < sums_at_most edge level region size channels
some_sums edge level region size channels some =
    let w : 1 ≤ met_at_most edge level region.w size.w = omega arith in
    let h : 1 ≤ met_at_most edge level region.h size.h = omega arith in
    let one : 1 * 1 * 1 ≤ sums_at_most edge level region size channels = mul-le-mul (mul-le-mul w h) some in
    omega arith

-- at level 0 a block has few sums: no level could be planned with, if there were no room
lowest_few : (s : Scene) (p : Picture) (r : Resolved) → IsEdge s.edge → 0 < p.channels → p.channels ≤ 3 → (0 < r.size.w) ×
    (r.size.w ≤ r.rect.w) → (0 < r.size.h) × (r.size.h ≤ r.rect.h) →
    sums_at_most s.edge 0 (sides_of r.rect) r.size p.channels ≤ most_sums
lowest_few s p r edge some few columns rows =
    level_limits s.edge (dim_of p) (sides_of r.rect) r.size p.channels 0 0 edge (omega arith) few columns rows
    (inr (
      refl,
      λ other u. (let one = some_sums s.edge other (sides_of r.rect) r.size p.channels some in let none = u.within in
          absurd (omega arith)),
    ))

-- the test of a level, for a picture of a scene
abbrev usable_for : Scene → Picture → Resolved → ℕ → Bool
usable_for s p r = is_usable s.edge (dim_of p) (sides_of r.rect) r.size p.channels s.room

level_few : (s : Scene) (p : Picture) (r : Resolved) → IsEdge s.edge → s.room ≤ 65536 → 0 < p.channels → p.channels ≤ 3 →
    (0 < r.size.w) × (r.size.w ≤ r.rect.w) → (0 < r.size.h) × (r.size.h ≤ r.rect.h) →
    sums_at_most s.edge (level_of s p r) (sides_of r.rect) r.size p.channels ≤ most_sums
level_few s p r edge room some few columns rows =
    let level = level_of s p r in
    ⊎_elim
    (λ (h : usable_for s p r level ≡ true).
    let small = and_parts _ (nat_le (sums_at_most s.edge level (sides_of r.rect) r.size p.channels) s.room) h in
    let within : sums_at_most s.edge level (sides_of r.rect) r.size p.channels ≤ s.room = leb-true _ _ small.1 in
    omega arith)
    (λ (h : level ≡ 0). subst (λ l. sums_at_most s.edge l (sides_of r.rect) r.size p.channels ≤ most_sums) (sym h)
    (lowest_few s p r edge some few columns rows))
    (greatest_cases (usable_for s p r) 20)

-- what is known of an accepted request
record Accepted (s : Scene) (name : List ℕ) (p : Picture) (r : Resolved) : Type 0 where
  shown : s.shows name ≡ Some p
  source : IsSource p
  edge : IsEdge s.edge
  room : s.room ≤ 65536
  is : IsResolved (dim_of p) (kind_of p) s.limits r

accepted : (s : Scene) (name : List ℕ) (p : Picture) (q : Request) (r : Resolved) → IsProper s → Accepts s name p q r → Accepted s name p r
unfolding resolved
accepted s name p q r proper a =
    record {
      shown = a.shown;
      source = proper.sources name p a.shown;
      edge = proper.edge;
      room = proper.room;
      is =
          resolved_of_ok q (dim_of p) (kind_of p) s.limits r a.solved;
    }

tiles_are : (s : Scene) (name : List ℕ) (p : Picture) (r : Resolved) → Accepted s name p r →
    TilesCover name s.edge (dim_of p) p.channels r.rect (tiles_for name s.edge r)
tiles_are s name p r a = tiles_cover name s.edge (dim_of p) p.channels r.rect a.edge a.is.inside a.is.not_empty.0 a.is.not_empty.1

channels_few : (n : ℕ) → (n ≡ 1) ⊎ (n ≡ 3) → (0 < n) × (n ≤ 3)
channels_few n h = ⊎_elim (λ (e : n ≡ 1). (omega arith, omega arith)) (λ (e : n ≡ 3). (omega arith, omega arith)) h

blocks_are : (s : Scene) (name : List ℕ) (p : Picture) (r : Resolved) → Accepted s name p r → is_scaled_up r ≡ false →
    BlocksCover name s.edge (dim_of p) p.channels r.rect r.size (level_of s p r) (blocks_for name s.edge (level_of s p r) r)
blocks_are s name p r a up =
    let n = channels_few p.channels a.source.whole.channels in
    let down = down_tested r up in
    let columns : (0 < r.size.w) × (r.size.w ≤ r.rect.w) = (a.is.not_zero.0, down.0) in
    let rows : (0 < r.size.h) × (r.size.h ≤ r.rect.h) = (a.is.not_zero.1, down.1) in
    blocks_cover name s.edge (dim_of p) p.channels r.rect r.size (level_of s p r) a.edge (greatest_within (usable_for s p r) 20) a.is.inside
    columns rows (level_few s p r a.edge a.room n.0 n.1 columns rows)

-- the way by whether the region keeps its size, and whether it is scaled up
abbrev way_by : Scene → Picture → Resolved → Bool → Bool → Way
way_by s p r keeps up = if keeps then copied else (if up then grown else summed (level_of s p r))

-- what fits in a picture with these channels fits in its shape
of_shape : (p : Picture) (P : ℕ → Type 0) → IsSource p → P p.channels → P (channels_of (kind_of p))
of_shape p P source h = subst P (kind_is p source.whole) h

abbrev IsItem : Scene → List ℕ → Key → Type 0
IsItem s name k = Fits s k × (name_of k ≡ name)

tile_is : (s : Scene) (name : List ℕ) (p : Picture) (region : Rect) (k : TileKey) → s.shows name ≡ Some p → IsSource p →
    IsTileFor name s.edge (dim_of p) p.channels region k → IsItem s name (key.Tile k)
unfolding Fits name_of
tile_is s name p region k shown source t = (
  record {
    picture = p;
    known = subst (λ n. s.shows n ≡ Some p) (sym t.named) shown;
    own_edge = t.own_edge;
    fits =
        of_shape p (λ n. TileFitsIn (dim_of p) n k) source t.fits;
  },
  t.named,
)

sum_is : (s : Scene) (name : List ℕ) (p : Picture) (region : Rect) (size : Dim) (level : ℕ) (k : SumKey) → s.shows name ≡ Some p →
    IsSource p →
    IsBlockFor name s.edge (dim_of p) p.channels region size level k → IsItem s name (key.Sum k)
unfolding Fits name_of
sum_is s name p region size level k shown source t = (
  record {
    picture = p;
    known = subst (λ n. s.shows n ≡ Some p) (sym t.named) shown;
    own_edge = t.own_edge;
    fits =
        of_shape p (λ n. SumFitsIn (dim_of p) n k) source t.fits;
  },
  t.named,
)

tiles_fit : (s : Scene) (name : List ℕ) (p : Picture) (r : Resolved) → Accepted s name p r →
    All (IsItem s name) (map key.Tile (tiles_for name s.edge r))
tiles_fit s name p r a = All-map (IsItem s name) key.Tile (tiles_for name s.edge r)
    (λ i d h. tile_is s name p r.rect _ a.shown a.source ((tiles_are s name p r a).tiles i d h))

fit_by : (s : Scene) (name : List ℕ) (p : Picture) (r : Resolved) (b up : Bool) → is_scaled_up r ≡ up → Accepted s name p r →
    All (IsItem s name) (keys_met s name r (way_by s p r b up))
fit_by s name p r true up e a = tiles_fit s name p r a
fit_by s name p r false true e a = tiles_fit s name p r a
fit_by s name p r false false e a = All-map (IsItem s name) key.Sum (blocks_for name s.edge (level_of s p r) r)
    (λ i d h. sum_is s name p r.rect r.size (level_of s p r) _ a.shown a.source ((blocks_are s name p r a e).blocks i d h))

dim_same : (a b : Dim) → (a.w == b.w && a.h == b.h) ≡ true → a ≡ b
dim_same a b h =
    let p = and_parts (a.w == b.w) (a.h == b.h) h in
    same_dim a b (eqb-true a.w b.w p.0) (eqb-true a.h b.h p.1)

scaled_by : (s : Scene) (name : List ℕ) (p : Picture) (r : Resolved) (b up : Bool) → keeps_size r ≡ b → is_scaled_up r ≡ up →
    Accepted s name p r →
    made s p r (map (meaning s) (keys_met s name r (way_by s p r b up))) (way_by s p r b up) ≡ scale (crop p r.rect) r.size
scaled_by s name p r true up e f a =
    let size : r.size ≡ sides_of r.rect = dim_same r.size (sides_of r.rect) e in
    let whole = whole_crop p r.rect a.source.whole in
    pasted_is s name p r.rect a.shown a.edge.some a.is.inside
    ∙ sym (same_sides (crop p r.rect) whole a.is.not_empty.0 a.is.not_empty.1)
    ∙ ap (λ (d : Dim). scale (crop p r.rect) d) (sym size)
scaled_by s name p r false true e f a = ap (λ (z : Picture). scale z r.size) (pasted_is s name p r.rect a.shown a.edge.some a.is.inside)
scaled_by s name p r false false e f a =
    averaged_is s name p r (level_of s p r) (blocks_for name s.edge (level_of s p r) r) a.shown a.source a.is.inside a.is.not_empty.0
    a.is.not_empty.1 (blocks_are s name p r a f)

-- what a rectangle that isn't empty is cut into isn't none
not_one : (n : ℕ) → n ≡ 0 → n ≡ 1 → ⊥
not_one n a b = absurd (omega arith)

cut_some : {K : Type 0} (f : K → Rect) (d : Dim) (keys : List K) → 0 < d.w → 0 < d.h → IsCutInto (whole_of d) (map f keys) → keys ≡ [] → ⊥
cut_some f d keys w h cut none =
    let yes = has_place-yes (whole_of d) 0 0 (omega arith, omega arith, omega arith, omega arith) in
    not_one (count_by (λ r. has_place r 0 0) (map f keys)) (ap (λ ks. count_by (λ r. has_place r 0 0) (map f ks)) none)
    (cut 0 0 ∙ ap (λ (b : Bool). if b then 1 else 0) yes)

map_none : {A B : Type 0} (f : A → B) (xs : List A) → map f xs ≡ [] → xs ≡ []
map_none f [] e = refl
map_none f (x ∷ xs) e = absurd cc

tiles_some : (s : Scene) (name : List ℕ) (p : Picture) (r : Resolved) → Accepted s name p r →
    map key.Tile (tiles_for name s.edge r) ≡ [] → ⊥
tiles_some s name p r a none = cut_some (λ k. part_of (tile_of (dim_of p) k) r.rect) (sides_of r.rect) (tiles_for name s.edge r)
    a.is.not_empty.0 a.is.not_empty.1 (tiles_are s name p r a).cut (map_none key.Tile (tiles_for name s.edge r) none)

some_by : (s : Scene) (name : List ℕ) (p : Picture) (r : Resolved) (b up : Bool) → is_scaled_up r ≡ up → Accepted s name p r →
    keys_met s name r (way_by s p r b up) ≡ [] → ⊥
some_by s name p r true up e a none = tiles_some s name p r a none
some_by s name p r false true e a none = tiles_some s name p r a none
some_by s name p r false false e a none =
    let keys = blocks_for name s.edge (level_of s p r) r in
    cut_some (part_in (dim_of p)) (sides_of r.rect) keys a.is.not_empty.0 a.is.not_empty.1 (blocks_are s name p r a e).cut
    (map_none key.Sum keys none)

pub no_plan_is_empty : NoPlanIsEmpty
unfolding items
no_plan_is_empty s name p q r proper h none =
    some_by s name p r (keeps_size r) (is_scaled_up r) refl (accepted s name p q r proper h) none

pub items_fit : ItemsFit
unfolding items
items_fit s name p q r proper h = fit_by s name p r (keeps_size r) (is_scaled_up r) refl (accepted s name p q r proper h)

pub items_make_image : ItemsMakeImage
unfolding items assembled images.resolved_image
items_make_image s name p q r proper h =
    let a = accepted s name p q r proper h in
    image_from_resolved s p q (kind_is p a.source.whole) ∙ ap (images.image_from p) h.solved
    ∙ ap (λ (z : Picture). Ok (quality (turn z r.turn) r.quality)) (sym (scaled_by s name p r (keeps_size r) (is_scaled_up r) refl refl a))

pub refused_has_no_image : RefusedHasNoImage
refused_has_no_image s name p q e proper shown h = refused s p q e (kind_is p (proper.sources name p shown).whole) h

-- a region that keeps its size isn't scaled up
keeps_not_up : (r : Resolved) → keeps_size r ≡ true → is_scaled_up r ≡ true → ⊥
keeps_not_up r keeps up = ⊎_elim
    (λ (h : r.rect.w < r.size.w). (let same = eqb-true r.size.w r.rect.w (and_parts _ (r.size.h == r.rect.h) keeps).0 in omega arith))
    (λ (h : r.rect.h < r.size.h). (let same = eqb-true r.size.h r.rect.h (and_parts (r.size.w == r.rect.w) _ keeps).1 in omega arith))
    (up_tested r up)

plan_by : (s : Scene) (name : List ℕ) (p : Picture) (r : Resolved) (b up : Bool) (plan : Plan) → keeps_size r ≡ b → is_scaled_up r ≡ up →
    HasItems name s.edge (dim_of p) p.channels s.room r plan →
    keys_met s name r (way_by s p r b up) ≡ keys_in plan
plan_by s name p r true up (Copy keys) e f h = ap (map key.Tile) (sym h.1)
plan_by s name p r false up (Copy keys) e f h = let g = h.0 in absurd cc
plan_by s name p r true up (Grow keys) e f h = absurd (keeps_not_up r e h.0)
plan_by s name p r false true (Grow keys) e f h = ap (map key.Tile) (sym h.1)
plan_by s name p r false false (Grow keys) e f h = let g = h.0 in absurd cc
plan_by s name p r true up (Sum keys) e f h = let g = h.0 in absurd cc
plan_by s name p r false true (Sum keys) e f h = let g = h.1 in absurd cc
plan_by s name p r false false (Sum keys) e f h = ap (map key.Sum) (sym h.2)

pub plans_have_items : PlansHaveItems
unfolding items
plans_have_items s name p r plan h = plan_by s name p r (keeps_size r) (is_scaled_up r) plan refl refl h
