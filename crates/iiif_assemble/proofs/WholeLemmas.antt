-- The band of all rows lists each item of a plan.
use Rattle.std.proofs.Common.{◌≡◌, ℕ, zero, suc, ◌+◌, ◌-◌, ◌*◌, ◌/◌, ◌^◌, ◌<◌, ◌≤◌, List, [], ◌∷◌, Bool, true, false, All, length, refl}
use Rattle.std.proofs.Common.{◌↔◌, sym, subst, ap, ◌∙◌, arith, ⊎_elim, if◌then◌else◌}
use Rattle.std.specs.Int.{div_ceil}
use Rattle.std.specs.List.{range_with_len}
use Rattle.std.proofs.Math.Nat.{one-le-mul, mul-le-mul_right}
use Rattle.std.proofs.lemmas.Bool.{cases_lt}
use Rattle.std.proofs.lemmas.List.Elements.{All-head, All-tail, All-weaker}
use Rattle.iiif_pixel.specs.Geometry.{HasPlace, LiesIn, sides_of}
use Rattle.iiif_pixel.specs.Operations.{turned_width, turned_height}
use Rattle.iiif_pixel.specs.Scaling.{whole_of}
use Rattle.iiif_pixel.specs.TurnPlaces.{mirrored_column, place_after, turned_dim, turned_place}
use Rattle.iiif_pixel.specs.declared.geometry.Dim.{Dim}
use Rattle.iiif_pixel.specs.declared.geometry.Rect.{Rect}
use Rattle.iiif_pixel.specs.declared.geometry.Turn.{Turn}
use Rattle.iiif_area.specs.Places.{part_of}
use Rattle.iiif_area.proofs.WeightLaws.{div_times-le, div_ceil-times}
use Rattle.iiif_area.proofs.PlaceLaws.{places_below}
use Rattle.iiif_canonical.specs.declared.resolved.Resolved.{Resolved}
use Rattle.iiif_keys.specs.Blocks.{square}
use Rattle.iiif_keys.specs.declared.fault.Fault.{Fault}
use Rattle.iiif_keys.specs.declared.keys.SumKey.{SumKey}
use Rattle.iiif_keys.specs.declared.keys.TileKey.{TileKey}
use Rattle.iiif_keys.specs.declared.values.SumVal.{SumVal}
use Rattle.iiif_keys.specs.declared.values.TileVal.{TileVal}
use Rattle.iiif_planner.specs.Plans.{IsBlockFor, IsPlan, IsTileFor}
use Rattle.iiif_planner.specs.declared.plans.Plan.{Plan}
use Rattle.iiif_planner.specs.declared.plans.Plan.TheVariants.{Copy, Grow, Sum}
use Rattle.iiif_planner.specs.Bands.{block_places, grown_places, places_from, tile_places, ListsItems, ListsThose, ReachesInto}
use Rattle.iiif_planner.proofs.BandLemmas.{meets_square, part_lies}
use Rattle.iiif_assemble.specs.Faults.{IsBandFault, IsPlanFault}
use Rattle.iiif_assemble.specs.Gathering.{IsItemFault}

-- a turn sends each place of a result to one of the turned result
placed : (n w h u v : ℕ) → n < 4 → u < w → v < h →
    HasPlace (whole_of (record { w = turned_width n w h; h = turned_height n w h })) (place_after n w h (u, v)).0
    (place_after n w h (u, v)).1
placed zero w h u v few lu lv = (omega arith, omega arith, omega arith, omega arith)
placed (suc zero) w h u v few lu lv = (omega arith, omega arith, omega arith, omega arith)
placed (suc (suc zero)) w h u v few lu lv = (omega arith, omega arith, omega arith, omega arith)
placed (suc (suc (suc zero))) w h u v few lu lv = (omega arith, omega arith, omega arith, omega arith)
placed (suc (suc (suc (suc n)))) w h u v few lu lv = absurd (omega (arith, few))

column_within : (m : Bool) (w x : ℕ) → x < w → mirrored_column m w x < w
column_within true w x l = omega arith
column_within false w x l = l

turned_within : (t : Turn) (d : Dim) (x y : ℕ) → t.quarters < 4 → x < d.w → y < d.h →
    HasPlace (whole_of (turned_dim t d)) (turned_place t d x y).0 (turned_place t d x y).1
turned_within t d x y few lx ly = placed t.quarters d.w d.h (mirrored_column t.mirror d.w x) y few (column_within t.mirror d.w x lx) ly

-- so an item that has a place reaches into it
reaches_whole : (t : Turn) (d : Dim) (places : Rect) → t.quarters < 4 → 0 < places.w → 0 < places.h → places.x < d.w → places.y < d.h →
    ReachesInto t d places (whole_of (turned_dim t d))
reaches_whole t d places few w h lx ly =
    (places.x, places.y, lx, ly, (omega arith, omega arith, omega arith, omega arith), turned_within t d places.x places.y few lx ly)

tile_reaches : (name : List ℕ) (edge : ℕ) (image : Dim) (channels : ℕ) (region : Rect) (t : Turn) (k : TileKey) → t.quarters < 4 →
    LiesIn region image →
    IsTileFor name edge image channels region k →
    ReachesInto t (sides_of region) (tile_places region k) (whole_of (turned_dim t (sides_of region)))
tile_reaches name edge image channels region t k few lies b =
    let s = square k.edge k.tx k.ty in
    let m = meets_square image s region lies b.meets in
    let inside = part_lies s region m in
    let a = m.columns in
    let c = m.rows in
    let e = inside.columns in
    let f = inside.rows in
    reaches_whole t (sides_of region) (tile_places region k) few a c (omega arith) (omega arith)

-- a part that has a column meets a result column
column_met : (x n a c : ℕ) → 0 < a → 0 < c → 0 < n → x + n ≤ a → (0 < div_ceil ((x + n) * c) a - x * c / a) × (x * c / a < c)
column_met x n a c p q some within =
    let first = div_times-le (x * c) a in
    let last = div_ceil-times ((x + n) * c) a p in
    let more : 1 ≤ n * c = one-le-mul some q in
    let sum : (x + n) * c ≡ x * c + n * c = omega arith in
    let end = (places_below x n a c p within).1 in
    ⊎_elim
    (λ (l : x * c / a < div_ceil ((x + n) * c) a). (omega arith, omega (arith, l, end)))
    (λ (l : div_ceil ((x + n) * c) a ≤ x * c / a).
    let times : div_ceil ((x + n) * c) a * a ≤ x * c / a * a = mul-le-mul_right a l in
    absurd (omega (arith, first, last, more, sum, times)))
    (cases_lt (x * c / a) (div_ceil ((x + n) * c) a))

block_reaches : (name : List ℕ) (edge : ℕ) (image : Dim) (channels : ℕ) (region : Rect) (size : Dim) (level : ℕ) (t : Turn) (k : SumKey) →
    t.quarters < 4 →
    IsBlockFor name edge image channels region size level k → ReachesInto t size (block_places k) (whole_of (turned_dim t size))
block_reaches name edge image channels region size level t k few b =
    let of_block = b.fits.block in
    let s = square (2 ^ k.level * k.edge) k.bx k.by in
    let m = meets_square image s k.rect of_block.rect of_block.meets in
    let part = part_of s k.rect in
    let inside = part_lies s k.rect m in
    let columns = column_met part.x part.w k.rect.w k.size.w (let l = b.fits.columns in omega arith) b.fits.columns.0 m.columns
    inside.columns in
    let rows = column_met part.y part.h k.rect.h k.size.h (let l = b.fits.rows in omega arith) b.fits.rows.0 m.rows inside.rows in
    subst (λ (d : Dim). ReachesInto t d (block_places k) (whole_of (turned_dim t d))) b.to_size
    (reaches_whole t k.size (block_places k) few columns.0 rows.0 columns.1 rows.1)

grown_reaches : (name : List ℕ) (edge : ℕ) (image : Dim) (channels : ℕ) (region : Rect) (size : Dim) (t : Turn) (k : TileKey) →
    t.quarters < 4 → LiesIn region image → 0 < size.w → 0 < size.h →
    IsTileFor name edge image channels region k → ReachesInto t size (grown_places region size k) (whole_of (turned_dim t size))
grown_reaches name edge image channels region size t k few lies w h b =
    let s = square k.edge k.tx k.ty in
    let m = meets_square image s region lies b.meets in
    let part = part_of s region in
    let inside = part_lies s region m in
    let a = m.columns in
    let c = m.rows in
    let columns = column_met part.x part.w region.w size.w (let e = inside.columns in omega arith) w m.columns inside.columns in
    let rows = column_met part.y part.h region.h size.h (let e = inside.rows in omega arith) h m.rows inside.rows in
    reaches_whole t size (grown_places region size k) few columns.0 rows.0 columns.1 rows.1

-- where each passes the places are all
places_all : {K : Type 0} (n : ℕ) (test : K → Bool) (keys : List K) → All (λ k. test k ≡ true) keys →
    places_from n test keys ≡ range_with_len n (length keys)
unfolding places_from
places_all n test [] h = refl
places_all {K} n test (k ∷ ks) h =
    let P : K → Type 0 = λ q. test q ≡ true in
    ap (λ (b : Bool). if b then n ∷ places_from (n + 1) test ks else places_from (n + 1) test ks) (All-head P k ks h)
    ∙ ap (λ xs. n ∷ xs) (places_all (n + 1) test ks (All-tail P k ks h))

lists_all : {K : Type 0} (P : K → Type 0) (keys : List K) (items : List ℕ) → All P keys → ListsThose P keys items →
    items ≡ range_with_len 0 (length keys)
lists_all {K} P keys items each lists =
    let test = lists.0 in
    lists.2 ∙ places_all 0 test keys (All-weaker P (λ k. test k ≡ true) (λ k h. (lists.1 k).1 h) keys each)

abbrev items_in : Plan → ℕ
items_in (Copy keys) = length keys.items
items_in (Grow keys) = length keys.items
items_in (Sum keys) = length keys.items

-- the band of all rows lists each item
all_items : (name : List ℕ) (edge : ℕ) (image : Dim) (channels room : ℕ) (r : Resolved) (plan : Plan) (items : List ℕ) →
    r.turn.quarters < 4 → LiesIn r.rect image → 0 < r.size.w → 0 < r.size.h →
    IsPlan name edge image channels room r plan → ListsItems r plan (whole_of (turned_dim r.turn r.size)) items →
    items ≡ range_with_len 0 (items_in plan)
all_items name edge image channels room r (Copy keys) items few lies w h planned lists =
    let P : TileKey → Type 0 = λ k. ReachesInto r.turn r.size (tile_places r.rect k) (whole_of (turned_dim r.turn r.size)) in
    let each : All P keys.items = All-weaker (IsTileFor name edge image channels r.rect) P
    (λ k b. subst (λ (d : Dim). ReachesInto r.turn d (tile_places r.rect k) (whole_of (turned_dim r.turn d))) (sym planned.0)
    (tile_reaches name edge image channels r.rect r.turn k few lies b)) keys.items planned.1.tiles in
    lists_all P keys.items items each lists
all_items name edge image channels room r (Grow keys) items few lies w h planned lists =
    let P : TileKey → Type 0 = λ k. ReachesInto r.turn r.size (grown_places r.rect r.size k) (whole_of (turned_dim r.turn r.size)) in
    let each : All P keys.items = All-weaker (IsTileFor name edge image channels r.rect) P
    (λ k b. grown_reaches name edge image channels r.rect r.size r.turn k few lies w h b) keys.items planned.1.tiles in
    lists_all P keys.items items each lists
all_items name edge image channels room r (Sum keys) items few lies w h planned lists =
    let level = planned.1 in
    let P : SumKey → Type 0 = λ k. ReachesInto r.turn r.size (block_places k) (whole_of (turned_dim r.turn r.size)) in
    let each : All P keys.items = All-weaker (IsBlockFor name edge image channels r.rect r.size level) P
    (λ k b. block_reaches name edge image channels r.rect r.size level r.turn k few b) keys.items planned.3.blocks in
    lists_all P keys.items items each lists

module _ (tile : TileKey → TileVal → Type 0) (tile_failed : TileKey → Fault → Type 0) (sum : SumKey → SumVal → Type 0)
    (sum_failed : SumKey → Fault → Type 0) where
  over_all : (plan : Plan) (items : List ℕ) (fault : Fault) → items ≡ range_with_len 0 (items_in plan) →
      IsBandFault tile tile_failed sum sum_failed plan items fault ↔ IsPlanFault tile tile_failed sum sum_failed plan fault
  over_all (Copy keys) items fault all = (
    subst (λ (js : List ℕ). IsItemFault tile tile_failed keys.items js fault) all,
    subst (λ (js : List ℕ). IsItemFault tile tile_failed keys.items js fault) (sym all),
  )
  over_all (Grow keys) items fault all = (
    subst (λ (js : List ℕ). IsItemFault tile tile_failed keys.items js fault) all,
    subst (λ (js : List ℕ). IsItemFault tile tile_failed keys.items js fault) (sym all),
  )
  over_all (Sum keys) items fault all = (
    subst (λ (js : List ℕ). IsItemFault sum sum_failed keys.items js fault) all,
    subst (λ (js : List ℕ). IsItemFault sum sum_failed keys.items js fault) (sym all),
  )

  -- the fault of the band of all rows is that of the plan, and the other way round
  pub plan_fault : (name : List ℕ) (edge : ℕ) (image : Dim) (channels room : ℕ) (r : Resolved) (plan : Plan) (items : List ℕ)
      (fault : Fault) →
      r.turn.quarters < 4 → LiesIn r.rect image → 0 < r.size.w → 0 < r.size.h →
      IsPlan name edge image channels room r plan → ListsItems r plan (whole_of (turned_dim r.turn r.size)) items →
      IsBandFault tile tile_failed sum sum_failed plan items fault ↔ IsPlanFault tile tile_failed sum sum_failed plan fault
  plan_fault name edge image channels room r plan items fault few lies w h planned lists =
      over_all plan items fault (all_items name edge image channels room r plan items few lies w h planned lists)
