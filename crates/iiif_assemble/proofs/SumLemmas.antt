-- The sums of a part of a result, of the blocks that have a place of it.
use Rattle.std.proofs.Common.{◌≡◌, ℕ, ◌+◌, ◌-◌, ◌*◌, ◌^◌, min, List, [], ◌∷◌, Bool, true, false, cond, All, get_or}
use Rattle.std.proofs.Common.{map, fold, Some, refl, sym, subst, ap, ◌∙◌, if◌then◌else◌}
use Rattle.std.specs.List.{filter}
use Rattle.std.proofs.lemmas.Bool.{both_ways}
use Rattle.std.proofs.lemmas.List.Elements.{All-head, All-tail, All-weaker}
use Rattle.std.proofs.lemmas.List.{get_or_default}
use Rattle.iiif_pixel.specs.Geometry.{HasPlace, LiesIn, sides_of}
use Rattle.iiif_pixel.specs.Picture.{Picture, IsWhole, dim_of}
use Rattle.iiif_pixel.specs.Operations.{crop}
use Rattle.iiif_pixel.specs.Scaling.{scale, whole_of}
use Rattle.iiif_pixel.specs.declared.geometry.Dim.{Dim}
use Rattle.iiif_pixel.specs.declared.geometry.Rect.{Rect}
use Rattle.iiif_area.specs.Grid.{Grid, finished, grid_of, has_place, merged, sum_at, sums_at, sums_of}
use Rattle.iiif_area.specs.Laws.{IsCutInto, PiecesMerge}
use Rattle.iiif_area.specs.Places.{places_of, IsScalable}
use Rattle.iiif_area.proofs.FinishLaws.{finished-scaled}
use Rattle.iiif_area.proofs.WholeTile.{inside_itself}
use Rattle.iiif_area.proofs.GridLaws.{grid_of-same, sum_at-grid_of, has_place-no}
use Rattle.iiif_keys.specs.Blocks.{square, part_in, tile_of}
use Rattle.iiif_keys.specs.declared.keys.TileKey.{TileKey}
use Rattle.iiif_keys.specs.declared.values.TileVal.{TileVal}
use Rattle.iiif_keys.specs.Meaning.{sum_meaning, tile_meaning}
use Rattle.iiif_keys.specs.Names.{Pictures, named}
use Rattle.iiif_keys.specs.declared.keys.SumKey.{SumKey}
use Rattle.iiif_keys.specs.declared.values.SumVal.{SumVal}
use Rattle.iiif_keys.proofs.Cuts.{clipped_part}
use Rattle.iiif_keys.proofs.Derived.{picture_is}
use Rattle.iiif_planner.specs.Bands.{block_places}
use Rattle.iiif_planner.specs.BandLaws.{PlacesAreThose}
use Rattle.iiif_assemble.specs.Gathering.{AreValues}
use Rattle.iiif_assemble.specs.Code.{sums_in, tile_in, total_of, ListsMet}

-- sums at no place of a grid change nothing in it
pub apart : (r : Rect) (n : ℕ) (f : ℕ → ℕ → ℕ → ℕ) (h : Grid) → ((i j : ℕ) → HasPlace r i j → ¬ (HasPlace h.rect i j)) →
    merged (grid_of r n f) h ≡ grid_of r n f
apart r n f h off =
    let g = grid_of r n f in
    grid_of-same r n _ f (λ i j k place ch.
    ap (λ (b : Bool). if b then min (2 ^ 64 - 1) (sum_at g i j k + sum_at h i j k) else sum_at g i j k)
    (has_place-no h.rect i j (off i j place))
    ∙ sum_at-grid_of r n f i j k place ch)

fold_if : (b : Bool) (start : Grid) (x : Grid) (xs : List Grid) → (b ≡ false → merged start x ≡ start) →
    fold merged start (cond b (x ∷ xs) xs) ≡ fold merged (merged start x) xs
fold_if true start x xs none = refl
fold_if false start x xs none = ap (λ (g : Grid). fold merged g xs) (sym (none refl))

map_cond : {K G : Type 0} (g : K → G) (b : Bool) (k : K) (ks : List K) → map g (cond b (k ∷ ks) ks) ≡ cond b (g k ∷ map g ks) (map g ks)
map_cond g true k ks = refl
map_cond g false k ks = refl

-- so the others may be left out
pub only_those : {K : Type 0} (test : K → Bool) (g : K → Grid) (r : Rect) (n : ℕ) (keys : List K) (f : ℕ → ℕ → ℕ → ℕ) →
    All (λ k. test k ≡ false → (i j : ℕ) → HasPlace r i j → ¬ (HasPlace (g k).rect i j)) keys →
    fold merged (grid_of r n f) (map g (filter test keys)) ≡ fold merged (grid_of r n f) (map g keys)
only_those test g r n [] f off = refl
only_those {K} test g r n (k ∷ ks) f off =
    let P : K → Type 0 = λ q. test q ≡ false → (i j : ℕ) → HasPlace r i j → ¬ (HasPlace (g q).rect i j) in
    let start = grid_of r n f in
    let none : test k ≡ false → merged start (g k) ≡ start = λ e. apart r n f (g k) (All-head P k ks off e) in
    let next : ℕ → ℕ → ℕ → ℕ = λ i j c. if has_place (g k).rect i j then min (2 ^ 64 - 1) (sum_at start i j c + sum_at (g k) i j c) else
    sum_at start i j c in
    ap (λ (gs : List Grid). fold merged start gs) (map_cond g (test k) k (filter test ks))
    ∙ fold_if (test k) start (g k) (map g (filter test ks)) none
    ∙ only_those test g r n ks next (All-tail P k ks off)

-- the values of items, as those of their keys
pub values_are : {K V G : Type 0} (f : V → G) (g : K → G) (means : K → V → Type 0) (keys : List K) (x : K) (items : List ℕ)
    (values : List V) →
    AreValues means keys items values → All (λ (k : K). (v : V) → means k v → f v ≡ g k) keys →
    map f values ≡ map g (map (λ i. get_or keys i x) items)
values_are f g means keys x [] [] h each = refl
values_are f g means keys x [] (v ∷ vs) h each = absurd h
values_are f g means keys x (i ∷ is) [] h each = absurd h
values_are {K} {V} {G} f g means keys x (i ∷ is) (v ∷ vs) h each =
    let P : K → Type 0 = λ q. (w : V) → means q w → f w ≡ g q in
    let k = h.0.0 in
    let at : get_or keys i x ≡ k = get_or_default keys i x k h.0.1 ∙ h.0.2 in
    let of_key : P k = subst P h.0.2 (each i k h.0.1) in
    let here : f v ≡ g (get_or keys i x) = of_key v h.0.3 ∙ ap g (sym at) in
    ap (λ (y : G). y ∷ map f vs) here ∙ ap (λ (ys : List G). g (get_or keys i x) ∷ ys) (values_are f g means keys x is vs h.1 each)

pub map_twice : {X Y Z : Type 0} (f : Y → Z) (g : X → Y) (xs : List X) → map f (map g xs) ≡ map (λ x. f (g x)) xs
map_twice f g [] = refl
map_twice f g (x ∷ xs) = ap (λ ys. f (g x) ∷ ys) (map_twice f g xs)

-- the block of a key for a region that is scaled to a size
pub record IsFor (region : Rect) (size : Dim) (k : SumKey) : Type 0 where
  pub rect : k.rect ≡ region
  pub to_size : k.size ≡ size

-- where a block's sums stand
places_same : (image : Dim) (region : Rect) (q : Picture) (size : Dim) (k : SumKey) → IsFor region size k → LiesIn region image →
    dim_of q ≡ sides_of region →
    block_places k ≡ places_of (dim_of q) size (part_in image k)
places_same image region q size k b lies sides =
    let s = square (2 ^ k.level * k.edge) k.bx k.by in
    let lies' : LiesIn k.rect image = subst (λ (r : Rect). LiesIn r image) (sym b.rect) lies in
    ap (places_of (sides_of k.rect) k.size) (sym (clipped_part image s k.rect lies'))
    ∙ ap (λ (d : Dim). places_of (sides_of k.rect) d (part_in image k)) b.to_size
    ∙ ap (λ (r : Rect). places_of (sides_of r) size (part_in image k)) b.rect
    ∙ ap (λ (d : Dim). places_of d size (part_in image k)) (sym sides)

-- The sums of the blocks that have a place of a part of a result are, merged, those of the region there.
pub band_total : PiecesMerge → PlacesAreThose SumKey →
    (image : Dim) (region : Rect) (q : Picture) (size : Dim) (from : Rect) (keys : List SumKey) (items : List ℕ) (values : List SumVal)
    (means : SumKey → SumVal → Type 0) → IsWhole q → IsScalable (dim_of q) size → dim_of q ≡ sides_of region → LiesIn region image →
    All (IsFor region size) keys →
    IsCutInto (whole_of (dim_of q)) (map (part_in image) keys) → ListsMet block_places from keys items → AreValues means keys items values →
    All (λ (k : SumKey). (v : SumVal) → means k v → sums_in v ≡ sums_of q size (part_in image k)) keys →
    fold merged (grid_of from q.channels (λ i j k. 0)) (map sums_in values) ≡ sums_at from q size (whole_of (dim_of q))
band_total merge those image region q size from keys items values means whole limits sides lies each cut lists are meant =
    let g : SumKey → Grid = λ k. sums_of q size (part_in image k) in
    let x : SumKey = record { name = []; edge = 0; rect = from; size = size; level = 0; bx = 0; by = 0 } in
    let start = grid_of from q.channels (λ i j k. 0) in
    let test = lists.0 in
    let off : All (λ k. test k ≡ false → (i j : ℕ) → HasPlace from i j → ¬ (HasPlace (g k).rect i j)) keys =
    All-weaker (IsFor region size) (λ k. test k ≡ false → (i j : ℕ) → HasPlace from i j → ¬ (HasPlace (g k).rect i j))
    (λ k b f i j here there.
    let at : HasPlace (block_places k) i j = subst (λ (r : Rect). HasPlace r i j) (sym (places_same image region q size k b lies sides))
    there in
    both_ways (test k) f (lists.1 k i j at here)) keys each in
    let chosen : map (λ i. get_or keys i x) items ≡ filter test keys = ap (map (λ i. get_or keys i x)) lists.2 ∙ those test keys x in
    ap (λ (gs : List Grid). fold merged start gs) (values_are sums_in g means keys x items values are meant ∙ ap (map g) chosen)
    ∙ only_those test g from q.channels keys (λ i j k. 0) off
    ∙ ap (λ (gs : List Grid). fold merged start gs) (sym (map_twice (λ r. sums_of q size r) (part_in image) keys))
    ∙ merge q size (whole_of (dim_of q)) from (map (part_in image) keys) whole limits.columns limits.rows limits.area cut

-- what a block's value has where it is meant
pub block_meant : (shows : Pictures) (name : List ℕ) (p : Picture) (image : Dim) (region : Rect) (size : Dim) (k : SumKey) (v : SumVal) →
    shows name ≡ Some p → dim_of p ≡ image →
    k.name ≡ name → IsFor region size k → v ≡ sum_meaning shows k → sums_in v ≡ sums_of (crop p region) size (part_in image k)
block_meant shows name p image region size k v known sides same b made =
    let of_name : named shows k.name ≡ p = ap (named shows) same ∙ picture_is shows name p known in
    ap sums_in made
    ∙ ap (λ (r : Picture). sums_of (crop r k.rect) k.size (part_in (dim_of r) k)) of_name
    ∙ ap (λ (d : Dim). sums_of (crop p k.rect) k.size (part_in d k)) sides
    ∙ ap (λ (r : Rect). sums_of (crop p r) k.size (part_in image k)) b.rect
    ∙ ap (λ (d : Dim). sums_of (crop p region) d (part_in image k)) b.to_size

-- the samples of a band
pub total_finished : (from : Rect) (q : Picture) (size : Dim) (n top : ℕ) (values : List SumVal) → IsWhole q → LiesIn from size →
    q.channels ≡ n → q.top ≡ top →
    total_of from q.channels values ≡ sums_at from q size (whole_of (dim_of q)) →
    finished (total_of from n values) (dim_of q) top from ≡ crop (scale q size) from
total_finished from q size n top values whole lies channels depth total =
    ap (λ (c : ℕ). finished (total_of from c values) (dim_of q) top from) (sym channels)
    ∙ ap (λ (t : Grid). finished t (dim_of q) top from) total
    ∙ ap (λ (t : ℕ). finished (sums_at from q size (whole_of (dim_of q))) (dim_of q) t from) (sym depth)
    ∙ finished-scaled from from q size whole (inside_itself from from refl) lies

-- what a tile's value has where it is meant
pub tile_meant : (shows : Pictures) (name : List ℕ) (p : Picture) (image : Dim) (k : TileKey) (v : TileVal) → shows name ≡ Some p →
    dim_of p ≡ image → k.name ≡ name →
    v ≡ tile_meaning shows k → tile_in v ≡ crop p (tile_of image k)
tile_meant shows name p image k v known sides same made =
    let of_name : named shows k.name ≡ p = ap (named shows) same ∙ picture_is shows name p known in
    ap tile_in made ∙ ap (λ (r : Picture). crop r (tile_of (dim_of r) k)) of_name ∙ ap (λ (d : Dim). crop p (tile_of d k)) sides
