-- The sums of a part of a result, of the tiles that have samples for a place of it.
use Rattle.std.proofs.Common.{◌≡◌, ℕ, List, false, All, get_or, map, fold, sym, subst, ap, ◌∙◌}
use Rattle.std.specs.List.{filter}
use Rattle.std.proofs.lemmas.Bool.{both_ways}
use Rattle.iiif_pixel.specs.Geometry.{HasPlace, LiesIn, sides_of}
use Rattle.iiif_pixel.specs.Picture.{Picture, IsWhole, dim_of}
use Rattle.iiif_pixel.specs.Scaling.{whole_of}
use Rattle.iiif_pixel.specs.declared.geometry.Dim.{Dim}
use Rattle.iiif_pixel.specs.declared.geometry.Rect.{Rect}
use Rattle.iiif_area.specs.Grid.{Grid, grid_of, merged, sums_at, sums_of}
use Rattle.iiif_area.specs.Laws.{IsCutInto, PiecesMerge}
use Rattle.iiif_area.specs.Places.{part_of, places_of, IsScalable}
use Rattle.iiif_keys.specs.Blocks.{square, tile_of}
use Rattle.iiif_keys.specs.declared.keys.TileKey.{TileKey}
use Rattle.iiif_keys.proofs.Cuts.{clipped_part}
use Rattle.iiif_planner.specs.Bands.{grown_places}
use Rattle.iiif_planner.specs.BandLaws.{PlacesAreThose}
use Rattle.iiif_assemble.specs.Code.{ListsMet}
use Rattle.iiif_assemble.proofs.SumLemmas.{map_twice, only_those}

-- where the sums of a tile stand
places_same : (image : Dim) (region : Rect) (q : Picture) (size : Dim) (k : TileKey) → LiesIn region image → dim_of q ≡ sides_of region →
    grown_places region size k ≡ places_of (dim_of q) size (part_of (tile_of image k) region)
places_same image region q size k lies sides =
    ap (places_of (sides_of region) size) (sym (clipped_part image (square k.edge k.tx k.ty) region lies))
    ∙ ap (λ (d : Dim). places_of d size (part_of (tile_of image k) region)) (sym sides)

-- The sums of the tiles that have samples for a place of a part of a result are, merged, those of the region there.
pub grown_total : PiecesMerge → PlacesAreThose TileKey →
    (image : Dim) (region : Rect) (q : Picture) (size : Dim) (from : Rect) (keys : List TileKey) (items : List ℕ) (x : TileKey) →
    IsWhole q →
    IsScalable (dim_of q) size → dim_of q ≡ sides_of region → LiesIn region image →
    IsCutInto (whole_of (dim_of q)) (map (λ k. part_of (tile_of image k) region) keys) →
    ListsMet (grown_places region size) from keys items →
    fold merged (grid_of from q.channels (λ i j k. 0)) (map (λ i. sums_of q size (part_of (tile_of image (get_or keys i x)) region)) items)
    ≡ sums_at from q size (whole_of (dim_of q))
grown_total merge those image region q size from keys items x whole limits sides lies cut lists =
    let part : TileKey → Rect = λ k. part_of (tile_of image k) region in
    let g : TileKey → Grid = λ k. sums_of q size (part k) in
    let start = grid_of from q.channels (λ i j k. 0) in
    let test = lists.0 in
    let Off : TileKey → Type 0 = λ k. test k ≡ false → (i j : ℕ) → HasPlace from i j → ¬ (HasPlace (g k).rect i j) in
    let each : (k : TileKey) → Off k = λ k f i j here there.
    (let at : HasPlace (grown_places region size k) i j =
    subst (λ (r : Rect). HasPlace r i j) (sym (places_same image region q size k lies sides)) there in
    both_ways (test k) f (lists.1 k i j at here)) in
    let off : All Off keys = λ i d h. each (get_or keys i d) in
    let chosen : map (λ i. get_or keys i x) items ≡ filter test keys = ap (map (λ i. get_or keys i x)) lists.2 ∙ those test keys x in
    ap (λ (gs : List Grid). fold merged start gs) (sym (map_twice g (λ i. get_or keys i x) items) ∙ ap (map g) chosen)
    ∙ only_those test g from q.channels keys (λ i j k. 0) off
    ∙ ap (λ (gs : List Grid). fold merged start gs) (sym (map_twice (λ r. sums_of q size r) part keys))
    ∙ merge q size (whole_of (dim_of q)) from (map part keys) whole limits.columns limits.rows limits.area cut

-- the total of a band
pub grown_is : (from : Rect) (n : ℕ) (q : Picture) (size : Dim) (none new : Grid) (gs : List Grid) → none ≡ grid_of from n (λ i j k. 0) →
    q.channels ≡ n → new ≡ fold merged none gs → new.rect ≡ none.rect →
    fold merged (grid_of from q.channels (λ i j k. 0)) gs ≡ sums_at from q size (whole_of (dim_of q)) →
    new ≡ sums_at new.rect q size (whole_of (dim_of q))
grown_is from n q size none new gs is_none channels made places total =
    let rect : new.rect ≡ from = places ∙ ap (λ (g : Grid). g.rect) is_none in
    made
    ∙ ap (λ (g : Grid). fold merged g gs) is_none
    ∙ ap (λ (c : ℕ). fold merged (grid_of from c (λ i j k. 0)) gs) (sym channels)
    ∙ total ∙ ap (λ (r : Rect). sums_at r q size (whole_of (dim_of q))) (sym rect)
