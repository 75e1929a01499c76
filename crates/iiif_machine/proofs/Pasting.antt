-- Tiles of a plan by their place in it, and the region that is put together of them.
use Rattle.std.proofs.Common.{◌≡◌, ℕ, zero, suc, ◌+◌, ◌-◌, ◌*◌, ◌/◌, ◌%◌, ◌<◌, ◌≤◌, List, [], ◌∷◌, ◌++◌, Some, length, map, min, refl, sym}
use Rattle.std.proofs.Common.{ap, subst, ◌∙◌, arith, ⊎_elim, length-append}
use Rattle.std.specs.Prelude.{slice_get}
use Rattle.std.specs.Int.{div_ceil}
use Rattle.std.proofs.lemmas.Bool.{cases_lt}
use Rattle.std.proofs.lemmas.Nat.{div-add-mod'}
use Rattle.std.proofs.Math.Nat.{mod-lt}
use Rattle.iiif_pixel.specs.Geometry.{LiesIn}
use Rattle.iiif_pixel.specs.Picture.{Picture, dim_of, sample_at}
use Rattle.iiif_pixel.specs.Operations.{crop, crop_at}
use Rattle.iiif_pixel.specs.declared.geometry.Rect.{Rect}
use Rattle.iiif_pixel.proofs.Reading.{sample_at-crop}
use Rattle.iiif_pixel.proofs.CropLaws.{same_built}
use Rattle.iiif_keys.specs.Blocks.{tile_of}
use Rattle.iiif_keys.specs.Meaning.{tile_meaning}
use Rattle.iiif_keys.specs.declared.keys.TileKey.{TileKey}
use Rattle.iiif_keys.proofs.Derived.{picture_is}
use Rattle.iiif_planner.specs.Items.{each_square, squares_met, tile_at, row_from, rows_from}
use Rattle.iiif_planner.proofs.Meeting.{met_first, met_last}
use Rattle.iiif_machine.specs.declared.keys.Key.TheVariants as key
use Rattle.iiif_machine.specs.Scenes.{Scene}
use Rattle.iiif_machine.specs.Keys.{meaning, picture_in}
use Rattle.iiif_machine.specs.Images.{pasted}
use Rattle.iiif_machine.proofs.Lists.{get_left, get_map}

get_right : {A : Type 0} (xs ys : List A) (i m : ℕ) (x : A) → m ≡ length xs + i → slice_get ys i ≡ Some x → slice_get (xs ++ ys) m ≡ Some x
get_right [] ys i m x e h = let same : m ≡ i = omega arith in subst (λ n. slice_get ys n ≡ Some x) (sym same) h
get_right (z ∷ xs) ys i zero x e h = absurd (omega arith)
get_right (z ∷ xs) ys i (suc m) x e h = get_right xs ys i m x (omega arith) h

row_length : {K : Type 0} (f : ℕ → ℕ → K) (left j n : ℕ) → length (row_from f left j n) ≡ n
unfolding row_from
row_length f left j zero = refl
row_length f left j (suc n) = let h = row_length f left j n in omega (arith, length-append (row_from f left j n) (f (left + n) j ∷ []))

row_get : {K : Type 0} (f : ℕ → ℕ → K) (left j n i : ℕ) → i < n → slice_get (row_from f left j n) i ≡ Some (f (left + i) j)
unfolding row_from
row_get f left j zero i h = absurd (omega arith)
row_get f left j (suc n) i h = ⊎_elim
    (λ (less : i < n). get_left (row_from f left j n) (f (left + n) j ∷ []) i (f (left + i) j) (row_get f left j n i less))
    (λ (last : n ≤ i).
    let same : n ≡ i = omega arith in
    let len = row_length f left j n in
    get_right (row_from f left j n) (f (left + n) j ∷ []) 0 i (f (left + i) j) (omega arith) (ap (λ m. Some (f (left + m) j)) same))
    (cases_lt i n)

rows_length : {K : Type 0} (f : ℕ → ℕ → K) (left c top n : ℕ) → length (rows_from f left c top n) ≡ n * c
unfolding rows_from
rows_length f left c top zero = omega arith
rows_length f left c top (suc n) =
    let h = rows_length f left c top n in
    let r = row_length f left (top + n) c in
    omega (arith, length-append (rows_from f left c top n) (row_from f left (top + n) c))

rows_get : {K : Type 0} (f : ℕ → ℕ → K) (left c top n i j : ℕ) → i < c → j < n →
    slice_get (rows_from f left c top n) (j * c + i) ≡ Some (f (left + i) (top + j))
unfolding rows_from
rows_get f left c top zero i j h l = absurd (omega arith)
rows_get f left c top (suc n) i j h l = ⊎_elim
    (λ (less : j < n). get_left (rows_from f left c top n) (row_from f left (top + n) c) (j * c + i) (f (left + i) (top + j))
    (rows_get f left c top n i j h less))
    (λ (last : n ≤ j).
    let same : n ≡ j = omega arith in
    let len = rows_length f left c top n in
    let place : j * c ≡ n * c = ap (λ m. m * c) (sym same) in
    get_right (rows_from f left c top n) (row_from f left (top + n) c) i (j * c + i) (f (left + i) (top + j)) (omega arith)
    (row_get f left (top + n) c i h ∙ ap (λ m. Some (f (left + i) (top + m))) same))
    (cases_lt j n)

-- where a column stands in the grid
record Stands (edge from n side x : ℕ) : Type 0 where
  back : from / edge + (x / edge - from / edge) ≡ x / edge
  within : x / edge - from / edge < div_ceil (from + n) edge - from / edge
  whole : x / edge * edge + x % edge ≡ x
  part : x % edge < min edge (side - x / edge * edge)

stands : (edge from n side x : ℕ) → 0 < edge → from ≤ x → x < from + n → from + n ≤ side → Stands edge from n side x
stands edge from n side x e low high all =
    let whole : x / edge * edge + x % edge ≡ x = div-add-mod' x edge in
    let part : x % edge < edge = mod-lt x e in
    let first = met_first edge from (x / edge) e (omega arith) in
    let last = met_last edge (from + n) (x / edge) e (omega arith) in
    record { back = omega arith; within = omega arith; whole = whole; part = omega arith }

pub pasted_is : (s : Scene) (name : List ℕ) (p : Picture) (r : Rect) → s.shows name ≡ Some p → 0 < s.edge → LiesIn r (dim_of p) →
    pasted s.edge p r (map (meaning s) (map key.Tile (each_square (tile_at name s.edge) (squares_met s.edge r)))) ≡ crop p r
unfolding meaning crop_at
pasted_is s name p r shown some inside =
    let edge = s.edge in
    let q = squares_met edge r in
    let keys = each_square (tile_at name edge) q in
    let vs = map (meaning s) (map key.Tile keys) in
    same_built r.w r.h p.channels p.top _ _ (λ x y k lx ly lk.
    let columns = inside.columns in
    let rows = inside.rows in
    let u = stands edge r.x r.w p.width (r.x + x) some (omega arith) (omega arith) (omega arith) in
    let v = stands edge r.y r.h p.height (r.y + y) some (omega arith) (omega arith) (omega arith) in
    let i = (r.x + x) / edge in
    let j = (r.y + y) / edge in
    let n = (j - q.top) * (q.right - q.left) + (i - q.left) in
    let t = tile_at name edge (q.left + (i - q.left)) (q.top + (j - q.top)) in
    let is_t : t ≡ tile_at name edge i j = ap (λ a. tile_at name edge a (q.top + (j - q.top))) u.back ∙
    ap (λ b. tile_at name edge i b) v.back in
    let at : slice_get keys n ≡ Some t = rows_get (tile_at name edge) q.left (q.right - q.left) q.top (q.bottom - q.top) (i - q.left)
    (j - q.top) u.within v.within in
    let got : slice_get vs n ≡ Some (meaning s (key.Tile t)) =
    get_map (meaning s) (map key.Tile keys) n (key.Tile t) (get_map key.Tile keys n t at) in
    let tile = tile_of (dim_of p) (tile_at name edge i j) in
    let is : picture_in (slice_get vs n) ≡ crop p tile =
    ap picture_in got ∙ ap (λ (z : TileKey). (tile_meaning s.shows z).raster) is_t
    ∙ ap (λ (z : Picture). crop z (tile_of (dim_of z) (tile_at name edge i j))) (picture_is s.shows name p shown) in
    ap (λ (z : Picture). sample_at z ((r.x + x) % edge) ((r.y + y) % edge) k) is
    ∙ sample_at-crop p tile ((r.x + x) % edge) ((r.y + y) % edge) k u.part v.part lk
    ∙ ap (λ a. sample_at p a (j * edge + (r.y + y) % edge) k) u.whole ∙ ap (λ b. sample_at p (r.x + x) b k) v.whole)
