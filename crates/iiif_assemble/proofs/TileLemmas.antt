-- A tile that is an image as it stands.
use Rattle.std.proofs.Common.{◌≡◌, ℕ, ◌+◌, ◌<◌, ◌⊎◌, inl, inr, List, [], ◌∷◌, ◌++◌, All, false, length, get_or}
use Rattle.std.proofs.Common.{map, refl, sym, subst, ap, ◌∙◌, arith}
use Rattle.std.proofs.lemmas.List.{map-append}
use Rattle.std.proofs.lemmas.List.Elements.{All-weaker}
use Rattle.std.specs.List.{AllZip}
use Rattle.iiif_pixel.specs.Geometry.{channels_of, sides_of, top_of}
use Rattle.iiif_pixel.specs.Operations.{crop, quality, turn}
use Rattle.iiif_pixel.specs.Picture.{Picture, dim_of}
use Rattle.iiif_pixel.specs.Scaling.{scale}
use Rattle.iiif_pixel.specs.Laws.{CropIsWhole}
use Rattle.iiif_pixel.specs.TurnPlaces.{turned_dim}
use Rattle.iiif_pixel.specs.declared.geometry.Dim.{Dim}
use Rattle.iiif_pixel.specs.declared.geometry.Quality.{Quality}
use Rattle.iiif_pixel.specs.declared.geometry.Quality.TheVariants as q
use Rattle.iiif_pixel.specs.declared.geometry.Rect.{Rect}
use Rattle.iiif_pixel.specs.declared.geometry.Turn.{Turn}
use Rattle.iiif_area.specs.Laws.{SameSidesChangeNothing}
use Rattle.iiif_canonical.specs.Images.{resolved_image}
use Rattle.iiif_keys.specs.Blocks.{tile_of}
use Rattle.iiif_keys.specs.Meaning.{TileHasShape}
use Rattle.iiif_keys.specs.Names.{named, IsSource, Pictures}
use Rattle.iiif_keys.specs.Shapes.{HasPicture}
use Rattle.iiif_keys.specs.declared.keys.TileKey.{TileKey}
use Rattle.iiif_keys.specs.declared.values.TileVal.{TileVal}
use Rattle.iiif_assemble.specs.Code.{tile_in}
use Rattle.iiif_planner.specs.Bands.{places_from, ListsThose}
use Rattle.iiif_planner.proofs.ItemLaws.{within_list}
use Rattle.iiif_assemble.specs.Gathering.{AreValues, HasItem}
use Rattle.iiif_assemble.specs.Jobs.{channels_in, top_in, IsJob}
use Rattle.iiif_assemble.specs.Lone.{IsTileImage, IsTileItself}
use Rattle.iiif_assemble.specs.declared.job.Job.{Job}
use Rattle.iiif_assemble.proofs.ImageLemmas.{picture_shown}
use Rattle.iiif_assemble.proofs.SumLemmas.{tile_meant}

-- a list of one element has just this
pub one_key : {K : Type 0} (keys : List K) (k : K) → length keys ≡ 1 → get_or keys 0 k ≡ k → keys ≡ k ∷ []
one_key [] k one first = absurd (omega (arith, one))
one_key (x ∷ []) k one first = ap (λ y. y ∷ []) first
one_key (x ∷ (y ∷ keys)) k one first = absurd (omega (arith, one))

-- the last of some values is that of an item
pub last_zipped : {A B : Type 0} (R : A → B → Type 0) (xs : List A) (ys : List B) (y : B) → AllZip R xs (ys ++ y ∷ []) → (x : A) × R x y
last_zipped R [] [] y h = absurd h
last_zipped R [] (z ∷ zs) y h = absurd h
last_zipped R (x ∷ xs) [] y h = (x, h.0)
last_zipped R (x ∷ xs) (z ∷ zs) y h = last_zipped R xs zs y h.1

-- an item of a list of one key is that key
pub only_key : {K V : Type 0} (means : K → V → Type 0) (keys : List K) (k : K) (v : V) (i : ℕ) → length keys ≡ 1 → get_or keys 0 k ≡ k →
    HasItem keys (λ q. means q v) i → means k v
only_key means [] k v i one is h = absurd (omega (arith, one))
only_key {K} {V} means (x ∷ []) k v i one is h =
    let within = h.1 in
    let first : i ≡ 0 = omega (arith, within) in
    let same : x ≡ h.0 = subst (λ n. get_or (x ∷ []) n h.0 ≡ h.0) first h.2 in
    subst (λ (q : K). means q v) (sym same ∙ is) h.3
only_key means (x ∷ y ∷ rest) k v i one is h = absurd (omega (arith, one))

turned_itself : (t : Turn) (d : Dim) → t.quarters ≡ 0 → turned_dim t d ≡ d
turned_itself t d none = rw none refl

picture_itself : (t : Turn) (p : Picture) → t.quarters ≡ 0 → t.mirror ≡ false → turn p t ≡ p
picture_itself t p none plain = rw (none, plain) refl

quality_itself : (to : Quality) (p : Picture) → (to ≡ q.Default) ⊎ (to ≡ q.Color) → quality p to ≡ p
quality_itself to p (inl is) = rw is refl
quality_itself to p (inr is) = rw is refl

channels_itself : (to : Quality) (n : ℕ) → (to ≡ q.Default) ⊎ (to ≡ q.Color) → channels_in to n ≡ n
channels_itself to n (inl is) = rw is refl
channels_itself to n (inr is) = rw is refl

top_itself : (to : Quality) (n : ℕ) → (to ≡ q.Default) ⊎ (to ≡ q.Color) → top_in to n ≡ n
top_itself to n (inl is) = rw is refl
top_itself to n (inr is) = rw is refl

-- what a region comes to whose sides are kept, and which is neither turned nor made gray
image_itself : CropIsWhole → SameSidesChangeNothing → (shows : Pictures) (j : Job) (k : TileKey) → IsJob j → IsTileItself j k →
    j.resolved.size ≡ sides_of j.resolved.rect →
    HasPicture shows j.name j.shape → IsSource (named shows j.name) →
    crop (named shows j.name) j.resolved.rect ≡ resolved_image (named shows j.name) j.resolved
unfolding resolved_image
image_itself crops law shows j k job itself kept has source =
    let p = named shows j.name in
    let r = j.resolved in
    let part = crop p r.rect in
    let of = picture_shown shows j has source in
    let same : part ≡ scale part r.size = sym (law part (crops p r.rect of.whole) job.scalable.columns job.scalable.rows) ∙
    ap (scale part) (sym kept) in
    same
    ∙ sym (picture_itself r.turn (scale part r.size) itself.quarters itself.mirror)
    ∙ sym (quality_itself r.quality (turn (scale part r.size) r.turn) itself.keeps)

-- The tile's value is the image.
pub tile_image : CropIsWhole → SameSidesChangeNothing → (j : Job) (means : TileKey → TileVal → Type 0) (k : TileKey) (v : TileVal) →
    IsJob j → IsTileItself j k →
    j.resolved.size ≡ sides_of j.resolved.rect → k.name ≡ j.name → TileHasShape j.shape k v → means k v → IsTileImage j means (tile_in v)
tile_image crops law j means k v job itself kept of_name shape meant =
    let r = j.resolved in
    let at = tile_of j.shape.dim k in
    let rect : Rect → Dim = sides_of in
    let size : sides_of at ≡ r.size = ap rect (sym itself.region) ∙ sym kept in
    let width : v.raster.width ≡ r.size.w = shape.width ∙ ap (λ (d : Dim). d.w) size in
    let height : v.raster.height ≡ r.size.h = shape.height ∙ ap (λ (d : Dim). d.h) size in
    let sides : dim_of (tile_in v) ≡ r.size = rw (width, height) refl in
    record {
      sides = sides ∙ sym (turned_itself r.turn r.size itself.quarters);
      channels = shape.samples ∙ sym (channels_itself r.quality (channels_of j.shape.kind) itself.keeps);
      top = shape.depth ∙ sym (top_itself r.quality (top_of j.shape.depth) itself.keeps);
      same = λ shows has source are_meant.
          let p = named shows j.name in
          let of = picture_shown shows j has source in
          tile_meant shows j.name p j.shape.dim k v of.known of.sides of_name (are_meant k v of_name meant)
          ∙ ap (crop p) (sym itself.region)
          ∙ image_itself crops law shows j k job itself kept has source;
    }

-- the last of the values of a plan of one tile is that tile's
pub last_value : {A : Type 0} (value : A → TileVal) (means : TileKey → TileVal → Type 0) (keys : List TileKey) (items : List ℕ)
    (old new : List A) (k : TileKey) (a : A) → length keys ≡ 1 →
    get_or keys 0 k ≡ k → AreValues means keys items (map value old) → old ≡ new ++ a ∷ [] → means k (value a)
last_value value means keys items old new k a one is values last =
    let R : ℕ → TileVal → Type 0 = λ i v. HasItem keys (λ q. means q v) i in
    let split : map value old ≡ map value new ++ value a ∷ [] = ap (map value) last ∙ map-append value new (a ∷ []) in
    let found = last_zipped R items (map value new) (value a) (subst (λ (vs : List TileVal). AllZip R items vs) split values) in
    only_key means keys k (value a) found.0 one is found.1

-- the places of a band's items are places of the plan
pub those_within : {K : Type 0} (P : K → Type 0) (keys : List K) (items : List ℕ) → ListsThose P keys items →
    All (λ i. i < length keys) items
those_within {K} P keys items lists =
    subst (λ (js : List ℕ). All (λ i. i < length keys) js) (sym lists.2)
    (All-weaker (λ i. i < 0 + length keys) (λ i. i < length keys) (λ i h. omega arith) (places_from 0 lists.0 keys)
    (within_list 0 lists.0 keys))
