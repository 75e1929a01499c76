-- Words of private functions.
use Rattle.std.specs.Prelude.{◌≡◌, ℕ, ◌*◌, ◌<◌, ◌≤◌, List, true, Bool, count_by, map, fold, Some}
use Rattle.iiif_pixel.specs.Geometry.{channels_of, top_of, HasPlace}
use Rattle.iiif_pixel.specs.Picture.{Picture, IsWhole, dim_of, sample_at}
use Rattle.iiif_pixel.specs.Operations.{crop}
use Rattle.iiif_pixel.specs.declared.geometry.Dim.{Dim}
use Rattle.iiif_pixel.specs.declared.geometry.Rect.{Rect}
use Rattle.iiif_area.specs.Grid.{Grid, grid_of, has_place, merged, sums_of}
use Rattle.iiif_area.specs.Places.{part_of, Meets}
use Rattle.iiif_canonical.specs.declared.resolved.Resolved.{Resolved}
use Rattle.iiif_keys.specs.Blocks.{tile_of, TileFitsIn}
use Rattle.iiif_keys.specs.declared.keys.Shape.{Shape}
use Rattle.iiif_keys.specs.Names.{Pictures}
use Rattle.iiif_keys.specs.declared.keys.SumKey.{SumKey}
use Rattle.iiif_keys.specs.declared.keys.TileKey.{TileKey}
use Rattle.iiif_keys.specs.declared.values.SumVal.{SumVal}
use Rattle.iiif_keys.specs.declared.values.TileVal.{TileVal}
use Rattle.iiif_planner.specs.Bands.{block_places, grown_places, places_from, tile_places}
use Rattle.iiif_planner.specs.Plans.{BlocksCover, TilesCover}
use Rattle.iiif_planner.specs.declared.plans.Plan.{Plan}
use Rattle.iiif_planner.specs.declared.plans.Plan.TheVariants.{Copy, Grow, Sum}
use Rattle.iiif_assemble.specs.declared.job.Job.{Job}

-- the tiles, and the blocks, of a plan of the job
abbrev pub AreTiles : Job → List TileKey → Type 0
AreTiles j keys = TilesCover j.name j.edge j.shape.dim (channels_of j.shape.kind) j.resolved.rect keys

abbrev pub AreBlocks : Job → List SumKey → Type 0
AreBlocks j keys = (level : ℕ) × BlocksCover j.name j.edge j.shape.dim (channels_of j.shape.kind) j.resolved.rect j.resolved.size level keys

-- a whole picture of the job's name and of its shape
pub record IsPictureOf (shows : Pictures) (j : Job) (p : Picture) : Type 0 where
  pub known : shows j.name ≡ Some p
  pub whole : IsWhole p
  pub sides : dim_of p ≡ j.shape.dim
  pub samples_a_place : p.channels ≡ channels_of j.shape.kind
  pub depth : p.top ≡ top_of j.shape.depth

-- how many samples a picture has
abbrev pub count_of : Picture → ℕ
count_of p = p.width * p.height * p.channels

-- of so many samples of a part, so many were held at once
abbrev pub IsWithin : ℕ → ℕ → Type 0
IsWithin count held = (count ≤ held) × (held ≤ 2 * count)

-- the places in a list of elements among which are all that have a place of a rectangle
abbrev pub ListsMet : {K : Type 0} → (K → Rect) → Rect → List K → List ℕ → Type 0
ListsMet {K} places rect keys items =
    (test : K → Bool) × ((k : K) (x y : ℕ) → HasPlace (places k) x y → HasPlace rect x y → test k ≡ true) ×
    (items ≡ places_from 0 test keys)

-- At the places of a part the new picture has the samples f x y k, and at all others what the old one had.
pub record Copies (part : Rect) (f : ℕ → ℕ → ℕ → ℕ) (old new : Picture) : Type 0 where
  pub width : new.width ≡ old.width
  pub height : new.height ≡ old.height
  pub channels : new.channels ≡ old.channels
  pub top : new.top ≡ old.top
  pub copied : (x y k : ℕ) → HasPlace part x y → k < old.channels → sample_at new x y k ≡ f x y k
  pub kept : (x y k : ℕ) → x < old.width → y < old.height → k < old.channels → ¬ (HasPlace part x y) →
      sample_at new x y k ≡ sample_at old x y k

-- at each place of these rectangles the picture p has the sample of another
abbrev pub HasCopied : Picture → List Rect → Picture → Type 0
HasCopied from rects p = (x y k : ℕ) → x < p.width → y < p.height → k < p.channels → 0 < count_by (λ r. has_place r x y) rects →
    sample_at p x y k ≡ sample_at from x y k

-- what a value has
abbrev pub sums_in : SumVal → Grid
sums_in v = v.sums

abbrev pub tile_in : TileVal → Picture
tile_in v = v.raster

-- the same of the items of a plan and a part of the scaled result
abbrev pub ListsMetItems : Resolved → Rect → Plan → List ℕ → Type 0
ListsMetItems r from (Copy keys) items = ListsMet (tile_places r.rect) from keys.items items
ListsMetItems r from (Grow keys) items = ListsMet (grown_places r.rect r.size) from keys.items items
ListsMetItems r from (Sum keys) items = ListsMet block_places from keys.items items

-- a tile of an image of a shape, which has a place of a region
pub record TileHasPart (s : Shape) (region : Rect) (k : TileKey) : Type 0 where
  pub fits : TileFitsIn s.dim (channels_of s.kind) k
  pub meets : Meets (tile_of s.dim k) region

-- what a tile of a picture adds to the sums of a region that is scaled to a size
abbrev pub tile_adds : Picture → Dim → Rect → Dim → TileKey → Grid
tile_adds p image region size k = sums_of (crop p region) size (part_of (tile_of image k) region)

-- what the sums of values come to at the places of a rectangle
abbrev pub total_of : Rect → ℕ → List SumVal → Grid
total_of rect channels values = fold merged (grid_of rect channels (λ i j k. 0)) (map sums_in values)
