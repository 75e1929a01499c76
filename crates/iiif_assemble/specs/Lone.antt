-- Images that are a tile as it stands.
use Rattle.std.specs.Prelude.{◌≡◌, ℕ, ◌⊎◌, [], ◌∷◌, false}
use Rattle.iiif_pixel.specs.Geometry.{channels_of, top_of}
use Rattle.iiif_pixel.specs.Picture.{Picture, dim_of}
use Rattle.iiif_pixel.specs.TurnPlaces.{turned_dim}
use Rattle.iiif_pixel.specs.declared.geometry.Quality.TheVariants as quality
use Rattle.iiif_canonical.specs.Images.{resolved_image}
use Rattle.iiif_keys.specs.Blocks.{tile_of}
use Rattle.iiif_keys.specs.Names.{named, IsSource, Pictures}
use Rattle.iiif_keys.specs.Shapes.{HasPicture}
use Rattle.iiif_keys.specs.declared.fault.Fault.{Fault}
use Rattle.iiif_keys.specs.declared.fault.Fault.TheVariants.{NoMemory}
use Rattle.iiif_keys.specs.declared.keys.TileKey.{TileKey}
use Rattle.iiif_keys.specs.declared.values.TileVal.{TileVal}
use Rattle.iiif_planner.specs.Bands.{band_rect}
use Rattle.iiif_planner.specs.declared.banding.Band.{Band}
use Rattle.iiif_planner.specs.declared.plans.Plan.{Plan}
use Rattle.iiif_planner.specs.declared.plans.Plan.TheVariants.{Copy, Grow, Sum}
use Rattle.iiif_assemble.specs.Gathering.{IsItemFault}
use Rattle.iiif_assemble.specs.Jobs.{channels_in, top_in, IsBandOf, TilesAreMeant}
use Rattle.iiif_assemble.specs.declared.job.Job.{Job}

-- A job's region is that of a tile, and nothing is turned or made gray.
pub record IsTileItself (j : Job) (k : TileKey) : Type 0 where
  pub region : j.resolved.rect ≡ tile_of j.shape.dim k
  pub quarters : j.resolved.turn.quarters ≡ 0
  pub mirror : j.resolved.turn.mirror ≡ false
  pub keeps : (j.resolved.quality ≡ quality.Default) ⊎ (j.resolved.quality ≡ quality.Color)

-- a plan is of this tile alone, as it stands
abbrev pub IsCopyOf : Plan → TileKey → Type 0
IsCopyOf (Copy keys) k = keys.items ≡ k ∷ []
IsCopyOf (Grow keys) k = ⊥
IsCopyOf (Sum keys) k = ⊥

-- A picture of the sides, the channels and the depth of a job's image; and that image itself where what is answered for tiles is
-- what they mean.
pub record IsTileImage (j : Job) (means : TileKey → TileVal → Type 0) (p : Picture) : Type 0 where
  pub sides : dim_of p ≡ turned_dim j.resolved.turn j.resolved.size
  pub channels : p.channels ≡ channels_in j.resolved.quality (channels_of j.shape.kind)
  pub top : p.top ≡ top_in j.resolved.quality (top_of j.shape.depth)
  pub same : (shows : Pictures) → HasPicture shows j.name j.shape → IsSource (named shows j.name) → TilesAreMeant shows j means →
      p ≡ resolved_image (named shows j.name) j.resolved

-- a fault of these items of a plan of tiles
abbrev pub IsTilesFault : (TileKey → TileVal → Type 0) → (TileKey → Fault → Type 0) → Plan → Band → Fault → Type 0
IsTilesFault means failed (Copy keys) b f = IsItemFault means failed keys.items b.items.items f
IsTilesFault means failed (Grow keys) b f = IsItemFault means failed keys.items b.items.items f
IsTilesFault means failed (Sum keys) b f = f ≡ NoMemory

-- Why the first band of so many rows of a job's image could not be made: memory ran out, or a tile of it failed.
abbrev pub IsFirstFault : Job → (TileKey → TileVal → Type 0) → (TileKey → Fault → Type 0) → ℕ → Fault → Type 0
IsFirstFault j means failed rows f =
    (f ≡ NoMemory)
    ⊎ ((b : Band) × (b.rect ≡ band_rect (turned_dim j.resolved.turn j.resolved.size) rows 0) × IsBandOf j b ×
    IsTilesFault means failed j.plan b f)
