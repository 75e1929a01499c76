-- Requests that are planned, and what is relied on where their images are made.
use Rattle.std.specs.Prelude.{◌≡◌, ℕ, ◌*◌, ◌<◌, ◌≤◌}
use Rattle.iiif_pixel.specs.Geometry.{channels_of, sides_of, LiesIn}
use Rattle.iiif_pixel.specs.TurnPlaces.{turned_dim}
use Rattle.iiif_pixel.specs.declared.geometry.Dim.{Dim}
use Rattle.iiif_pixel.specs.declared.geometry.Quality.{Quality}
use Rattle.iiif_pixel.specs.declared.geometry.Quality.TheVariants as quality
use Rattle.iiif_area.specs.Places.{IsScalable}
use Rattle.iiif_keys.specs.Meaning.{sum_meaning, tile_meaning, SumHasShape, TileHasShape}
use Rattle.iiif_keys.specs.Names.{named, IsSource, Pictures}
use Rattle.iiif_keys.specs.Shapes.{HasPicture}
use Rattle.iiif_keys.specs.declared.keys.SumKey.{SumKey}
use Rattle.iiif_keys.specs.declared.keys.TileKey.{TileKey}
use Rattle.iiif_keys.specs.declared.values.SumVal.{SumVal}
use Rattle.iiif_keys.specs.declared.values.TileVal.{TileVal}
use Rattle.iiif_planner.specs.Plans.{IsBlockFor, IsPlan, IsTileFor}
use Rattle.iiif_planner.specs.Bands.{ListsItems}
use Rattle.iiif_planner.specs.Items.{HasItems}
use Rattle.iiif_planner.specs.declared.banding.Band.{Band}
use Rattle.iiif_assemble.specs.declared.job.Job.{Job}

-- A job: a plan of what a request comes to, for an image that has its region.
pub record IsJob (j : Job) : Type 0 where
  pub room : ℕ
  pub is_plan : IsPlan j.name j.edge j.shape.dim (channels_of j.shape.kind) room j.resolved j.plan
  pub inside : LiesIn j.resolved.rect j.shape.dim
  pub scalable : IsScalable (sides_of j.resolved.rect) j.resolved.size
  pub quarters : j.resolved.turn.quarters < 4

-- The plan of a job is that of its request, of blocks with at most so many sums where there are such.
abbrev pub HasPlan : ℕ → Job → Type 0
HasPlan room j = HasItems j.name j.edge j.shape.dim (channels_of j.shape.kind) room j.resolved j.plan

-- A band of the job's result, with the items of its plan that have a place of it.
pub record IsBandOf (j : Job) (b : Band) : Type 0 where
  pub inside : LiesIn b.rect (turned_dim j.resolved.turn j.resolved.size)
  pub items : ListsItems j.resolved j.plan b.rect b.items.items

-- The keys of a plan may be asked for, and what is answered for one has the shape of its meaning.
pub record Serves {K V : Type 0} (is_planned : K → Type 0) (has_shape : K → V → Type 0) (fits : K → Type 0) (means : K → V → Type 0) : Type
    0 where
  pub asked : (k : K) → is_planned k → fits k
  pub shaped : (k : K) (v : V) → is_planned k → means k v → has_shape k v

-- so it is of the tiles that a plan of the job may have
abbrev pub TilesServe : Job → (TileKey → Type 0) → (TileKey → TileVal → Type 0) → Type 0
TilesServe j fits means = Serves (IsTileFor j.name j.edge j.shape.dim (channels_of j.shape.kind) j.resolved.rect) (TileHasShape j.shape)
    fits means

-- and of the blocks
abbrev pub SumsServe : Job → (SumKey → Type 0) → (SumKey → SumVal → Type 0) → Type 0
SumsServe j fits means =
    (level : ℕ) → Serves (IsBlockFor j.name j.edge j.shape.dim (channels_of j.shape.kind) j.resolved.rect j.resolved.size level)
    (SumHasShape j.shape) fits means

-- What is answered for a tile of the job's image is what it means, where names have these pictures. So it is where the image's
-- source is stable and peers are honest.
abbrev pub TilesAreMeant : Pictures → Job → (TileKey → TileVal → Type 0) → Type 0
TilesAreMeant shows j means = (k : TileKey) (v : TileVal) → k.name ≡ j.name → means k v → v ≡ tile_meaning shows k

-- the same of sums
abbrev pub SumsAreMeant : Pictures → Job → (SumKey → SumVal → Type 0) → Type 0
SumsAreMeant shows j means = (k : SumKey) (v : SumVal) → k.name ≡ j.name → means k v → v ≡ sum_meaning shows k

-- The job's name has a picture as a source holds it, of the job's shape, and what is answered for its tiles and its sums is what
-- they mean.
pub record IsShown (shows : Pictures) (j : Job) (tile_means : TileKey → TileVal → Type 0) (sum_means : SumKey → SumVal → Type 0) : Type 0
  where
    pub picture : HasPicture shows j.name j.shape
    pub source : IsSource (named shows j.name)
    pub tiles : TilesAreMeant shows j tile_means
    pub sums : SumsAreMeant shows j sum_means

-- the channels of a picture in a quality: IIIF Image API 3.0, section 4.4
abbrev pub channels_in : Quality → ℕ → ℕ
channels_in quality.Default channels = channels
channels_in quality.Color channels = channels
channels_in quality.Gray channels = 1
channels_in quality.Bitonal channels = 1

-- the greatest sample of a picture in a quality: black and white are 0 and 255
abbrev pub top_in : Quality → ℕ → ℕ
top_in quality.Default top = top
top_in quality.Color top = top
top_in quality.Gray top = top
top_in quality.Bitonal top = 255

-- Of a part of a result with these sides, with so many channels in the source, so many samples and sums were held at once: those
-- of the part, and at most as many again.
pub record IsHeldFor (d : Dim) (channels held : ℕ) : Type 0 where
  pub own : d.w * d.h * channels ≤ held
  pub twice : held ≤ 2 * (d.w * d.h * channels)
