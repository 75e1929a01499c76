-- What is sent of an image, and what is held of it meanwhile.
use Rattle.std.specs.Prelude.{◌≡◌, ℕ, ◌+◌, ◌-◌, ◌*◌, ◌^◌, ◌<◌, ◌≤◌, ◌⊎◌, ◌==◌, ◌++◌, min, List, [], Option, Result, length, take}
use Rattle.std.specs.Prelude.{if◌then◌else◌, IfErr, IfOk}
use Rattle.std.specs.Io.KnownBytes.{Appends}
use Rattle.iiif_io.specs.Sending.{WasCut}
use Rattle.iiif_pixel.specs.Geometry.{channels_of, top_of}
use Rattle.iiif_pixel.specs.Picture.{Picture, dim_of}
use Rattle.iiif_pixel.specs.TurnPlaces.{turned_dim}
use Rattle.iiif_pixel.specs.declared.geometry.Dim.{Dim}
use Rattle.iiif_pixel.specs.declared.geometry.Rect.{Rect}
use Rattle.iiif_canonical.specs.Images.{resolved_image}
use Rattle.iiif_keys.specs.Names.{named, IsSource, Pictures}
use Rattle.iiif_keys.specs.Shapes.{HasPicture}
use Rattle.iiif_keys.specs.declared.fault.Fault.{Fault}
use Rattle.iiif_keys.specs.declared.fault.Fault.TheVariants as fault
use Rattle.iiif_keys.specs.declared.keys.SumKey.{SumKey}
use Rattle.iiif_keys.specs.declared.keys.TileKey.{TileKey}
use Rattle.iiif_keys.specs.declared.values.SumVal.{SumVal}
use Rattle.iiif_keys.specs.declared.values.TileVal.{TileVal}
use Rattle.iiif_planner.specs.Bands.{band_rect}
use Rattle.iiif_planner.specs.declared.banding.Band.{Band}
use Rattle.iiif_planner.specs.declared.plans.Plan.{Plan}
use Rattle.iiif_planner.specs.declared.plans.Plan.TheVariants.{Copy, Grow, Sum}
use Rattle.iiif_assemble.specs.Faults.{IsBandFault}
use Rattle.iiif_assemble.specs.Jobs.{channels_in, top_in, IsBandOf, IsJob, IsShown, SumsServe, TilesServe}
use Rattle.iiif_assemble.specs.Kept.{kept_len, AreFew, AreKept, KeepsOwn}
use Rattle.iiif_assemble.specs.Lone.{IsCopyOf, IsTileItself}
use Rattle.iiif_assemble.specs.declared.items.Items as items
use Rattle.iiif_assemble.specs.declared.job.Job.{Job}
use Rattle.iiif_assemble.specs.declared.kept.KeptSum.{KeptSum}
use Rattle.iiif_assemble.specs.declared.context.RenderContext.{RenderContext}
use Rattle.iiif_tiff_write.specs.File.{file, file_len, head_of, row_len}
use Rattle.iiif_tiff_write.specs.OutKind.{out_depth, samples_per_pixel}
use Rattle.iiif_tiff_write.specs.declared.kind.OutKind.{OutKind}
use Rattle.iiif_tiff_write.specs.declared.kind.OutKind.TheVariants.{Gray, Rgb}
use Rattle.iiif_delivery.specs.declared.delivery.Delivered.{Delivered}
use Rattle.iiif_delivery.specs.declared.delivery.Stopped.{Stopped}
use Rattle.iiif_delivery.specs.declared.delivery.Stopped.TheVariants.{Writer, Load}
use Rattle.iiif_delivery.specs.declared.sending.Sending.{Sending}

-- the sides of a job's result
abbrev pub result_dim : Job → Dim
result_dim j = turned_dim j.resolved.turn j.resolved.size

-- An image for a job, where names have these pictures: of the sides, the channels and the depth of what is asked for; and that image
-- itself where what is answered for tiles and for sums is what they mean.
pub record IsImageFor (shows : Pictures) (j : Job) (tile_means : TileKey → TileVal → Type 0) (sum_means : SumKey → SumVal → Type 0)
    (image : Picture) : Type 0 where
  pub sides : dim_of image ≡ result_dim j
  pub channels : image.channels ≡ channels_in j.resolved.quality (channels_of j.shape.kind)
  pub top : image.top ≡ top_in j.resolved.quality (top_of j.shape.depth)
  pub same : IsShown shows j tile_means sum_means → image ≡ resolved_image (named shows j.name) j.resolved

-- Of an image with these sides that was sent in bands of so many rows, with so many channels in its source, so many samples and sums
-- were held at once: those of its first band at least, of which none has more, and at most twice these.
pub record IsHeldInBands (d : Dim) (rows channels held : ℕ) : Type 0 where
  pub band : min rows d.h * d.w * channels ≤ held
  pub twice : held ≤ 2 * (min rows d.h * d.w * channels)

-- the image is this tile as it stands
abbrev pub IsTile : Job → TileKey → Type 0
IsTile j k = IsCopyOf j.plan k × IsTileItself j k

-- no sums are kept for a plan of tiles
abbrev pub KeepsNone : Plan → ℕ → Type 0
KeepsNone (Copy keys) kept = kept ≡ 0
KeepsNone (Grow keys) kept = kept ≡ 0
KeepsNone (Sum keys) kept = Unit {0}

-- Beside what was held of an image that was sent in bands of so many rows, so many sums of its blocks were kept at once, of blocks that
-- have places of several bands: those of the first band's blocks at least; and as many as at most 64 values have that were answered.
pub record IsKeptInBands (j : Job) (means : SumKey → SumVal → Type 0) (rows kept : ℕ) : Type 0 where
  pub first : (b : Band) × (b.rect ≡ band_rect (result_dim j) rows 0) × IsBandOf j b
      × ((sums : List KeptSum) × AreKept means sums × KeepsOwn j.plan b.items.items [] sums × (kept_len sums ≤ kept))
  pub most : (sums : List KeptSum) × AreKept means sums × AreFew sums × (kept ≡ kept_len sums)
  pub none : KeepsNone j.plan kept

-- What was written of a text before its sending stopped. Where the writer failed, a strict prefix. Where a band could not be made,
-- a strict prefix too, which is empty or has what stands before the rows.
abbrev pub Stops : {W : Type 0} → (W → Option (List ℕ)) → (W → W → Type 0) → W → W → ℕ → List ℕ → Stopped → Type 0
Stops contents fails old new front text (Writer n) = WasCut contents fails old new text n
Stops contents fails old new front text (Load n f) = (n < length text) × Appends (contents old) (contents new) (take n text) ×
    ((n ≡ 0) ⊎ (front ≤ n))

-- how many bytes are written with the first y rows of an image of that width, behind a front of so many
abbrev pub len_with : OutKind → ℕ → ℕ → ℕ → ℕ
len_with kind front w y = if y == 0 then 0 else front + row_len kind w * y

-- of an image with these sides that is cut into bands of so many rows, the band that begins with row y: the last perhaps of fewer
abbrev pub band_from : Dim → ℕ → ℕ → Rect
band_from d rows y = record { x = 0; y = y; w = d.w; h = min rows (d.h - y) }

-- Why a load stopped the sending in bands of so many rows: the rows above a band were written, and memory ran out, or that band could
-- not be made.
abbrev pub FailsFor : Job → (TileKey → TileVal → Type 0) → (TileKey → Fault → Type 0) → (SumKey → SumVal → Type 0) →
    (SumKey → Fault → Type 0) → OutKind → ℕ → ℕ → Stopped → Type 0
FailsFor j tile tile_failed sum sum_failed kind rows front (Writer n) = Unit {0}
FailsFor j tile tile_failed sum sum_failed kind rows front (Load n f) =
    (y : ℕ) × (n ≡ len_with kind front (result_dim j).w y)
    × ((f ≡ fault.NoMemory) ⊎ ((b : Band) × (b.rect ≡ band_from (result_dim j) rows y) × IsBandOf j b ×
    IsBandFault tile tile_failed sum sum_failed j.plan b.items.items f))

-- a file has samples of 8 bits
abbrev pub IsEight : OutKind → Type 0
IsEight kind = (kind ≡ Gray) ⊎ (kind ≡ Rgb)

-- how many bytes stand before the rows of what is sent
abbrev pub front_len : Sending → ℕ
front_len s = length (s.start.now ++ head_of s.kind (result_dim s.job.now))

-- the image isn't a tile of 8 bits as it stands, so it is made in bands
abbrev pub NeedsBands : Sending → Type 0
NeedsBands s = (k : TileKey) → IsTile s.job.now k → IsEight s.kind → ⊥

-- what was held of it, of its bands
abbrev pub IsHeldIn : Sending → Delivered → Type 0
IsHeldIn s d = IsHeldInBands (result_dim s.job.now) s.rows (channels_of s.job.now.shape.kind) d.held

-- Of what was sent, so many bytes were buffered at once: what stands before the rows at least; and at most 64 KiB besides that and the rows
-- of a band.
pub record IsBufferedIn (s : Sending) (d : Delivered) : Type 0 where
  pub front : front_len s ≤ d.buffered
  pub bounded : d.buffered ≤ 65536 + (front_len s + row_len s.kind (result_dim s.job.now).w * min s.rows (result_dim s.job.now).h)

module _ {A B R P O U : Type 0} (tile : items.Ghosts A TileKey TileVal P R O) (sum : items.Ghosts B SumKey SumVal P R U)
    (context : RenderContext A B R) (s : Sending) where
  -- So may be sent: the job is planned, and bands have rows; who has tiles and sums may be asked for the job's, and answers what has
  -- their shape; and the file has the image's channels and depth, and a length that fits.
  pub record MaySend : Type 0 where
    pub job : IsJob s.job.now
    pub rows : 0 < s.rows
    pub tiles : TilesServe s.job.now (tile.fits context.tiles.now) (tile.means context.tiles.now)
    pub sums : SumsServe s.job.now (sum.fits context.sums.now) (sum.means context.sums.now)
    pub channels : channels_in s.job.now.resolved.quality (channels_of s.job.now.shape.kind) ≡ samples_per_pixel s.kind
    pub depth : top_in s.job.now.resolved.quality (top_of s.job.now.shape.depth) ≡ top_of (out_depth s.kind)
    pub len : file_len s.kind (result_dim s.job.now) < 2 ^ 32

  -- An image for the job was sent whole behind the text, where the job's name has a picture as a source holds it.
  abbrev pub SendsWhole : {W : Type 0} → (W → Option (List ℕ)) → W → W → Delivered → Type 0
  SendsWhole contents old new d =
      (shows : Pictures) → HasPicture shows s.job.now.name s.job.now.shape → IsSource (named shows s.job.now.name)
      → (image : Picture) × IsImageFor shows s.job.now (tile.means context.tiles.now) (sum.means context.sums.now) image
      × Appends (contents old) (contents new) (s.start.now ++ file image s.kind) ×
      (d.bytes ≡ length (s.start.now ++ file image s.kind))

  -- It was sent so far before it stopped.
  abbrev pub StopsWithin : {W : Type 0} → (W → Option (List ℕ)) → (W → W → Type 0) → W → W → Stopped → Type 0
  StopsWithin contents fails old new stopped =
      (shows : Pictures) → HasPicture shows s.job.now.name s.job.now.shape → IsSource (named shows s.job.now.name)
      → (image : Picture) × IsImageFor shows s.job.now (tile.means context.tiles.now) (sum.means context.sums.now) image
      × Stops contents fails old new (front_len s) (s.start.now ++ file image s.kind) stopped

  -- So it is why a load stopped it.
  abbrev pub FailsIn : Stopped → Type 0
  FailsIn = FailsFor s.job.now (tile.means context.tiles.now) (tile.failed context.tiles.now) (sum.means context.sums.now)
      (sum.failed context.sums.now) s.kind s.rows (front_len s)

  -- So much was kept beside what was held: of an image that is a tile as it stands the tile's samples; else what was kept of blocks.
  abbrev pub IsKeptIn : Delivered → Type 0
  IsKeptIn d =
      (((k : TileKey) × IsTile s.job.now k) × (d.kept ≡ (result_dim s.job.now).w * (result_dim s.job.now).h *
      channels_of s.job.now.shape.kind))
      ⊎ (NeedsBands s × IsKeptInBands s.job.now (sum.means context.sums.now) s.rows d.kept)

  -- What a sending comes to: the image was sent whole, and so much was held, kept and buffered of it; or the sending stopped within it, and
  -- why.
  pub record Sends {W : Type 0} (contents : W → Option (List ℕ)) (fails : W → W → Type 0) (old new : W)
      (result : Result Delivered Stopped) : Type 0 where
    pub whole : IfOk result (SendsWhole contents old new)
    pub held : IfOk result (IsHeldIn s)
    pub kept : IfOk result IsKeptIn
    pub buffered : IfOk result (IsBufferedIn s)
    pub stopped : IfErr result (StopsWithin contents fails old new)
    pub fault : IfErr result FailsIn
