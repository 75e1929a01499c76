-- Words of private functions.
use Rattle.std.specs.Prelude.{◌≡◌, ℕ, ◌+◌, ◌-◌, ◌*◌, ◌^◌, ◌<◌, ◌≤◌, ◌⊎◌, min, List, ◌++◌, Option, Result, length, nat_lt, if◌then◌else◌}
use Rattle.std.specs.Prelude.{IfErr, IfOk, IfSome, IsNone, OnErr, OnOk, []}
use Rattle.std.specs.Io.KnownBytes.{Appends}
use Rattle.iiif_io.specs.Sending.{WasCut}
use Rattle.iiif_pixel.specs.Geometry.{channels_of, sides_of, top_of}
use Rattle.iiif_pixel.specs.Laws.{AllRows, CropIsWhole, QualityIsWhole, ScaleIsWhole, TurnIsWhole}
use Rattle.iiif_pixel.specs.Operations.{crop}
use Rattle.iiif_pixel.specs.Picture.{Picture, IsWhole, dim_of, picture_of, sample_at}
use Rattle.iiif_pixel.specs.declared.geometry.Rect.{Rect}
use Rattle.iiif_canonical.specs.Images.{resolved_image}
use Rattle.iiif_keys.specs.Names.{named, IsSource, Pictures}
use Rattle.iiif_keys.specs.Shapes.{HasPicture}
use Rattle.iiif_keys.specs.declared.fault.Fault.{Fault}
use Rattle.iiif_keys.specs.declared.fault.Fault.TheVariants as fault
use Rattle.iiif_keys.specs.declared.keys.SumKey.{SumKey}
use Rattle.iiif_keys.specs.declared.keys.TileKey.{TileKey}
use Rattle.iiif_keys.specs.declared.values.SumVal.{SumVal}
use Rattle.iiif_keys.specs.declared.values.TileVal.{TileVal}
use Rattle.iiif_planner.specs.Bands.{band_rect}
use Rattle.iiif_planner.specs.declared.banding.Band.{Band}
use Rattle.iiif_assemble.specs.Faults.{IsBandFault}
use Rattle.iiif_assemble.specs.Jobs.{channels_in, top_in, IsBandOf, IsHeldFor, IsShown}
use Rattle.iiif_assemble.specs.Kept.{kept_len, AreFew, AreKept, KeepsOwn}
use Rattle.iiif_assemble.specs.Lone.{IsFirstFault, IsTileImage}
use Rattle.iiif_assemble.specs.declared.items.Items as items
use Rattle.iiif_assemble.specs.declared.job.Job.{Job}
use Rattle.iiif_assemble.specs.declared.kept.KeptSum.{KeptSum}
use Rattle.iiif_assemble.specs.declared.context.RenderContext.{RenderContext}
use Rattle.iiif_tiff_write.specs.Bands.{band}
use Rattle.iiif_tiff_write.specs.File.{file, file_len, head_of, row_len, strip}
use Rattle.iiif_tiff_write.specs.Laws.{StripOfAllRows, StripOfMoreRows, StripOfNoRows}
use Rattle.iiif_tiff_write.specs.OutKind.{out_depth, samples_per_pixel}
use Rattle.iiif_tiff_write.specs.declared.kind.OutKind.{OutKind}
use Rattle.iiif_delivery.specs.Delivery.{result_dim, IsBufferedIn, IsEight, IsHeldIn, IsImageFor, IsTile, KeepsNone, NeedsBands}
use Rattle.iiif_delivery.specs.declared.delivery.Delivered.{Delivered}
use Rattle.iiif_delivery.specs.declared.delivery.Stopped.{Stopped}
use Rattle.iiif_delivery.specs.declared.delivery.Stopped.TheVariants.{Writer, Load}
use Rattle.iiif_delivery.specs.declared.rows.BandCounts.{BandCounts}
use Rattle.iiif_delivery.specs.declared.rows.BandError.{BandError}
use Rattle.iiif_delivery.specs.declared.rows.BandError.TheVariants.{Disconnected, Faulted}
use Rattle.iiif_delivery.specs.declared.sending.Sending.{Sending}

-- what is relied on of pictures and of files
pub record Laws : Type 0 where
  pub rows : AllRows
  pub crops : CropIsWhole
  pub scales : ScaleIsWhole
  pub turns : TurnIsWhole
  pub qualities : QualityIsWhole
  pub none : StripOfNoRows
  pub more : StripOfMoreRows
  pub all : StripOfAllRows

-- A picture of a band of a job's result, by what is answered for tiles and sums.
pub record IsBandFor (j : Job) (tile_means : TileKey → TileVal → Type 0) (sum_means : SumKey → SumVal → Type 0) (rect : Rect) (b : Picture)
    : Type 0 where
  pub whole : IsWhole b
  pub sides : dim_of b ≡ sides_of rect
  pub channels : b.channels ≡ channels_in j.resolved.quality (channels_of j.shape.kind)
  pub top : b.top ≡ top_in j.resolved.quality (top_of j.shape.depth)
  pub same : (shows : Pictures) → IsShown shows j tile_means sum_means → b ≡ crop (resolved_image (named shows j.name) j.resolved) rect

-- a picture with the rows of another in place of its own, from row y on
unfoldable pub with_rows : Picture → ℕ → Picture → Picture
with_rows p y b =
    picture_of p.width p.height p.channels p.top
    (λ u v k. if nat_lt v y then sample_at p u v k else (if nat_lt v (y + b.height) then sample_at b u (v - y) k else sample_at p u v k))

-- The bytes are those of an image behind a text, as far as its first y rows.
pub record HasText (shows : Pictures) (j : Job) (tile_means : TileKey → TileVal → Type 0) (sum_means : SumKey → SumVal → Type 0)
    (kind : OutKind) (start all : List ℕ)
    (y : ℕ) : Type 0 where
  pub image : Picture
  pub is_for : IsImageFor shows j tile_means sum_means image
  pub are : all ≡ start ++ head_of kind (result_dim j) ++ strip kind (band image 0 y)

-- Of such bytes some were written, and the text stands ready to be.
pub record HasRows (shows : Pictures) (j : Job) (tile_means : TileKey → TileVal → Type 0) (sum_means : SumKey → SumVal → Type 0)
    (kind : OutKind) (start : List ℕ)
    (old new : Option (List ℕ)) (text : List ℕ) (sent y : ℕ) : Type 0 where
  pub written : List ℕ
  pub appended : Appends old new written
  pub count : sent ≡ length written
  pub has : HasText shows j tile_means sum_means kind start (written ++ text) y

-- so it is for each way in which names have pictures
abbrev pub HaveRows : Job → (TileKey → TileVal → Type 0) → (SumKey → SumVal → Type 0) → OutKind → List ℕ → Option (List ℕ) →
    Option (List ℕ) → List ℕ → ℕ → ℕ → Type 0
HaveRows j tile_means sum_means kind start old new text sent y =
    (shows : Pictures) → HasPicture shows j.name j.shape → IsSource (named shows j.name) →
    HasRows shows j tile_means sum_means kind start old new text sent y

-- Behind a front of so many bytes the first y rows were written or stand ready; nothing was written and held before a band was made.
pub record HasCounted (j : Job) (kind : OutKind) (front rows : ℕ) (text : List ℕ) (sent held y : ℕ) : Type 0 where
  pub total : sent + length text ≡ front + row_len kind (result_dim j).w * y
  pub band : held ≤ 2 * (min rows (result_dim j).h * (result_dim j).w * channels_of j.shape.kind)
  pub begun : ((y ≡ 0) × (sent ≡ 0) × (held ≡ 0)) ⊎ ((0 < y) × ((result_dim j).w * channels_of j.shape.kind ≤ held))
  pub first : 0 < y → min rows (result_dim j).h * (result_dim j).w * channels_of j.shape.kind ≤ held

-- Behind a front of so many bytes the first y rows were written or are buffered; so many bytes were at once.
pub record HasBuffered (j : Job) (kind : OutKind) (front rows : ℕ) (text : List ℕ) (buffered y : ℕ) : Type 0 where
  pub now : length text ≤ 65536 + front
  pub least : 0 < y → front ≤ buffered
  pub most : buffered ≤ 65536 + (front + row_len kind (result_dim j).w * min rows (result_dim j).h)

-- So many sums were kept at once while the first y rows of a job's image were made, and these are kept still.
pub record HasKept (j : Job) (means : SumKey → SumVal → Type 0) (rows : ℕ) (sums : List KeptSum) (kept y : ℕ) : Type 0 where
  pub before : y ≡ 0 → sums ≡ []
  pub first : 0 < y → (b : Band) × (b.rect ≡ band_rect (result_dim j) rows 0) × IsBandOf j b
      × ((those : List KeptSum) × AreKept means those × KeepsOwn j.plan b.items.items [] those × (kept_len those ≤ kept))
  pub most : (those : List KeptSum) × AreKept means those × AreFew those × (kept ≡ kept_len those)
  pub none : KeepsNone j.plan kept
  pub still : KeepsNone j.plan (length sums)

-- Why a text wasn't sent whole: the writer failed within it; or memory ran out, and nothing was written.
abbrev pub IsSendingOf : {W : Type 0} → (W → Option (List ℕ)) → (W → W → Type 0) → List ℕ → W → W → Stopped → Type 0
IsSendingOf contents fails text old new (Writer n) = WasCut contents fails old new text n
IsSendingOf contents fails text old new (Load n f) = (n ≡ 0) × (new ≡ old) × (f ≡ fault.NoMemory)

-- Why a sending stops where a band can't be made: before any was nothing is written; else what stands ready, unless the writer fails.
abbrev pub StopsFor : {W : Type 0} → (W → Option (List ℕ)) → (W → W → Type 0) → W → W → List ℕ → ℕ → ℕ → Fault → Stopped → Type 0
StopsFor contents fails old new text sent held f stopped =
    ((held ≡ 0) × (new ≡ old) × (stopped ≡ Load sent f))
    ⊎ (((0 < held) × Appends (contents old) (contents new) text × (stopped ≡ Load (sent + length text) f))
    ⊎ ((m : ℕ) × (stopped ≡ Writer (sent + m)) × WasCut contents fails old new text m))

-- Why the sending of an image stopped that is a tile as it stands: the writer failed within the whole text; or the tile could not be had,
-- and nothing was written.
abbrev pub TileStops : {W : Type 0} → (W → Option (List ℕ)) → (W → W → Type 0) → Job → (TileKey → TileVal → Type 0) →
    (TileKey → Fault → Type 0) → OutKind → ℕ → List ℕ → W → W → Stopped → Type 0
TileStops contents fails j means failed kind rows start old new (Writer n) =
    (image : Picture) × IsTileImage j means image × WasCut contents fails old new (start ++ file image kind) n
TileStops contents fails j means failed kind rows start old new (Load n f) = (n ≡ 0) × (new ≡ old) × IsFirstFault j means failed rows f

-- A picture of 8 bits, as a file of this kind has it, whose length fits.
pub record IsInBytes (kind : OutKind) (p : Picture) : Type 0 where
  pub kind_is : IsEight kind
  pub channels : p.channels ≡ samples_per_pixel kind
  pub depth : p.top ≡ top_of (out_depth kind)
  pub len : file_len kind (dim_of p) < 2 ^ 32

-- A text and a picture's file were sent, so many bytes; or why not.
pub record SendsRaster {W : Type 0} (contents : W → Option (List ℕ)) (fails : W → W → Type 0) (start : List ℕ) (kind : OutKind)
    (p : Picture) (old new : W) (result : Result ℕ Stopped) : Type 0 where
  pub whole : IfOk result (λ n. Appends (contents old) (contents new) (start ++ file p kind) × (n ≡ length (start ++ file p kind)))
  pub stopped : IfErr result (IsSendingOf contents fails (start ++ file p kind) old new)

module _ {A P R O : Type 0} (tile : items.Ghosts A TileKey TileVal P R O) (tiles : A) (s : Sending) where
  -- An image that is a tile as it stands was sent, or why not; nothing is sent of another.
  pub record SendsTile {W : Type 0} (contents : W → Option (List ℕ)) (fails : W → W → Type 0) (old new : W)
      (result : Option (Result Delivered Stopped)) : Type 0 where
    pub none : IsNone result → new ≡ old
    pub bands : IsNone result → NeedsBands s
    pub whole : IfSome result (λ r. IfOk r (λ d. (image : Picture) × IsTileImage s.job.now (tile.means tiles) image
        × Appends (contents old) (contents new) (s.start.now ++ file image s.kind) ×
        (d.bytes ≡ length (s.start.now ++ file image s.kind))))
    pub held : IfSome result (λ r. IfOk r (IsHeldIn s))
    pub kept : IfSome result (λ r. IfOk r (λ d. ((k : TileKey) × IsTile s.job.now k) ×
        (d.kept ≡ (result_dim s.job.now).w * (result_dim s.job.now).h * channels_of s.job.now.shape.kind)))
    pub buffered : IfSome result (λ r. IfOk r (IsBufferedIn s))
    pub stopped : IfSome result (λ r. IfErr r
        (TileStops contents fails s.job.now (tile.means tiles) (tile.failed tiles) s.kind s.rows s.start.now old new))

-- Why a band isn't there: the client had disconnected, or a fault of which P holds.
abbrev pub IsBandErrorFor : {W : Type 0} → (W → W → Type 0) → W → (Fault → Type 0) → BandError → Type 0
IsBandErrorFor fails out P Disconnected = fails out out
IsBandErrorFor fails out P (Faulted f) = P f

module _ {A B R P O U : Type 0} (tile : items.Ghosts A TileKey TileVal P R O) (sum : items.Ghosts B SumKey SumVal P R U)
    (context : RenderContext A B R) (s : Sending) where
  -- The rows of a band were appended to a text, and so much was held and is kept; or why not. What is kept, where others were before, stays
  -- values of its keys, and few.
  pub record PutsBand (b : Band) (before sums : List KeptSum) (old new : List ℕ) (result : Result BandCounts Fault) : Type 0 where
    pub kept : AreKept (sum.means context.sums.now) sums
    pub few : AreFew sums
    pub own : OnOk result (KeepsOwn s.job.now.plan b.items.items before sums)
    pub rows : OnOk result ((p : Picture) ×
        IsBandFor s.job.now (tile.means context.tiles.now) (sum.means context.sums.now) b.rect p × (new ≡ old ++ strip s.kind p))
    pub none : OnErr result (new ≡ old)
    pub held : IfOk result (λ n. IsHeldFor (sides_of b.rect) (channels_of s.job.now.shape.kind) n.held)
    pub count : IfOk result (λ n. n.kept ≡ kept_len sums)
    pub fault : IfErr result (λ f. (f ≡ fault.NoMemory) ⊎
        IsBandFault (tile.means context.tiles.now) (tile.failed context.tiles.now) (sum.means context.sums.now)
        (sum.failed context.sums.now) s.job.now.plan b.items.items f)

  -- Band i was made and its rows appended to a text, and so much was held and is kept; or why not: the client had disconnected, memory ran
  -- out, or the first of the band's items that failed. What is kept, where others were before, stays values of its keys, and few.
  pub record MakesBand {W : Type 0} (fails : W → W → Type 0) (i : ℕ) (before sums : List KeptSum) (out : W) (old new : List ℕ)
      (result : Result BandCounts BandError) : Type 0 where
    pub kept : AreKept (sum.means context.sums.now) sums
    pub few : AreFew sums
    pub own : OnOk result ((b : Band) × (b.rect ≡ band_rect (result_dim s.job.now) s.rows i) × IsBandOf s.job.now b ×
        KeepsOwn s.job.now.plan b.items.items before sums)
    pub rows : OnOk result ((p : Picture) ×
        IsBandFor s.job.now (tile.means context.tiles.now) (sum.means context.sums.now) (band_rect (result_dim s.job.now) s.rows i) p ×
        (new ≡ old ++ strip s.kind p))
    pub none : OnErr result (new ≡ old)
    pub held : IfOk result (λ n. IsHeldFor (sides_of (band_rect (result_dim s.job.now) s.rows i)) (channels_of s.job.now.shape.kind) n.held)
    pub count : IfOk result (λ n. n.kept ≡ kept_len sums)
    pub why : IfErr result (IsBandErrorFor fails out (λ f. (f ≡ fault.NoMemory) ⊎
        ((b : Band) × (b.rect ≡ band_rect (result_dim s.job.now) s.rows i) × IsBandOf s.job.now b ×
        IsBandFault (tile.means context.tiles.now) (tile.failed context.tiles.now) (sum.means context.sums.now)
        (sum.failed context.sums.now) s.job.now.plan b.items.items f)))
