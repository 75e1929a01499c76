-- What comes of the making of an image, or of a part of one.
use Rattle.std.specs.Prelude.{◌≡◌, ℕ, Result, IfErr, IfOk}
use Rattle.iiif_pixel.specs.Geometry.{channels_of, sides_of, top_of}
use Rattle.iiif_pixel.specs.Operations.{crop}
use Rattle.iiif_pixel.specs.Picture.{Picture, dim_of}
use Rattle.iiif_pixel.specs.TurnPlaces.{turned_dim}
use Rattle.iiif_pixel.specs.declared.geometry.Dim.{Dim}
use Rattle.iiif_pixel.specs.declared.geometry.Rect.{Rect}
use Rattle.iiif_canonical.specs.Images.{resolved_image}
use Rattle.iiif_canonical.specs.declared.resolved.Resolved.{Resolved}
use Rattle.iiif_keys.specs.Names.{named, Pictures}
use Rattle.iiif_keys.specs.declared.fault.Fault.{Fault}
use Rattle.iiif_keys.specs.declared.keys.SumKey.{SumKey}
use Rattle.iiif_keys.specs.declared.keys.TileKey.{TileKey}
use Rattle.iiif_keys.specs.declared.values.SumVal.{SumVal}
use Rattle.iiif_keys.specs.declared.values.TileVal.{TileVal}
use Rattle.iiif_planner.specs.declared.banding.Band.{Band}
use Rattle.iiif_planner.specs.declared.plans.Plan.{Plan}
use Rattle.iiif_assemble.specs.Code.{count_of, IsPictureOf, IsWithin}
use Rattle.iiif_assemble.specs.Faults.{IsBandFault, IsPlanFault}
use Rattle.iiif_assemble.specs.Jobs.{channels_in, top_in, IsHeldFor, IsJob, IsShown, SumsServe, TilesServe}
use Rattle.iiif_assemble.specs.declared.context.ItemGroups.{ItemGroups}
use Rattle.iiif_assemble.specs.declared.items.Items as items
use Rattle.iiif_assemble.specs.declared.job.ImageRef.{ImageRef}
use Rattle.iiif_assemble.specs.declared.job.Job.{Job}
use Rattle.iiif_assemble.specs.declared.job.JobRef.{JobRef}
use Rattle.iiif_assemble.specs.declared.job.Made.{Made}

-- What comes of the making of a part of an image, with so many channels and that greatest sample; `I` says what names have as pictures, and
-- `M` is what has the part's picture.
pub record MakesPart {I M : Type 0} (picture : M → Picture) (is_meant : I → Type 0) (part : I → Picture) (d : Dim) (n t : ℕ)
    (is_held : M → Type 0) (why : Fault → Type 0) (result : Result M Fault) : Type 0 where
  -- Where what was answered for tiles and for sums is what they mean, the picture is that part of the image.
  pub image : IfOk result (λ m. (i : I) → is_meant i → picture m ≡ part i)
  -- It has the part's sides, whatever was answered.
  pub sides : IfOk result (λ m. dim_of (picture m) ≡ d)
  -- So it has the channels.
  pub channels : IfOk result (λ m. (picture m).channels ≡ n)
  -- So it has the greatest sample.
  pub top : IfOk result (λ m. (picture m).top ≡ t)
  -- So many samples and sums of the result were held at once while it was made.
  pub held : IfOk result is_held
  -- Where there is no picture, memory ran out, or that item failed which is the first of those that did.
  pub fault : IfErr result why

-- the same of a part in `from` of the scaled result, before it is turned: the channels and the greatest sample are the source's
abbrev pub MakesScaled : Job → (Pictures → Type 0) → (Picture → Picture) → Rect → (Fault → Type 0) → Result Made Fault → Type 0
MakesScaled j are_meant scaled from why result =
    MakesPart (λ (m : Made). m.raster) (λ (i : Pictures × Picture). IsPictureOf i.0 j i.1 × are_meant i.0) (λ i. crop (scaled i.1) from)
    (sides_of from) (channels_of j.shape.kind) (top_of j.shape.depth) (λ m. IsWithin (count_of m.raster) m.held) why result

-- the same of a part in `rect` of the job's image
abbrev pub MakesShown : {M : Type 0} → (M → Picture) → (M → ℕ) → Job → (TileKey → TileVal → Type 0) → (SumKey → SumVal → Type 0) →
    (Picture → Picture) → Dim → (Fault → Type 0) → Result M Fault → Type 0
MakesShown {M} picture held j tile_means sum_means part d why result =
    MakesPart picture (λ (shows : Pictures). IsShown shows j tile_means sum_means)
    (λ shows. part (resolved_image (named shows j.name) j.resolved)) d (channels_in j.resolved.quality (channels_of j.shape.kind))
    (top_in j.resolved.quality (top_of j.shape.depth)) (λ m. IsHeldFor d (channels_of j.shape.kind) (held m)) why result

-- the job of an image, of what is asked for, and of the plan of it
abbrev pub job_of : ImageRef → Resolved → Plan → Job
job_of i r p = record { name = i.name.now; edge = i.edge; shape = i.shape; resolved = r; plan = p }

-- the job that is lent by its parts
abbrev pub lent : JobRef → Job
lent j = record { name = j.name.now; edge = j.edge; shape = j.shape; resolved = j.resolved.now; plan = j.plan.now }

module _ {A B R P O U : Type 0} (tile : items.Ghosts A TileKey TileVal P R O) (sum : items.Ghosts B SumKey SumVal P R U)
    (groups : ItemGroups A B) (j : Job) where
  -- So the image of a job may be assembled: it is planned, and who has tiles and sums may be asked for the plan's, and answers what has
  -- their shape.
  pub record MayAssemble : Type 0 where
    pub job : IsJob j
    pub tiles : TilesServe j (tile.fits groups.tiles.now) (tile.means groups.tiles.now)
    pub sums : SumsServe j (sum.fits groups.sums.now) (sum.means groups.sums.now)

  -- A band of the job's image was assembled, and so many samples and sums were held; or why not.
  abbrev pub AssemblesBand : Band → ℕ → Result Picture Fault → Type 0
  AssemblesBand b held result =
      MakesShown (λ (p : Picture). p) (λ p. held) j (tile.means groups.tiles.now) (sum.means groups.sums.now) (λ p. crop p b.rect)
      (sides_of b.rect)
      (IsBandFault (tile.means groups.tiles.now) (tile.failed groups.tiles.now) (sum.means groups.sums.now) (sum.failed groups.sums.now)
      j.plan b.items.items)
      result

  -- The job's image was assembled, and so many samples and sums were held; or why not.
  abbrev pub Assembles : ℕ → Result Picture Fault → Type 0
  Assembles held result =
      MakesShown (λ (p : Picture). p) (λ p. held) j (tile.means groups.tiles.now) (sum.means groups.sums.now) (λ p. p)
      (turned_dim j.resolved.turn j.resolved.size)
      (IsPlanFault (tile.means groups.tiles.now) (tile.failed groups.tiles.now) (sum.means groups.sums.now) (sum.failed groups.sums.now)
      j.plan)
      result
