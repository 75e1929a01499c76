-- What is sent of an image that is a tile as it stands.
use Rattle.std.proofs.Common.{◌≡◌, ℕ, ◌+◌, ◌-◌, ◌*◌, ◌<◌, min, List, ◌++◌, length, inl, inr, ap, ◌∙◌, arith, append_assoc, Option}
use Rattle.std.proofs.Common.{◌^◌, ◌≤◌, ◌⊎◌, ⊎_elim, length-append, refl, subst, sym}
use Rattle.std.proofs.Math.Nat.{mul-le-mul_right}
use Rattle.iiif_pixel.specs.Geometry.{channels_of}
use Rattle.iiif_pixel.specs.Picture.{Picture, dim_of}
use Rattle.iiif_pixel.specs.declared.geometry.Dim.{Dim}
use Rattle.iiif_pixel.specs.declared.geometry.Quality.{Quality}
use Rattle.iiif_pixel.specs.declared.geometry.Quality.TheVariants as quality
use Rattle.iiif_pixel.specs.declared.geometry.Rect.{Rect}
use Rattle.iiif_keys.specs.Names.{named, IsSource, Pictures}
use Rattle.iiif_keys.specs.Shapes.{HasPicture}
use Rattle.iiif_keys.specs.declared.fault.Fault.{Fault}
use Rattle.iiif_keys.specs.declared.keys.SumKey.{SumKey}
use Rattle.iiif_keys.specs.declared.keys.TileKey.{TileKey}
use Rattle.iiif_keys.specs.declared.values.SumVal.{SumVal}
use Rattle.iiif_keys.specs.declared.values.TileVal.{TileVal}
use Rattle.iiif_planner.specs.declared.plans.Plan.{Plan}
use Rattle.iiif_planner.specs.declared.plans.Plan.TheVariants.{Copy, Grow, Sum}
use Rattle.iiif_planner.specs.Bands.{band_rect}
use Rattle.iiif_planner.specs.declared.banding.Band.{Band}
use Rattle.iiif_assemble.specs.Faults.{IsBandFault}
use Rattle.iiif_assemble.specs.Jobs.{channels_in}
use Rattle.iiif_assemble.specs.Lone.{IsTileImage, IsTilesFault}
use Rattle.iiif_assemble.specs.declared.job.Job.{Job}
use Rattle.iiif_tiff_write.specs.File.{file, head_of, strip}
use Rattle.iiif_tiff_write.specs.OutKind.{samples_per_pixel}
use Rattle.iiif_tiff_write.specs.declared.kind.OutKind.{OutKind}
use Rattle.iiif_delivery.specs.Code.{IsSendingOf, Laws, TileStops}
use Rattle.iiif_delivery.specs.Delivery.{band_from, front_len, result_dim, FailsFor, IsBufferedIn, IsHeldInBands, IsImageFor, Stops}
use Rattle.iiif_delivery.specs.declared.delivery.Delivered.{Delivered}
use Rattle.iiif_delivery.specs.declared.delivery.Stopped.{Stopped}
use Rattle.iiif_delivery.specs.declared.delivery.Stopped.TheVariants.{Writer, Load}
use Rattle.iiif_delivery.specs.declared.sending.Sending.{Sending}
use Rattle.iiif_delivery.proofs.StepLemmas.{none_sent}

-- the tile's picture is an image for the job
pub image_for : (shows : Pictures) (j : Job) (tile_means : TileKey → TileVal → Type 0) (sum_means : SumKey → SumVal → Type 0)
    (image : Picture) → HasPicture shows j.name j.shape →
    IsSource (named shows j.name) → IsTileImage j tile_means image → IsImageFor shows j tile_means sum_means image
image_for shows j tile_means sum_means image has source is =
    record { sides = is.sides; channels = is.channels; top = is.top; same = λ shown. is.same shows has source shown.tiles }

-- a text, the head of a file, and its rows
pub file_in_parts : (start : List ℕ) (kind : OutKind) (image : Picture) (d : Dim) (text rows : List ℕ) → text ≡ start ++ head_of kind d →
    rows ≡ strip kind image → d ≡ dim_of image →
    text ++ rows ≡ start ++ file image kind
file_in_parts start kind image d text rows is same sides =
    let head = head_of kind d in
    ap (λ t. t ++ rows) is
    ∙ append_assoc start head rows
    ∙ ap (λ t. start ++ (head ++ t)) same
    ∙ ap (λ (e : Dim). start ++ (head_of kind e ++ strip kind image)) sides

-- so much of it as was written before it stopped
pub tile_stopped : {W : Type 0} (laws : Laws) (contents : W → Option (List ℕ)) (fails : W → W → Type 0) (j : Job)
    (tile_means : TileKey → TileVal → Type 0) (tile_failed : TileKey → Fault → Type 0)
    (sum_means : SumKey → SumVal → Type 0) (kind : OutKind) (rows : ℕ) (start : List ℕ) (old new : W) (s : Stopped) →
    j.resolved.turn.quarters < 4 →
    channels_in j.resolved.quality (channels_of j.shape.kind) ≡ samples_per_pixel kind →
    TileStops contents fails j tile_means tile_failed kind rows start old new s →
    (shows : Pictures) → HasPicture shows j.name j.shape → IsSource (named shows j.name) →
    (image : Picture) × IsImageFor shows j tile_means sum_means image ×
    Stops contents fails old new (length (start ++ head_of kind (result_dim j))) (start ++ file image kind) s
tile_stopped laws contents fails j tile_means tile_failed sum_means kind rows start old new (Writer n) few fits stops shows has source =
    (stops.0, image_for shows j tile_means sum_means stops.0 has source stops.1, stops.2)
tile_stopped laws contents fails j tile_means tile_failed sum_means kind rows start old new (Load n f) few fits stops shows has source =
    rw (stops.0, stops.1) (none_sent laws j tile_means sum_means kind start few fits (contents old) shows has source)

-- why a text with a tile's file wasn't sent whole is why the image wasn't
pub raster_stops : {W : Type 0} (contents : W → Option (List ℕ)) (fails : W → W → Type 0) (j : Job) (means : TileKey → TileVal → Type 0)
    (failed : TileKey → Fault → Type 0) (kind : OutKind) (rows : ℕ) (start : List ℕ) (image : Picture) (old new : W) (s : Stopped) →
    IsTileImage j means image → IsSendingOf contents fails (start ++ file image kind) old new s →
    TileStops contents fails j means failed kind rows start old new s
raster_stops contents fails j means failed kind rows start image old new (Writer n) is cut = (image, is, cut)
raster_stops contents fails j means failed kind rows start image old new (Load n f) is none = (none.0, none.1, inl none.2)

-- a fault of a plan's tiles is one of its band
pub tiles_fault : (tile_means : TileKey → TileVal → Type 0) (tile_failed : TileKey → Fault → Type 0) (sum_means : SumKey → SumVal → Type 0)
    (sum_failed : SumKey → Fault → Type 0)
    (plan : Plan) (b : Band) (f : Fault) → IsTilesFault tile_means tile_failed plan b f →
    IsBandFault tile_means tile_failed sum_means sum_failed plan b.items.items f
tiles_fault tile_means tile_failed sum_means sum_failed (Copy keys) b f h = h
tiles_fault tile_means tile_failed sum_means sum_failed (Grow keys) b f h = h
tiles_fault tile_means tile_failed sum_means sum_failed (Sum keys) b f h = inl h

first_rect : (d : Dim) (rows : ℕ) → band_rect d rows 0 ≡ band_from d rows 0
first_rect d rows =
    let none : 0 * rows ≡ 0 = omega arith in
    ap (λ y. let r : Rect = record { x = 0; y = y; w = d.w; h = min rows (d.h - y) } in r) none

-- and why
pub tile_fails : {W : Type 0} (contents : W → Option (List ℕ)) (fails : W → W → Type 0) (j : Job) (tile_means : TileKey → TileVal → Type 0)
    (tile_failed : TileKey → Fault → Type 0)
    (sum_means : SumKey → SumVal → Type 0) (sum_failed : SumKey → Fault → Type 0) (kind : OutKind) (rows front : ℕ) (start : List ℕ)
    (old new : W) (s : Stopped) →
    TileStops contents fails j tile_means tile_failed kind rows start old new s →
    FailsFor j tile_means tile_failed sum_means sum_failed kind rows front s
tile_fails contents fails j tile_means tile_failed sum_means sum_failed kind rows front start old new (Writer n) stops = tt
tile_fails contents fails j tile_means tile_failed sum_means sum_failed kind rows front start old new (Load n f) stops = (
  0,
  stops.0,
  elim stops.2 [
    | inl none ↦ inl none
    | inr first ↦
        let b = first.0 in
        inr (
          b,
          first.1 ∙ first_rect (result_dim j) rows,
          first.2,
          tiles_fault tile_means tile_failed sum_means sum_failed j.plan b f first.3,
        )
  ],
)

-- what is held of a picture that is lent counts as its first band
pub held_itself : (d : Dim) (rows channels held : ℕ) → held ≡ min rows d.h * d.w * channels → IsHeldInBands d rows channels held
held_itself d rows channels held is = record { band = omega (arith, is); twice = omega (arith, is) }

-- how many samples a tile has that is an image as it stands
pub all_samples : (p : Picture) (d : Dim) (n : ℕ) (q : Quality) (count : ℕ) → count ≡ p.width * p.height * p.channels → dim_of p ≡ d →
    p.channels ≡ channels_in q n → (q ≡ quality.Default) ⊎ (q ≡ quality.Color) → count ≡ d.w * d.h * n
all_samples p d n q count is sides channels keeps =
    let same : channels_in q n ≡ n = ⊎_elim
    (λ (e : q ≡ quality.Default). subst (λ (r : Quality). channels_in r n ≡ n) (sym e) refl)
    (λ (e : q ≡ quality.Color). subst (λ (r : Quality). channels_in r n ≡ n) (sym e) refl) keeps in
    is ∙ ap (λ (e : Dim). e.w * e.h * p.channels) sides ∙ ap (λ (m : ℕ). d.w * d.h * m) (channels ∙ same)

-- a band of it has no more
pub held_fits : (rows : ℕ) (d : Dim) (n a b c count : ℕ) → a ≡ min rows d.h → b ≡ d.w → c ≡ n → count ≡ d.w * d.h * n → count < 2 ^ 63 →
    a * b * c < 2 ^ 64
held_fits rows d n a b c count high wide samples is small =
    let narrow : min rows d.h * (d.w * n) ≤ d.h * (d.w * n) = mul-le-mul_right (d.w * n) (omega arith) in
    let all : d.w * d.h * n ≡ d.h * (d.w * n) = omega arith in
    let own : min rows d.h * d.w * n ≡ min rows d.h * (d.w * n) = omega arith in
    let here : a * b * c ≡ min rows d.h * d.w * n = rw (high, wide, samples) refl in
    omega (arith, here, own, narrow, all, is, small)

-- and what is buffered of it is what stands before its rows
pub buffered_itself : (s : Sending) (d : Delivered) (a b : ℕ) → d.buffered ≡ a + b → a ≡ length s.start.now →
    b ≡ length (head_of s.kind (result_dim s.job.now)) → IsBufferedIn s d
buffered_itself s d a b sum start head =
    let front : front_len s ≡ length s.start.now + length (head_of s.kind (result_dim s.job.now)) =
    length-append s.start.now (head_of s.kind (result_dim s.job.now)) in
    record { front = omega (arith, sum, start, head, front); bounded = omega (arith, sum, start, head, front) }
