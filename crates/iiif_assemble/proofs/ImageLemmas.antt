-- A band of an image, of its part of the scaled result.
use Rattle.std.proofs.Common.{◌≡◌, ℕ, zero, suc, ◌<◌, ◌↔◌, List, Bool, true, false, refl, sym, ap, subst, ◌∙◌, arith}
use Rattle.std.specs.Prelude.{if◌then◌else◌}
use Rattle.iiif_pixel.specs.Geometry.{channels_of, sides_of, top_of, HasPlace, LiesIn}
use Rattle.iiif_pixel.specs.Picture.{Picture, IsWhole, dim_of, picture_of}
use Rattle.iiif_pixel.specs.Operations.{crop, mirrored, turned_by, turned_width, turned_height, turn, quality}
use Rattle.iiif_pixel.specs.Scaling.{scale, whole_of}
use Rattle.iiif_pixel.specs.Laws.{AllRows, CropIsWhole, QualityIsWhole, QualityOfCrop, ScaleIsWhole, TurnIsWhole}
use Rattle.iiif_pixel.specs.declared.geometry.Quality.{Quality}
use Rattle.iiif_pixel.specs.declared.geometry.Quality.TheVariants as q
use Rattle.iiif_pixel.specs.TurnPlaces.{turned_dim, turned_place, TurnsInto}
use Rattle.iiif_pixel.specs.declared.geometry.Dim.{Dim}
use Rattle.iiif_pixel.specs.declared.geometry.Rect.{Rect}
use Rattle.iiif_pixel.specs.declared.geometry.Turn.{Turn}
use Rattle.iiif_canonical.specs.Images.{resolved_image}
use Rattle.iiif_canonical.specs.declared.resolved.Resolved.{Resolved}
use Rattle.iiif_planner.specs.declared.plans.Plan.{Plan}
use Rattle.iiif_planner.specs.declared.plans.Plan.TheVariants.{Copy, Grow, Sum}
use Rattle.iiif_planner.specs.Bands.{block_places, grown_places, tile_places, ListsItems, ListsThose, ReachesInto}
use Rattle.iiif_keys.specs.Names.{named, IsSource, Pictures}
use Rattle.iiif_keys.specs.Shapes.{HasPicture}
use Rattle.iiif_keys.specs.declared.keys.Shape.{Shape}
use Rattle.iiif_keys.proofs.Shaped.{depth_with_top, kind_with_channels}
use Rattle.iiif_assemble.specs.Code.{IsPictureOf, ListsMet, ListsMetItems}
use Rattle.iiif_assemble.specs.Jobs.{channels_in, top_in}
use Rattle.iiif_assemble.specs.declared.job.Job.{Job}

turned_by_sides : (n : ℕ) (p : Picture) → n < 4 →
    (dim_of (turned_by n p) ≡ record { w = turned_width n p.width p.height; h = turned_height n p.width p.height })
    × ((turned_by n p).channels ≡ p.channels)
turned_by_sides zero p few = (refl, refl)
turned_by_sides (suc zero) p few = (refl, refl)
turned_by_sides (suc (suc zero)) p few = (refl, refl)
turned_by_sides (suc (suc (suc zero))) p few = (refl, refl)
turned_by_sides (suc (suc (suc (suc n)))) p few = absurd (omega (arith, few))

prepared_sides : (n : ℕ) (m : Bool) (p : Picture) → n < 4 →
    (dim_of (turned_by n (if m then mirrored p else p)) ≡ record
    { w = turned_width n p.width p.height; h = turned_height n p.width p.height })
    × ((turned_by n (if m then mirrored p else p)).channels ≡ p.channels)
prepared_sides n true p few = turned_by_sides n (mirrored p) few
prepared_sides n false p few = turned_by_sides n p few

-- the part of the scaled result, turned and in its quality, is the band
pub band_image : (p : Picture) (r : Resolved) (from rect : Rect) (scaled turned image : Picture) → TurnsInto r.turn r.size from rect →
    QualityOfCrop →
    r.turn.quarters < 4 → 0 < p.channels → LiesIn rect (turned_dim r.turn r.size) → scaled ≡ crop (scale (crop p r.rect) r.size) from →
    turned ≡ turn scaled r.turn → image ≡ quality turned r.quality → image ≡ crop (resolved_image p r) rect
unfolding resolved_image
band_image p r from rect scaled turned image turns of_crop few some lies is by in_quality =
    let s = scale (crop p r.rect) r.size in
    let sides = prepared_sides r.turn.quarters r.turn.mirror s few in
    let there : turned ≡ crop (turn s r.turn) rect = by ∙ ap (λ (u : Picture). turn u r.turn) is ∙ turns s refl refl in
    let channels : 0 < (turn s r.turn).channels = subst (λ (n : ℕ). 0 < n) (sym sides.1) some in
    let inside : LiesIn rect (dim_of (turn s r.turn)) = subst (λ (d : Dim). LiesIn rect d) (sym sides.0) lies in
    in_quality ∙ ap (λ (u : Picture). quality u r.quality) there ∙ of_crop (turn s r.turn) rect r.quality channels inside

met_from : {K : Type 0} (t : Turn) (d : Dim) (places : K → Rect) (from rect : Rect) (keys : List K) (items : List ℕ) → LiesIn from d →
    ((x y : ℕ) → x < d.w → y < d.h → HasPlace from x y ↔ HasPlace rect (turned_place t d x y).0 (turned_place t d x y).1) →
    ListsThose (λ k. ReachesInto t d (places k) rect) keys items → ListsMet places from keys items
met_from {K} t d places from rect keys items lies same lists = (
  lists.0,
  λ k x y here there.
      let a : x < d.w = let l = lies.columns in omega arith in
      let b : y < d.h = let l = lies.rows in omega arith in
      (lists.1 k).1 (x, y, a, b, here, (same x y a b).0 there),
  lists.2,
)

-- the items of a band are those of the part that is turned into it
pub items_met : (r : Resolved) (plan : Plan) (from rect : Rect) (items : List ℕ) → LiesIn from r.size →
    ((x y : ℕ) → x < r.size.w → y < r.size.h →
    HasPlace from x y ↔ HasPlace rect (turned_place r.turn r.size x y).0 (turned_place r.turn r.size x y).1) →
    ListsItems r plan rect items → ListsMetItems r from plan items
items_met r (Copy keys) from rect items lies same lists =
    met_from r.turn r.size (tile_places r.rect) from rect keys.items items lies same lists
items_met r (Grow keys) from rect items lies same lists =
    met_from r.turn r.size (grown_places r.rect r.size) from rect keys.items items lies same lists
items_met r (Sum keys) from rect items lies same lists = met_from r.turn r.size block_places from rect keys.items items lies same lists

pub quality_sides : (p : Picture) (to : Quality) → dim_of (quality p to) ≡ dim_of p
quality_sides p q.Default = refl
quality_sides p q.Color = refl
quality_sides p q.Gray = refl
quality_sides p q.Bitonal = refl

-- the sides of the image that a request comes to
pub resolved_sides : (p : Picture) (r : Resolved) → r.turn.quarters < 4 → dim_of (resolved_image p r) ≡ turned_dim r.turn r.size
unfolding resolved_image
resolved_sides p r few =
    let s = scale (crop p r.rect) r.size in
    quality_sides (turn s r.turn) r.quality ∙ (prepared_sides r.turn.quarters r.turn.mirror s few).0

-- the band of all rows is the image
pub all_rows : AllRows → CropIsWhole → ScaleIsWhole → TurnIsWhole → QualityIsWhole → (p : Picture) (r : Resolved) (rect : Rect) →
    IsWhole p → r.turn.quarters < 4 →
    rect ≡ whole_of (turned_dim r.turn r.size) → crop (resolved_image p r) rect ≡ resolved_image p r
unfolding resolved_image
all_rows law crops scales turns qualities p r rect whole few is =
    let s = scale (crop p r.rect) r.size in
    let image = quality (turn s r.turn) r.quality in
    let w : IsWhole image = qualities (turn s r.turn) r.quality (turns s r.turn (scales (crop p r.rect) r.size (crops p r.rect whole))) in
    let same : dim_of image ≡ turned_dim r.turn r.size = resolved_sides p r few in
    ap (crop image) (is ∙ ap whole_of (sym same)) ∙ law image w

pub quality_channels : (p : Picture) (to : Quality) → (quality p to).channels ≡ channels_in to p.channels
quality_channels p q.Default = refl
quality_channels p q.Color = refl
quality_channels p q.Gray = refl
quality_channels p q.Bitonal = refl

pub turned_channels : (t : Turn) (p : Picture) → t.quarters < 4 → (turn p t).channels ≡ p.channels
turned_channels t p few = (prepared_sides t.quarters t.mirror p few).1

turned_by_top : (n : ℕ) (p : Picture) → (turned_by n p).top ≡ p.top
turned_by_top zero p = refl
turned_by_top (suc n) p = turned_by_top n p

prepared_top : (n : ℕ) (m : Bool) (p : Picture) → (turned_by n (if m then mirrored p else p)).top ≡ p.top
prepared_top n true p = turned_by_top n (mirrored p)
prepared_top n false p = turned_by_top n p

quality_top : (p : Picture) (to : Quality) → (quality p to).top ≡ top_in to p.top
quality_top p q.Default = refl
quality_top p q.Color = refl
quality_top p q.Gray = refl
quality_top p q.Bitonal = refl

-- a part, turned and in its quality, has the greatest sample of that quality
pub image_top : (scaled turned image : Picture) (t : Turn) (to : Quality) (top : ℕ) → scaled.top ≡ top → turned ≡ turn scaled t →
    image ≡ quality turned to → image.top ≡ top_in to top
image_top scaled turned image t to top is by in_quality =
    ap (λ (p : Picture). p.top) in_quality ∙ quality_top turned to
    ∙ ap (top_in to) (ap (λ (p : Picture). p.top) by ∙ prepared_top t.quarters t.mirror scaled ∙ is)

-- a part that is turned into a rectangle has its sides then
pub band_sides : (t : Turn) (d : Dim) (from rect : Rect) (p : Picture) → TurnsInto t d from rect → t.quarters < 4 →
    dim_of p ≡ sides_of from → dim_of (turn p t) ≡ sides_of rect
band_sides t d from rect p turns few sides =
    let blank : Picture = picture_of d.w d.h 1 255 (λ x y k. 0) in
    let same : turn (crop blank from) t ≡ crop (turn blank t) rect = turns blank refl refl in
    (prepared_sides t.quarters t.mirror p few).0
    ∙ ap (turned_dim t) sides
    ∙ sym (prepared_sides t.quarters t.mirror (crop blank from) few).0
    ∙ ap dim_of same

-- the picture that a job's name has
pub picture_shown : (shows : Pictures) (j : Job) → HasPicture shows j.name j.shape → IsSource (named shows j.name) →
    IsPictureOf shows j (named shows j.name)
picture_shown shows j has source =
    let p = named shows j.name in
    record {
      known = has.known;
      whole = source.whole;
      sides = ap (λ (s : Shape). s.dim) has.shape;
      samples_a_place = sym (kind_with_channels p.channels source.whole.channels) ∙ ap (λ (s : Shape). channels_of s.kind) has.shape;
      depth = sym (depth_with_top p.top source.whole.top) ∙ ap (λ (s : Shape). top_of s.depth) has.shape;
    }
