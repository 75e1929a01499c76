-- What a request comes to, from what the calls answered.
use Rattle.std.proofs.Common.{◌≡◌, ℕ, ◌*◌, ◌<◌, ◌≤◌, ◌^◌, ◌%◌, ◌⊎◌, List, All, refl, sym, subst, ap, ◌∙◌, arith, None, Result, Ok, Err}
use Rattle.std.specs.Prelude.{◌==◌}
use Rattle.std.proofs.Math.Nat.{mul-le-mul}
use Rattle.iiif_pixel.specs.Geometry.{channels_of, top_of}
use Rattle.iiif_pixel.specs.Picture.{Picture, IsWhole, dim_of, picture_of, sample_at}
use Rattle.iiif_pixel.proofs.SampleLists.{sample_at-picture_of}
use Rattle.iiif_pixel.proofs.Whole.{sample_at-le, whole_picture_of, chosen_le}
use Rattle.iiif_pixel.specs.TurnPlaces.{turned_dim}
use Rattle.iiif_pixel.specs.declared.geometry.Dim.{Dim}
use Rattle.iiif_pixel.specs.declared.geometry.Rect.{Rect}
use Rattle.iiif_pixel.specs.declared.geometry.Turn.{Turn}
use Rattle.iiif_pixel.specs.declared.geometry.Depth.{Depth}
use Rattle.iiif_pixel.specs.declared.geometry.Depth.TheVariants as depths
use Rattle.iiif_pixel.specs.declared.geometry.Kind.{Kind}
use Rattle.iiif_pixel.specs.declared.geometry.Kind.TheVariants as kinds
use Rattle.iiif_pixel.specs.declared.geometry.Quality.{Quality}
use Rattle.iiif_pixel.specs.declared.geometry.Quality.TheVariants as q
use Rattle.iiif_tiff.specs.Tiff.{IsReadable, Scheme, Shows, ShowsOnePicture, width, height, channels, bits, scheme, shown, refusal_of}
use Rattle.iiif_tiff.specs.Tiff.{white_of}
use Rattle.iiif_tiff_write.specs.File.{file_len}
use Rattle.iiif_tiff_write.specs.Laws.{ResultsFit}
use Rattle.iiif_tiff_write.specs.OutKind as out
use Rattle.iiif_tiff_write.specs.OutKind.{out_depth, out_kind_of, samples_per_pixel}
use Rattle.iiif_tiff_write.specs.declared.kind.OutKind.{OutKind}
use Rattle.iiif_request.specs.Spells.{Texts, Says}
use Rattle.iiif_request.specs.declared.request.Request.{Request}
use Rattle.iiif_request.specs.declared.request.Refusal.{Refusal}
use Rattle.iiif_canonical.specs.Images as images
use Rattle.iiif_canonical.specs.Images.{image_from}
use Rattle.iiif_canonical.specs.Regions.{region_of}
use Rattle.iiif_canonical.specs.Sizes.{size_of}
use Rattle.iiif_canonical.specs.Resolution.{◌>>=◌, plain_quality, resolved_of, turn_of, IsResolved}
use Rattle.iiif_canonical.specs.declared.resolved.Limits.{Limits}
use Rattle.iiif_canonical.specs.declared.resolved.Resolved.{Resolved}
use Rattle.iiif_area.specs.Places.{IsScalable}
use Rattle.iiif_pixel.specs.Geometry.{LiesIn, sides_of}
use Rattle.iiif_answers.specs.Answers.{IsPictureOf}
use Rattle.iiif_tile_group.specs.Collection.{Item}
use Rattle.iiif_tile_group.specs.Named.{picture_in}
use Rattle.iiif_assemble.specs.Jobs.{channels_in, top_in}
use Rattle.iiif_answers.specs.Kinds.{depth_of, kind_of}
use Rattle.iiif_canonical.specs.Canonical.{canonical, canonical_of}
use Rattle.iiif_canonical.specs.Texts.{CanBeSpelled}
use Rattle.iiif_answers.specs.Outcomes.{Accepts, Comes, IsRefused, no_image}
use Rattle.iiif_answers.specs.declared.accepted.Accepted.{Accepted}

-- three channels are those of RGB
kind_is : (p : Picture) (k : Kind) → p.channels ≡ channels_of k → kind_of p ≡ k
kind_is p kinds.Gray e = rw e refl
kind_is p kinds.Rgb e = rw e refl

-- samples up to 255 have 8 bits
depth_is : (p : Picture) (d : Depth) → p.top ≡ top_of d → depth_of p ≡ d
depth_is p depths.Eight e = rw e refl
depth_is p depths.Sixteen e = rw e refl

canonical_found : (x : Request) (d : Dim) (k : Kind) (l : Limits) (r : Resolved) → Ok r ≡ resolved_of x d k l →
    canonical x d k l ≡ Ok (canonical_of r d l)
unfolding canonical
canonical_found x d k l r e = ap (λ (a : Result Resolved Refusal). a >>= (λ (b : Resolved). Ok (canonical_of b d l))) (sym e)

-- a file of that layout has this picture, its samples as those bytes have them
pub pictured : List ℕ → Scheme → Picture
pictured bytes layout = picture_of layout.width layout.height layout.channels (white_of layout.bits) (shown bytes layout)

-- Where the bytes show a picture, no sample is above white.
shown_le : (bytes : List ℕ) (p : Picture) → Shows bytes p → (x y k : ℕ) → x < width bytes → y < height bytes → k < channels bytes
    → shown bytes (scheme bytes) x y k ≤ white_of (bits bytes)
shown_le bytes p shows x y k lx ly lk =
    let at : sample_at p x y k ≡ shown bytes (scheme bytes) x y k =
    shows.places x y k (rw (shows.width_is) lx) (rw (shows.height_is) ly) (rw (shows.channels_is) lk) in
    let below : sample_at p x y k ≤ p.top = sample_at-le p shows.whole x y k in
    subst (λ n. shown bytes (scheme bytes) x y k ≤ n) shows.top_is (subst (λ n. n ≤ p.top) at below)

one_or_three : (p : Picture) (n : ℕ) → p.channels ≡ n → IsWhole p → (n ≡ 1) ⊎ (n ≡ 3)
one_or_three p n same whole = subst (λ (m : ℕ). (m ≡ 1) ⊎ (m ≡ 3)) same whole.channels

-- the bytes show it where one picture is shown
pictured_shows : (bytes : List ℕ) → ShowsOnePicture bytes → Shows bytes (pictured bytes (scheme bytes))
unfolding pictured
pictured_shows bytes one =
    let f = shown bytes (scheme bytes) in
    record {
      width_is = refl;
      height_is = refl;
      channels_is = refl;
      top_is = refl;
      whole = whole_picture_of (width bytes) (height bytes) (channels bytes) (white_of (bits bytes)) f
          (one_or_three one.0 (channels bytes) one.1.channels_is one.1.whole)
          (subst (λ n. (n ≡ 255) ⊎ (n ≡ 65535)) one.1.top_is one.1.whole.top)
          (λ x y k lx ly lk. shown_le bytes one.0 one.1 x y k lx ly lk);
      places = λ x y k lx ly lk. sample_at-picture_of (width bytes) (height bytes) (channels bytes) (white_of (bits bytes)) f x y k lx ly
          lk;
    }

-- what is known of an item's file: where its source keeps its bytes, no check refuses them, and the layout is theirs
pub record IsOpened {S : Type 0} (bytes : S → List ℕ) (keeps : S → Type 0) (item : Item S) : Type 0 where
  pub one : (b : List ℕ) → All (λ x. x ≤ 255) b → refusal_of b ≡ None → ShowsOnePicture b
  pub small : All (λ x. x ≤ 255) (bytes item.source)
  pub accepted : keeps item.source → refusal_of (bytes item.source) ≡ None
  pub same : keeps item.source → item.layout ≡ scheme (bytes item.source)

-- so it has a picture
pub pictured_item : {S : Type 0} (bytes : S → List ℕ) (keeps : S → Type 0) (item : Item S) → IsOpened bytes keeps item
    → IsPictureOf bytes keeps item (pictured (bytes item.source) item.layout)
unfolding pictured
pictured_item bytes keeps item opened = record {
  sides = refl;
  channels = refl;
  top = refl;
  shows = λ kept. subst (λ (l : Scheme). Shows (bytes item.source) (pictured (bytes item.source) l)) (sym (opened.same kept))
      (pictured_shows (bytes item.source) (opened.one (bytes item.source) opened.small (opened.accepted kept)));
}

-- which is the one that the bytes show, where they are kept
pub picture_same : {S : Type 0} (bytes : S → List ℕ) (keeps : S → Type 0) (item : Item S) → IsOpened bytes keeps item → (p : Picture) →
    keeps item.source →
    IsPictureOf bytes keeps item p → picture_in bytes item ≡ p
unfolding pictured picture_in
picture_same bytes keeps item opened p kept is =
    let own = (pictured_item bytes keeps item opened).shows kept in
    let one = opened.one (bytes item.source) opened.small (opened.accepted kept) in
    one.2 (pictured (bytes item.source) item.layout) own ∙ sym (one.2 p (is.shows kept))

-- a picture of an item, with the sides, the channels and the depth that its layout says
pub item_picture : {S : Type 0} (bytes : S → List ℕ) (keeps : S → Type 0) (item : Item S) (dim : Dim) → IsOpened bytes keeps item
    → dim.w ≡ item.layout.width → dim.h ≡ item.layout.height
    → (p : Picture) × IsPictureOf bytes keeps item p × (dim_of p ≡ dim) × (p.channels ≡ item.layout.channels) ×
    (p.top ≡ white_of item.layout.bits)
item_picture bytes keeps item dim opened w h =
    let p : Picture = pictured (bytes item.source) item.layout in
    let is = pictured_item bytes keeps item opened in
    let sides : dim_of p ≡ dim = is.sides ∙ rw (w, h) refl in
    (p, is, sides, is.channels, is.top)

-- what a request comes to for an item's picture
pub comes : {S : Type 0} (bytes : S → List ℕ) (keeps : S → Type 0) (item : Item S) (limits : Limits) (w : Texts) (r c : Request) (dim : Dim)
    (k : Kind) (d : Depth) (resolved : Resolved)
    (kind : OutKind) → IsOpened bytes keeps item → Says w (Ok r) → dim.w ≡ item.layout.width → dim.h ≡ item.layout.height →
    channels_of k ≡ item.layout.channels
    → top_of d ≡ white_of item.layout.bits
    → ((p : Picture) → dim_of p ≡ dim → p.channels ≡ channels_of k → images.image p r limits ≡ image_from p (Ok resolved))
    → Ok resolved ≡ resolved_of r dim k limits → c ≡ canonical_of resolved dim limits → CanBeSpelled c → kind ≡ out_kind_of k d r.quality
    → Comes bytes keeps item limits w (record { resolved = resolved; canonical = c; kind = kind })
comes bytes keeps item limits w r c dim k d resolved kind opened says width height channels top image resolves is_canonical spelled is_kind
    =
    let found = item_picture bytes keeps item dim opened width height in
    let p = found.0 in
    let count : p.channels ≡ channels_of k = found.3 ∙ sym channels in
    let of_depth : depth_of p ≡ d = depth_is p d (found.4 ∙ sym top) in
    let of_kind : kind_of p ≡ k = kind_is p k count in
    let first : canonical r (dim_of p) (kind_of p) limits ≡ canonical r dim k limits =
    ap (λ (d : Dim). canonical r d (kind_of p) limits) found.2 ∙ ap (λ (x : Kind). canonical r dim x limits) of_kind in
    record {
      request = r;
      picture = p;
      is_picture = found.1;
      says = says;
      is_image = image p found.2 count;
      is_canonical = first ∙ canonical_found r dim k limits resolved resolves ∙ ap Ok (sym is_canonical);
      spelled = spelled;
      is_kind = is_kind ∙ ap (λ (x : Kind). out_kind_of x d r.quality) (sym of_kind) ∙
          ap (λ (x : Depth). out_kind_of (kind_of p) x r.quality) (sym of_depth);
    }

pub refused_comes : {S : Type 0} (bytes : S → List ℕ) (keeps : S → Type 0) (item : Item S) (limits : Limits) (w : Texts) (r : Request)
    (dim : Dim) (k : Kind) (e : Refusal)
    → IsOpened bytes keeps item → Says w (Ok r) → dim.w ≡ item.layout.width → dim.h ≡ item.layout.height →
    channels_of k ≡ item.layout.channels
    → ((p : Picture) → dim_of p ≡ dim → p.channels ≡ channels_of k → images.image p r limits ≡ image_from p (Err e))
    → IsRefused bytes keeps item limits w e
refused_comes bytes keeps item limits w r dim k e opened says width height channels image =
    let found = item_picture bytes keeps item dim opened width height in
    no_image r found.0 found.1 says (image found.0 found.2 (found.3 ∙ sym channels))

kind_channels : (k : Kind) (d : Depth) → channels_of k ≡ samples_per_pixel (out.kind_of k d)
kind_channels kinds.Gray depths.Eight = refl
kind_channels kinds.Gray depths.Sixteen = refl
kind_channels kinds.Rgb depths.Eight = refl
kind_channels kinds.Rgb depths.Sixteen = refl

kind_top : (k : Kind) (d : Depth) → top_of d ≡ top_of (out_depth (out.kind_of k d))
kind_top kinds.Gray depths.Eight = refl
kind_top kinds.Gray depths.Sixteen = refl
kind_top kinds.Rgb depths.Eight = refl
kind_top kinds.Rgb depths.Sixteen = refl

-- the channels of an image are those of its file
plain_channels : (k : Kind) (d : Depth) (to : Quality) →
    channels_in (plain_quality k to) (channels_of k) ≡ samples_per_pixel (out_kind_of k d to)
plain_channels kinds.Gray d q.Default = kind_channels kinds.Gray d
plain_channels kinds.Gray d q.Color = kind_channels kinds.Gray d
plain_channels kinds.Gray d q.Gray = kind_channels kinds.Gray d
plain_channels kinds.Gray d q.Bitonal = refl
plain_channels kinds.Rgb d q.Default = kind_channels kinds.Rgb d
plain_channels kinds.Rgb d q.Color = kind_channels kinds.Rgb d
plain_channels kinds.Rgb d q.Gray = kind_channels kinds.Gray d
plain_channels kinds.Rgb d q.Bitonal = refl

-- and so is its depth
plain_top : (k : Kind) (d : Depth) (to : Quality) → top_in (plain_quality k to) (top_of d) ≡ top_of (out_depth (out_kind_of k d to))
plain_top kinds.Gray d q.Default = kind_top kinds.Gray d
plain_top kinds.Gray d q.Color = kind_top kinds.Gray d
plain_top kinds.Gray d q.Gray = kind_top kinds.Gray d
plain_top kinds.Gray d q.Bitonal = refl
plain_top kinds.Rgb d q.Default = kind_top kinds.Rgb d
plain_top kinds.Rgb d q.Color = kind_top kinds.Rgb d
plain_top kinds.Rgb d q.Gray = kind_top kinds.Gray d
plain_top kinds.Rgb d q.Bitonal = refl

size_quality : (rect : Rect) (b : Result Dim Refusal) (t : Turn) (u : Quality) (r : Resolved)
    → (b >>= (λ size. Ok (record { rect = rect; size = size; turn = t; quality = u }))) ≡ Ok r → r.quality ≡ u
size_quality rect (Ok size) t u r e = let same : record { rect = rect; size = size; turn = t; quality = u } ≡ r = cc in
    ap (λ (x : Resolved). x.quality) (sym same)
size_quality rect (Err x) t u r e = cc

rect_quality : (a : Result Rect Refusal) (s : Rect → Result Dim Refusal) (t : Turn) (u : Quality) (r : Resolved)
    → (a >>= (λ rect. s rect >>= (λ size. Ok (record { rect = rect; size = size; turn = t; quality = u })))) ≡ Ok r → r.quality ≡ u
rect_quality (Ok rect) s t u r e = size_quality rect (s rect) t u r e
rect_quality (Err x) s t u r e = cc

pub quality_is : (x : Request) (d : Dim) (k : Kind) (l : Limits) (r : Resolved) → Ok r ≡ resolved_of x d k l →
    r.quality ≡ plain_quality k x.quality
unfolding resolved_of
quality_is x d k l r e = rect_quality (region_of x.region d) (λ rect. size_of x.size rect.w rect.h l) (turn_of x.rotation)
    (plain_quality k x.quality) r (sym e)

pub file_fits : ResultsFit → (kind : OutKind) (t : Turn) (size : Dim) (l : Limits)
    → (size.w ≤ l.max_w) × (size.h ≤ l.max_h) → l.max_w ≤ 16384 → l.max_h ≤ 16384 → file_len kind (turned_dim t size) < 2 ^ 32
file_fits law kind t size l within width height =
    let w : size.w ≤ 16384 = omega (arith, within.0, width) in
    let h : size.h ≤ 16384 = omega (arith, within.1, height) in
    law kind (turned_dim t size) (chosen_le (t.quarters % 2 == 0) size.w size.h 16384 w h)
    (chosen_le (t.quarters % 2 == 0) size.h size.w 16384 h w)

-- the channels of an image are those of its file
pub channels_fit : (k : Kind) (d : Depth) (to plain : Quality) (n : ℕ) (kind : OutKind) → plain ≡ plain_quality k to → channels_of k ≡ n →
    kind ≡ out_kind_of k d to
    → channels_in plain n ≡ samples_per_pixel kind
channels_fit k d to plain n kind e m of =
    ap (λ (u : Quality). channels_in u n) e ∙ ap (channels_in (plain_quality k to)) (sym m) ∙ plain_channels k d to ∙
    ap samples_per_pixel (sym of)

-- and so is its depth
pub top_fits : (k : Kind) (d : Depth) (to plain : Quality) (n : ℕ) (kind : OutKind) → plain ≡ plain_quality k to → top_of d ≡ n →
    kind ≡ out_kind_of k d to
    → top_in plain n ≡ top_of (out_depth kind)
top_fits k d to plain n kind e m of =
    ap (λ (u : Quality). top_in u n) e ∙ ap (top_in (plain_quality k to)) (sym m) ∙ plain_top k d to ∙
    ap (λ (x : OutKind). top_of (out_depth x)) (sym of)

pub lies_in_layout : (r : Rect) (d e : Dim) → d.w ≡ e.w → d.h ≡ e.h → LiesIn r d → LiesIn r e
lies_in_layout r d e w h lies = record {
  columns = omega (arith, lies.columns, w);
  rows = omega (arith, lies.rows, h);
}

area_within : (a b w h : ℕ) → a ≤ w → b ≤ h → w * h ≤ 2 ^ 32 → a * b ≤ 2 ^ 32
area_within a b w h columns rows area = omega (arith, mul-le-mul columns rows, area)

-- what a request comes to is small enough to be averaged
pub sizes_within : (r : Resolved) (d : Dim) (k : Kind) (l : Limits) → IsResolved d k l r → IsReadable d →
    IsScalable (sides_of r.rect) r.size
sizes_within r d k l resolved limits = record {
  columns = omega (arith, resolved.not_empty.0);
  rows = omega (arith, resolved.not_empty.1);
  area = area_within r.rect.w r.rect.h d.w d.h (omega (arith, resolved.inside.columns)) (omega (arith, resolved.inside.rows)) limits.area;
  result_columns = omega (arith, resolved.not_zero.0);
  result_rows = omega (arith, resolved.not_zero.1);
}

-- a refusal that is passed on
pub refused_exit : {S : Type 0} (bytes : S → List ℕ) (keeps : S → Type 0) (item : Item S) (limits : Limits) (w : Texts)
    (r : Result Accepted Refusal) (e f : Refusal)
    → r ≡ Err e → e ≡ f → IsRefused bytes keeps item limits w f → Accepts bytes keeps item limits w r
refused_exit bytes keeps item limits w r e f is same refused = rw (is, same) refused
