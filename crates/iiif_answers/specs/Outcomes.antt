-- What a target comes to before anything is loaded or sent.
use Rattle.std.specs.Prelude.{◌≡◌, ℕ, ◌<◌, ◌^◌, Bool, IsTrue, List, Some, Result, Ok, Err}
use Rattle.iiif_area.specs.Places.{IsScalable}
use Rattle.iiif_pixel.specs.Geometry.{LiesIn, sides_of, top_of}
use Rattle.iiif_pixel.specs.Picture.{Picture, dim_of}
use Rattle.iiif_pixel.specs.TurnPlaces.{turned_dim}
use Rattle.iiif_tiff.specs.Tiff.{Scheme, white_of}
use Rattle.iiif_tiff_read.specs.Layouts as layouts
use Rattle.iiif_tiff_write.specs.File.{file_len}
use Rattle.iiif_tiff_write.specs.OutKind.{out_depth, out_kind_of, samples_per_pixel}
use Rattle.iiif_request.specs.Requests.{HasShortDecimals}
use Rattle.iiif_request.specs.Spells.{Texts, Says}
use Rattle.iiif_request.specs.declared.request.Request.{Request}
use Rattle.iiif_request.specs.declared.request.Refusal.{Refusal}
use Rattle.iiif_canonical.specs.Images as images
use Rattle.iiif_canonical.specs.Images.{resolved_image}
use Rattle.iiif_canonical.specs.Canonical.{canonical}
use Rattle.iiif_canonical.specs.Texts.{CanBeSpelled}
use Rattle.iiif_canonical.specs.declared.resolved.Limits.{Limits}
use Rattle.iiif_answers.specs.Answers.{Reply, Given, refused, redirect, described, given, IsPictureOf, IsSentFor}
use Rattle.iiif_tile_group.specs.Collection.{Item, item_named}
use Rattle.iiif_tile_group.specs.Items.{item_of}
use Rattle.iiif_answers.specs.Kinds.{kind_of, depth_of}
use Rattle.iiif_assemble.specs.Jobs.{channels_in, top_in}
use Rattle.iiif_answers.specs.declared.accepted.Accepted.{Accepted}
use Rattle.iiif_answers.specs.declared.outcome.Outcome.{Outcome}
use Rattle.iiif_answers.specs.declared.outcome.Outcome.TheVariants.{Refused, Redirect, Information, Image, NoMemory}

-- a request of the words, for an item's picture, comes to these values
pub record Comes {S : Type 0} (bytes : S → List ℕ) (keeps : S → Type 0) (item : Item S) (limits : Limits) (w : Texts) (a : Accepted) : Type
    0 where
  pub request : Request
  pub picture : Picture
  pub is_picture : IsPictureOf bytes keeps item picture
  pub says : Says w (Ok request)
  pub is_image : images.image picture request limits ≡ Ok (resolved_image picture a.resolved)
  pub is_canonical : canonical request (dim_of picture) (kind_of picture) limits ≡ Ok a.canonical
  pub spelled : CanBeSpelled a.canonical
  pub is_kind : a.kind ≡ out_kind_of (kind_of picture) (depth_of picture) request.quality

-- the words are refused, or the request that they spell
pub data IsRefused {S : Type 0} (bytes : S → List ℕ) (keeps : S → Type 0) (item : Item S) (limits : Limits) (w : Texts) (e : Refusal) : Type
    0 where
  no_request : Says w (Err e) → IsRefused bytes keeps item limits w e
  no_image : (q : Request) (p : Picture) → IsPictureOf bytes keeps item p → Says w (Ok q) → images.image p q limits ≡ Err e
      → IsRefused bytes keeps item limits w e

-- what the words come to for an item's image
abbrev pub Accepts : {S : Type 0} → (S → List ℕ) → (S → Type 0) → Item S → Limits → Texts → Result Accepted Refusal → Type 0
Accepts bytes keeps item limits w (Ok a) = Comes bytes keeps item limits w a
Accepts bytes keeps item limits w (Err e) = IsRefused bytes keeps item limits w e

-- the image can be made of a source with that layout, and written
pub record IsReady (layout : Scheme) (a : Accepted) : Type 0 where
  pub inside : LiesIn a.resolved.rect (layouts.dim_of layout)
  pub sizes : IsScalable (sides_of a.resolved.rect) a.resolved.size
  pub quarters : a.resolved.turn.quarters < 4
  pub channels : channels_in a.resolved.quality layout.channels ≡ samples_per_pixel a.kind
  pub top : top_in a.resolved.quality (white_of layout.bits) ≡ top_of (out_depth a.kind)
  pub len : file_len a.kind (turned_dim a.resolved.turn a.resolved.size) < 2 ^ 32
  pub short : HasShortDecimals a.canonical

-- an image that is sent for what a request of an item's picture comes to
abbrev pub given_of : {S : Type 0} → Item S → Request → Accepted → Picture → Picture → Given S
given_of item q a p image =
    record { item = item; request = q; canonical = a.canonical; picture = p; asked = resolved_image p a.resolved; image = image }

-- what a target comes to, where it reaches these replies
abbrev pub ComesTo : {R S : Type 0} {d : _} → (S → List ℕ) → (S → Type 0) → Bool → (Reply S → Type 0) → Outcome R S d → Type 0
ComesTo bytes keeps honest Reaches (Refused e) = Reaches (refused e)
ComesTo bytes keeps honest Reaches (Redirect entry) = Reaches (redirect (item_of entry.now))
ComesTo bytes keeps honest Reaches (Information entry d) = Reaches (described (item_of entry.now) d)
ComesTo bytes keeps honest Reaches (Image entry a) =
    (q : Request) × (p : Picture) × IsPictureOf bytes keeps (item_of entry.now) p ×
    (a.kind ≡ out_kind_of (kind_of p) (depth_of p) q.quality)
    × ((image : Picture) → IsSentFor (keeps entry.now.source × IsTrue honest) (resolved_image p a.resolved) image →
    Reaches (given (given_of (item_of entry.now) q a p image)))
ComesTo bytes keeps honest Reaches NoMemory = Unit {0}

-- an image that is accepted is the one of its name
abbrev pub IsFound : {R S : Type 0} {d : _} → List (Item S) → Outcome R S d → Type 0
IsFound items (Refused e) = Unit {0}
IsFound items (Redirect entry) = Unit {0}
IsFound items (Information entry d) = Unit {0}
IsFound items (Image entry a) = item_named items entry.now.name ≡ Some (item_of entry.now)
IsFound items NoMemory = Unit {0}

-- an image can be made and written
abbrev pub CanBeMade : {R S : Type 0} {d : _} → Outcome R S d → Type 0
CanBeMade (Refused e) = Unit {0}
CanBeMade (Redirect entry) = Unit {0}
CanBeMade (Information entry d) = Unit {0}
CanBeMade (Image entry a) = IsReady entry.now.layout a
CanBeMade NoMemory = Unit {0}
