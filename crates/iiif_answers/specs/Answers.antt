-- What a target is answered: IIIF Image API 3.0, sections 2 to 5.
use Rattle.std.specs.Prelude.{◌≡◌, ℕ, Bool, IsTrue, List, Some, None, Ok, Err}
use Rattle.iiif_pixel.specs.Picture.{Picture, dim_of}
use Rattle.iiif_pixel.specs.declared.geometry.Dim.{Dim}
use Rattle.iiif_tiff.specs.Tiff.{Shows, white_of}
use Rattle.iiif_tiff_read.specs.Layouts as layouts
use Rattle.iiif_request.specs.Spells.{Texts, Says}
use Rattle.iiif_request.specs.Targets.{Resource, base, information, image, AsksFor}
use Rattle.iiif_request.specs.declared.request.Request.{Request}
use Rattle.iiif_request.specs.declared.request.Refusal.{Refusal}
use Rattle.iiif_request.specs.declared.request.Refusal.TheVariants.{Path, Identifier}
use Rattle.iiif_canonical.specs.Images as images
use Rattle.iiif_canonical.specs.Canonical.{canonical}
use Rattle.iiif_canonical.specs.Texts.{CanBeSpelled}
use Rattle.iiif_canonical.specs.declared.resolved.Limits.{Limits}
use Rattle.iiif_answers.specs.BaseUrl.{path_of}
use Rattle.iiif_tile_group.specs.Collection.{Item, item_named}
use Rattle.iiif_answers.specs.Kinds.{kind_of}
use Rattle.iiif_answers.specs.Settings.{Settings, limits_of}

-- The picture of an item: it has the sides, the channels and the depth that the file said when it was opened, and where the
-- source keeps its bytes, they show it.
pub record IsPictureOf {S : Type 0} (bytes : S → List ℕ) (keeps : S → Type 0) (item : Item S) (p : Picture) : Type 0 where
  pub sides : dim_of p ≡ layouts.dim_of item.layout
  pub channels : p.channels ≡ item.layout.channels
  pub top : p.top ≡ white_of item.layout.bits
  pub shows : keeps item.source → Shows (bytes item.source) p

-- an image of the sides of the one that is asked for, and that one where its values are right
pub record IsSentFor (kept : Type 0) (asked image : Picture) : Type 0 where
  pub sides : dim_of image ≡ dim_of asked
  pub same : kept → image ≡ asked

-- an image that is given: of which item, for which request and its canonical form, of which whole picture; the image of that
-- which is asked for, and the one that is sent
pub record Given (S : Type 0) : Type 0 where
  pub item : Item S
  pub request : Request
  pub canonical : Request
  pub picture : Picture
  pub asked : Picture
  pub image : Picture

-- What is answered: a refusal; where an item's information is; the information about an item of these sides; or an image.
pub data Reply (S : Type 0) : Type 0 where
  refused : Refusal → Reply S
  redirect : Item S → Reply S
  described : Item S → Dim → Reply S
  given : Given S → Reply S

-- the identifier of what is asked for
abbrev pub identifier_of : Resource → List ℕ
identifier_of (base id) = id
identifier_of (information id) = id
identifier_of (image id words) = id

-- The words ask for this image of its item's picture. It is the one that is sent where the item's source keeps its bytes and other
-- nodes, from which values may come, are honest.
pub record IsGiven {S : Type 0} (bytes : S → List ℕ) (keeps : S → Type 0) (honest : Bool) (limits : Limits) (w : Texts) (g : Given S) : Type
    0 where
  pub is_picture : IsPictureOf bytes keeps g.item g.picture
  pub says : Says w (Ok g.request)
  pub is_image : images.image g.picture g.request limits ≡ Ok g.asked
  pub sent : IsSentFor (keeps g.item.source × IsTrue honest) g.asked g.image
  pub is_canonical : canonical g.request (dim_of g.picture) (kind_of g.picture) limits ≡ Ok g.canonical
  pub spelled : CanBeSpelled g.canonical

-- bytes: those of a source. keeps: they don't change, and a read that succeeds gives them; where a source doesn't, its item is
-- still answered by the sides that its file said. honest: the values that other nodes answer are right; no case but that of images
-- asks for it. Each case has its premises; the refusals come in the order of the checks.
pub data Replies {S : Type 0} (bytes : S → List ℕ) (keeps : S → Type 0) (honest : Bool) (settings : Settings) (items : List (Item S))
    (target : List ℕ) : Reply S → Type 0 where
  no_path : ((r : Resource) → ¬ (AsksFor (path_of settings.base) target r)) →
      Replies bytes keeps honest settings items target (refused Path)
  no_item : (r : Resource) → AsksFor (path_of settings.base) target r → item_named items (identifier_of r) ≡ None
      → Replies bytes keeps honest settings items target (refused Identifier)
  of_base : (id : List ℕ) (item : Item S) → AsksFor (path_of settings.base) target (base id) → item_named items id ≡ Some item
      → Replies bytes keeps honest settings items target (redirect item)
  of_information : (id : List ℕ) (item : Item S) (p : Picture) → AsksFor (path_of settings.base) target (information id)
      → item_named items id ≡ Some item → IsPictureOf bytes keeps item p →
      Replies bytes keeps honest settings items target (described item (dim_of p))
  no_request : (id : List ℕ) (w : Texts) (item : Item S) (e : Refusal) → AsksFor (path_of settings.base) target (image id w)
      → item_named items id ≡ Some item → Says w (Err e) → Replies bytes keeps honest settings items target (refused e)
  no_image : (id : List ℕ) (w : Texts) (item : Item S) (p : Picture) (q : Request) (e : Refusal)
      → AsksFor (path_of settings.base) target (image id w) → item_named items id ≡ Some item → IsPictureOf bytes keeps item p
      → Says w (Ok q) → images.image p q (limits_of settings) ≡ Err e → Replies bytes keeps honest settings items target (refused e)
  of_image : (id : List ℕ) (w : Texts) (g : Given S) → AsksFor (path_of settings.base) target (image id w)
      → item_named items id ≡ Some g.item → IsGiven bytes keeps honest (limits_of settings) w g →
      Replies bytes keeps honest settings items target (given g)
