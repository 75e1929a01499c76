-- Texts and URIs of requests: IIIF Image API 3.0, sections 2, 2.1 and 9.
--
-- `X_text`: the word of a part of a request. `text_of request`: the four words, with slashes between.
-- `image_uri_of base id`, `uri_of base id request`: the URI of an image, and of a request for it.
-- `CanBeSpelled request`: some words spell the request. `IsTextOf request text`: the text, decoded, spells it.
-- `LeadsTo base id request uri`: who asks the server by this URI asks for this image.
use Rattle.std.specs.Prelude.{◌≡◌, ℕ, ◌/◌, ◌%◌, ◌^◌, ◌==◌, List, [], ◌++◌, codes, decimal, if◌then◌else◌}
use Prim.Native.Nat.{zero, suc}
use Rattle.iiif_pixel.specs.declared.geometry.Quality.{Quality}
use Rattle.iiif_pixel.specs.declared.geometry.Quality.TheVariants.{Default, Color, Gray, Bitonal}
use Rattle.iiif_request.specs.Spells.{mark, Texts, SpellsRequest}
use Rattle.iiif_request.specs.Targets.{Lacks, IsSegmentOf, image, AsksFor}
use Rattle.iiif_request.specs.declared.request.Decimal.{Decimal}
use Rattle.iiif_request.specs.declared.request.Region.{Region}
use Rattle.iiif_request.specs.declared.request.Region.TheVariants.{Full, Square, Pixels, Percents}
use Rattle.iiif_request.specs.declared.request.Form.{Form}
use Rattle.iiif_request.specs.declared.request.Form.TheVariants.{Max, Width, Height, Percent, Both, Within}
use Rattle.iiif_request.specs.declared.request.Size.{Size}
use Rattle.iiif_request.specs.declared.request.Rotation.{Rotation}
use Rattle.iiif_request.specs.declared.request.Request.{Request}
use Rattle.iiif_canonical.specs.Escapes.{escaped}

-- section 4.1: the last n digits of a number, leading zeros with them
abbrev pub last_digits : ℕ → ℕ → List ℕ
last_digits zero v = []
last_digits (suc n) v = last_digits n (v / 10) ++ decimal (v % 10)

-- section 4.1: a decimal: its whole part, and a point and its places where it has any
unfoldable pub decimal_text : Decimal → List ℕ
decimal_text d =
    if d.places == 0 then decimal d.digits
    else decimal (d.digits / 10 ^ d.places) ++ codes "." ++ last_digits d.places d.digits

-- section 4.1: full, square, x,y,w,h or pct:x,y,w,h
abbrev pub region_text : Region → List ℕ
region_text Full = codes "full"
region_text Square = codes "square"
region_text (Pixels x y w h) = decimal x ++ codes "," ++ decimal y ++ codes "," ++ decimal w ++ codes "," ++ decimal h
region_text (Percents x y w h) =
    codes "pct:" ++ decimal_text x ++ codes "," ++ decimal_text y ++ codes "," ++ decimal_text w ++ codes "," ++ decimal_text h

-- section 4.2: a size without its `^`: max, w,  ,h  pct:n  w,h or !w,h
abbrev pub form_text : Form → List ℕ
form_text Max = codes "max"
form_text (Width w) = decimal w ++ codes ","
form_text (Height h) = codes "," ++ decimal h
form_text (Percent n) = codes "pct:" ++ decimal_text n
form_text (Both w h) = decimal w ++ codes "," ++ decimal h
form_text (Within w h) = codes "!" ++ decimal w ++ codes "," ++ decimal h

-- section 4.2; a `^` isn't allowed in a URI and is written `%5E`
abbrev pub size_text : Size → List ℕ
size_text s = mark s.up (codes "%5E") ++ form_text s.form

-- section 4.3: degrees, with `!` in front where the image is mirrored first
abbrev pub rotation_text : Rotation → List ℕ
rotation_text t = mark t.mirror (codes "!") ++ decimal_text t.degrees

-- section 4.4: default, color, gray or bitonal
abbrev pub quality_text : Quality → List ℕ
quality_text Default = codes "default"
quality_text Color = codes "color"
quality_text Gray = codes "gray"
quality_text Bitonal = codes "bitonal"

-- section 2.1: the four parameters, in the one format
unfoldable pub text_of : Request → List ℕ
text_of q =
    region_text q.region ++ codes "/" ++ size_text q.size ++ codes "/" ++ rotation_text q.rotation ++ codes "/"
    ++ quality_text q.quality ++ codes ".tif"

-- section 2: the URI of an image, from the server's base and the image's identifier
unfoldable pub image_uri_of : List ℕ → List ℕ → List ℕ
image_uri_of base id = base ++ codes "/" ++ escaped id

-- section 2.1: the URI of a request for an image
unfoldable pub uri_of : List ℕ → List ℕ → Request → List ℕ
uri_of base id q = image_uri_of base id ++ codes "/" ++ text_of q

-- sections 4.1 to 4.5: some words spell the request
abbrev pub CanBeSpelled : Request → Type 0
CanBeSpelled q = (words : Texts) × SpellsRequest words q

-- Sections 2.1 and 9: the text is four segments with `/` between. Percent-decoded, they are the region, the size, the
-- rotation, and the quality and the format with a point between, in words that spell the request.
pub record IsTextOf (q : Request) (text : List ℕ) : Type 0 where
  pub region : List ℕ
  pub size : List ℕ
  pub rotation : List ℕ
  pub last : List ℕ
  pub words : Texts
  pub joined : text ≡ region ++ codes "/" ++ size ++ codes "/" ++ rotation ++ codes "/" ++ last
  pub parted : Lacks 47 region × Lacks 47 size × Lacks 47 rotation × Lacks 47 last
  pub region_decoded : IsSegmentOf region words.region
  pub size_decoded : IsSegmentOf size words.size
  pub rotation_decoded : IsSegmentOf rotation words.rotation
  pub last_decoded : IsSegmentOf last (words.quality ++ codes "." ++ words.format)
  pub spells : SpellsRequest words q

-- section 2.1: the target asks for an image of this identifier, in words that spell the request
abbrev pub AsksForImage : List ℕ → List ℕ → List ℕ → Request → Type 0
AsksForImage prefix target id q = (words : Texts) × AsksFor prefix target (image id words) × SpellsRequest words q

-- RFC 3986, section 3; IIIF Image API 3.0, section 2: the URI is the server's origin (scheme and authority) and a path; a server
-- with this prefix that is asked for the path is asked for the image
abbrev pub LeadsFrom : List ℕ → List ℕ → List ℕ → Request → List ℕ → Type 0
LeadsFrom origin prefix id q uri = (path : List ℕ) × (uri ≡ origin ++ path) × AsksForImage prefix path id q

-- RFC 3986, section 3: the URI leads from the origin and the prefix of the base to the image. The standard has one such cut of the
-- base, where its authority ends. More is asked here: that each cut leads there, so nothing depends on where an authority ends.
abbrev pub LeadsTo : List ℕ → List ℕ → Request → List ℕ → Type 0
LeadsTo base id q uri =
    (origin prefix : List ℕ) → base ≡ origin ++ prefix → Lacks 63 prefix → LeadsFrom origin prefix id q uri
