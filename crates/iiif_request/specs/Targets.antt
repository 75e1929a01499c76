-- Request targets: RFC 3986, sections 2.1, 3.3 and 3.4; IIIF Image API 3.0, sections 2, 3 and 9.
--
-- `Lacks`: a byte is nowhere in a text.
-- `Decodes raw text`: percent-decoding gives the text. `IsSegmentOf raw text`: and the text is UTF-8.
-- `IsCut prefix target segments`: the target's path is the prefix, a slash, and these segments with slashes between.
-- `Resource`: a base URI, an image's information, or an image. `AreSegmentsOf`: these decoded segments name it.
-- `AsksFor prefix target resource`: the target is cut and decoded into segments that name the resource.
use Rattle.std.specs.Prelude.{◌≡◌, ◌≢◌, ℕ, ◌+◌, ◌*◌, ◌<◌, ◌≤◌, ◌⊎◌, List, [], ◌∷◌, ◌++◌, length, codes, All, IsUtf8, string_bytes}
use Rattle.std.specs.Char.{digit_value}
use Rattle.std.specs.List.{AllZip, concat, join_with_byte}
use Rattle.iiif_request.specs.declared.target.Target.{Target}
use Rattle.iiif_request.specs.declared.target.Target.TheVariants.{Base, Info, Image}
use Rattle.iiif_request.specs.Spells.{Texts}
use Rattle.iiif_request.specs.Words.{texts}

-- RFC 3986, section 3.3: the byte is nowhere in the text, as `/` is nowhere in a segment
abbrev pub Lacks : ℕ → List ℕ → Type 0
Lacks byte text = All (λ b. b ≢ byte) text

-- RFC 3986, section 2.1: a byte but `%` stands for itself; `%` and two hexadecimal digits, of either case, for the byte that they write
abbrev pub StandsFor : List ℕ → ℕ → Type 0
StandsFor unit byte = ((unit ≡ byte ∷ []) × (byte ≢ 37))
    ⊎ ((high low : ℕ) × (digit_value high < 16) × (digit_value low < 16) × (unit ≡ 37 ∷ high ∷ low ∷ []) ×
    (byte ≡ 16 * digit_value high + digit_value low))

-- RFC 3986, section 2.1: the bytes are cut into units, of which each stands for one byte of the text
abbrev pub Decodes : List ℕ → List ℕ → Type 0
Decodes raw text = (units : List (List ℕ)) × (raw ≡ concat units) × AllZip StandsFor units text

-- IIIF Image API 3.0, section 9: the segment decodes to the text, which is UTF-8
abbrev pub IsSegmentOf : List ℕ → List ℕ → Type 0
IsSegmentOf raw text = Decodes raw text × IsUtf8 text

-- RFC 3986, sections 3.3 and 3.4: the target is a path, and perhaps a query from the first `?` on; the path is the prefix, a slash, and
-- segments with a slash between each two
pub record IsCut (prefix target : List ℕ) (segments : List (List ℕ)) : Type 0 where
  pub path : List ℕ
  pub query : List ℕ
  pub whole : target ≡ path ++ query
  pub path_ends : Lacks 63 path
  pub query_begins : (query ≡ []) ⊎ ((rest : List ℕ) × (query ≡ codes "?" ++ rest))
  pub joined : path ≡ prefix ++ codes "/" ++ join_with_byte 47 segments
  pub some : 1 ≤ length segments
  pub parted : All (Lacks 47) segments

-- the target is cut into one segment, two or five: as many as a base URI, an image's information or an image has (IIIF Image API 3.0,
-- section 2)
abbrev pub HasCountOfResource : List ℕ → List ℕ → Type 0
HasCountOfResource prefix target =
    (segments : List (List ℕ)) × IsCut prefix target segments × ((length segments ≡ 1) ⊎ (length segments ≡ 2) ⊎ (length segments ≡ 5))

-- IIIF Image API 3.0, sections 2 and 3: an image's base URI, its information, or an image of it
pub data Resource : Type 0 where
  base : List ℕ → Resource
  information : List ℕ → Resource
  image : List ℕ → Texts → Resource

-- IIIF Image API 3.0, section 2.1: `quality.format`, parted at the first dot; without one the format is empty
abbrev pub IsQualityAndFormat : List ℕ → List ℕ → List ℕ → Type 0
IsQualityAndFormat text quality format = Lacks 46 quality × ((text ≡ quality ++ codes "." ++ format) ⊎ ((text ≡ quality) × (format ≡ [])))

-- IIIF Image API 3.0, sections 2.1 and 2.2: the decoded segments, of which the identifier is not empty
abbrev pub AreSegmentsOf : List (List ℕ) → Resource → Type 0
AreSegmentsOf segments (base id) = (segments ≡ id ∷ []) × (id ≢ [])
AreSegmentsOf segments (information id) = (segments ≡ id ∷ codes "info.json" ∷ []) × (id ≢ [])
AreSegmentsOf segments (image id w) = (last : List ℕ) × IsQualityAndFormat last w.quality w.format
    × (segments ≡ id ∷ w.region ∷ w.size ∷ w.rotation ∷ last ∷ []) × (id ≢ [])

-- IIIF Image API 3.0, section 2: the target asks for the resource: it is cut into segments, each of which is decoded, and they name it
pub record AsksFor (prefix target : List ℕ) (resource : Resource) : Type 0 where
  pub raw : List (List ℕ)
  pub segments : List (List ℕ)
  pub cut : IsCut prefix target raw
  pub decoded : AllZip IsSegmentOf raw segments
  pub asked : AreSegmentsOf segments resource

-- IIIF Image API 3.0, section 2: a split target as the resource that it asks for
abbrev pub resource_of : Target → Resource
resource_of (Base id) = base (string_bytes id)
resource_of (Info id) = information (string_bytes id)
resource_of (Image id w) = image (string_bytes id) (texts w)
