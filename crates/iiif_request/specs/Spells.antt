-- Grammar of an image request: IIIF Image API 3.0, sections 4.1 to 4.5. A relation with one case a form; nothing is parsed.
--
-- `IsDigits`, `IsWhole`, `IsDecimal`: the text writes this number.
-- `SpellsRegion`, `SpellsSize`, `SpellsRotation`, `SpellsQuality`, `SpellsFormat`: the word spells this part of a request.
-- `SpellsRequest`: the five words spell this request.
-- `Says`: the five words spell this request, or this refusal is of the first word that spells nothing.
use Rattle.std.specs.Prelude.{◌≡◌, ℕ, ◌*◌, ◌^◌, ◌≤◌, ◌⊎◌, Bool, true, List, [], ◌++◌, length, codes, if◌then◌else◌, Result, Ok, Err}
use Rattle.std.specs.Char.{is_ascii_digit}
use Rattle.std.specs.List.{list_all}
use Rattle.std.specs.Str.Parse.{digits_value}
use Rattle.iiif_pixel.specs.declared.geometry.Quality.{Quality}
use Rattle.iiif_pixel.specs.declared.geometry.Quality.TheVariants.{Default, Color, Gray, Bitonal}
use Rattle.iiif_request.specs.declared.request.Decimal.{Decimal}
use Rattle.iiif_request.specs.declared.request.Region.{Region}
use Rattle.iiif_request.specs.declared.request.Region.TheVariants.{Full, Square, Pixels, Percents}
use Rattle.iiif_request.specs.declared.request.Form.{Form}
use Rattle.iiif_request.specs.declared.request.Form.TheVariants.{Max, Width, Height, Percent, Both, Within}
use Rattle.iiif_request.specs.declared.request.Size.{Size}
use Rattle.iiif_request.specs.declared.request.Rotation.{Rotation}
use Rattle.iiif_request.specs.declared.request.Request.{Request}
use Rattle.iiif_request.specs.declared.request.Refusal.{Refusal}
use Rattle.iiif_request.specs.declared.request.Refusal.TheVariants as refusal

-- sections 4.1 and 4.2: the text is one to `most` digits
pub record IsDigits (most : ℕ) (text : List ℕ) : Type 0 where
  pub some : 1 ≤ length text
  pub few : length text ≤ most
  pub digits : list_all is_ascii_digit text ≡ true

-- sections 4.1 and 4.2: the text writes this whole number in one to nine digits, leading zeros allowed
abbrev pub IsWhole : List ℕ → ℕ → Type 0
IsWhole text n = IsDigits 9 text × (digits_value 10 text ≡ n)

-- sections 4.1 to 4.3: the text writes this decimal: a whole number, or one with a point and one to ten digits behind it
abbrev pub IsDecimal : List ℕ → Decimal → Type 0
IsDecimal text d = (IsWhole text d.digits × (d.places ≡ 0)) ⊎ ((whole places : List ℕ)
    × IsDigits 9 whole × IsDigits 10 places × (text ≡ whole ++ codes "." ++ places)
    × (d.digits ≡ digits_value 10 (whole ++ places)) × (d.places ≡ length places))

-- section 4.1: full, square, x,y,w,h or pct:x,y,w,h
abbrev pub SpellsRegion : List ℕ → Region → Type 0
SpellsRegion text Full = text ≡ codes "full"
SpellsRegion text Square = text ≡ codes "square"
SpellsRegion text (Pixels x y w h) = (a b c d : List ℕ) × IsWhole a x × IsWhole b y × IsWhole c w × IsWhole d h
    × (text ≡ a ++ codes "," ++ b ++ codes "," ++ c ++ codes "," ++ d)
SpellsRegion text (Percents x y w h) = (a b c d : List ℕ) × IsDecimal a x × IsDecimal b y × IsDecimal c w × IsDecimal d h
    × (text ≡ codes "pct:" ++ a ++ codes "," ++ b ++ codes "," ++ c ++ codes "," ++ d)

-- section 4.2 without the `^`: max, w,  ,h  pct:n  w,h  !w,h
abbrev pub SpellsForm : List ℕ → Form → Type 0
SpellsForm text Max = text ≡ codes "max"
SpellsForm text (Width w) = (a : List ℕ) × IsWhole a w × (text ≡ a ++ codes ",")
SpellsForm text (Height h) = (b : List ℕ) × IsWhole b h × (text ≡ codes "," ++ b)
SpellsForm text (Percent n) = (a : List ℕ) × IsDecimal a n × (text ≡ codes "pct:" ++ a)
SpellsForm text (Both w h) = (a b : List ℕ) × IsWhole a w × IsWhole b h × (text ≡ a ++ codes "," ++ b)
SpellsForm text (Within w h) = (a b : List ℕ) × IsWhole a w × IsWhole b h × (text ≡ codes "!" ++ a ++ codes "," ++ b)

-- sections 4.2 and 4.3: a mark in front, or none
abbrev pub mark : Bool → List ℕ → List ℕ
mark stands sign = if stands then sign else []

-- section 4.2: a form, with `^` in front where it may enlarge
abbrev pub SpellsSize : List ℕ → Size → Type 0
SpellsSize text s = (form : List ℕ) × SpellsForm form s.form × (text ≡ mark s.up (codes "^") ++ form)

-- section 4.3: the degrees are 0, 90, 180, 270 or 360
abbrev pub IsQuarters : Decimal → Type 0
IsQuarters d = (k : ℕ) × (k ≤ 4) × (d.digits ≡ 90 * k * 10 ^ d.places)

-- section 4.3: degrees, with `!` in front where the image is mirrored first
abbrev pub SpellsRotation : List ℕ → Rotation → Type 0
SpellsRotation text t = (degrees : List ℕ) × IsDecimal degrees t.degrees × IsQuarters t.degrees ×
    (text ≡ mark t.mirror (codes "!") ++ degrees)

-- section 4.4: color, gray, bitonal or default
abbrev pub SpellsQuality : List ℕ → Quality → Type 0
SpellsQuality text Default = text ≡ codes "default"
SpellsQuality text Color = text ≡ codes "color"
SpellsQuality text Gray = text ≡ codes "gray"
SpellsQuality text Bitonal = text ≡ codes "bitonal"

-- section 4.5: tif, the one format
abbrev pub SpellsFormat : List ℕ → Type 0
SpellsFormat text = text ≡ codes "tif"

-- section 2.1: the five words of a request, percent-decoded
pub record Texts : Type 0 where
  pub region : List ℕ
  pub size : List ℕ
  pub rotation : List ℕ
  pub quality : List ℕ
  pub format : List ℕ

-- sections 4.1 to 4.5: each of the five words spells its part of the request
pub record SpellsRequest (words : Texts) (q : Request) : Type 0 where
  pub region : SpellsRegion words.region q.region
  pub size : SpellsSize words.size q.size
  pub rotation : SpellsRotation words.rotation q.rotation
  pub quality : SpellsQuality words.quality q.quality
  pub format : SpellsFormat words.format

-- sections 4.1 to 4.4: a word spells something of its kind
abbrev pub IsSpelled : {X : Type 0} → (List ℕ → X → Type 0) → List ℕ → Type 0
IsSpelled {X} spells text = (x : X) × spells text x

-- sections 4.1 to 4.5: the words say the request that they spell, or the refusal of the first of them that spells nothing
abbrev pub Says : Texts → Result Request Refusal → Type 0
Says w (Ok q) = SpellsRequest w q
Says w (Err refusal.Region) = ¬ (IsSpelled SpellsRegion w.region)
Says w (Err refusal.Size) = IsSpelled SpellsRegion w.region × ¬ (IsSpelled SpellsSize w.size)
Says w (Err refusal.Rotation) = IsSpelled SpellsRegion w.region × IsSpelled SpellsSize w.size × ¬ (IsSpelled SpellsRotation w.rotation)
Says w (Err refusal.Quality) = IsSpelled SpellsRegion w.region × IsSpelled SpellsSize w.size × IsSpelled SpellsRotation w.rotation
    × ¬ (IsSpelled SpellsQuality w.quality)
Says w (Err refusal.Format) = IsSpelled SpellsRegion w.region × IsSpelled SpellsSize w.size × IsSpelled SpellsRotation w.rotation
    × IsSpelled SpellsQuality w.quality × ¬ (SpellsFormat w.format)
Says w (Err _) = ⊥
