-- Words and requests of the worked examples.
use Rattle.std.specs.Prelude.{ℕ, Bool, false, true, List, Result, Ok}
use Rattle.iiif_pixel.specs.declared.geometry.Dim.{Dim}
use Rattle.iiif_pixel.specs.declared.geometry.Kind.{Kind}
use Rattle.iiif_pixel.specs.declared.geometry.Quality.{Quality}
use Rattle.iiif_pixel.specs.declared.geometry.Quality.TheVariants.{Default}
use Rattle.iiif_request.specs.Spells.{Texts}
use Rattle.iiif_request.specs.declared.request.Decimal.{Decimal}
use Rattle.iiif_request.specs.declared.request.Form.{Form}
use Rattle.iiif_request.specs.declared.request.Refusal.{Refusal}
use Rattle.iiif_request.specs.declared.request.Region.{Region}
use Rattle.iiif_request.specs.declared.request.Request.{Request}
use Rattle.iiif_canonical.specs.Canonical.{canonical}
use Rattle.iiif_canonical.specs.Resolution.{◌>>=◌}
use Rattle.iiif_canonical.specs.Texts.{text_of}
use Rattle.iiif_canonical.specs.declared.resolved.Limits.{Limits}

-- the five words of a request: region, size, rotation, quality, format
abbrev pub words : List ℕ → List ℕ → List ℕ → List ℕ → List ℕ → Texts
words region size rotation quality format = record { region = region; size = size; rotation = rotation; quality = quality; format = format }

-- a number of so many digits, and how many of these stand behind the point
abbrev pub decimal_of : ℕ → ℕ → Decimal
decimal_of digits places = record { digits = digits; places = places }

-- a region at a size, with a `^` before the size or not, mirrored or not and turned by so many degrees, in a quality
abbrev pub request_of : Region → Bool → Form → Bool → ℕ → Quality → Request
request_of region up form mirror degrees quality = record {
  region = region;
  size = record { up = up; form = form };
  rotation = record { mirror = mirror; degrees = decimal_of degrees 0 };
  quality = quality;
}

-- a region at a size, as it stands
abbrev pub upright : Region → Form → Request
upright region form = request_of region false form false 0 Default

-- with a `^` before the size
abbrev pub raised : Region → Form → Request
raised region form = request_of region true form false 0 Default

-- results of at most 4,096 by 4,096, no side above the region's
abbrev pub usual : Limits
usual = record { max_w = 4096; max_h = 4096; upscale = false }

-- results of at most so many columns and rows, which may be above the region's
abbrev pub larger : ℕ → Limits
larger most = record { max_w = most; max_h = most; upscale = true }

-- the words of the canonical form
unfoldable pub canonical_words : Request → Dim → Kind → Limits → Result (List ℕ) Refusal
canonical_words q d k l = do
  c ← canonical q d k l
  Ok (text_of c)
