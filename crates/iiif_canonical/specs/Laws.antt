-- Laws of the definitions.
--
-- `CanonicalMeansTheSame`: a request and its canonical form have equal images. `EscapesReadBack`: escaping an identifier loses nothing.
use Rattle.std.specs.Prelude.{◌≡◌, ℕ, ◌<◌, List, All, Ok}
use Rattle.iiif_pixel.specs.Geometry.{channels_of}
use Rattle.iiif_pixel.specs.Picture.{Picture, dim_of}
use Rattle.iiif_pixel.specs.declared.geometry.Kind.{Kind}
use Rattle.iiif_request.specs.Targets.{Lacks, Decodes}
use Rattle.iiif_request.specs.declared.request.Request.{Request}
use Rattle.iiif_canonical.specs.Canonical.{canonical}
use Rattle.iiif_canonical.specs.Escapes.{escaped}
use Rattle.iiif_canonical.specs.Images.{image}
use Rattle.iiif_canonical.specs.declared.resolved.Limits.{Limits}

-- IIIF Image API 3.0, section 4.7: for every picture, a request and its canonical form have equal images
abbrev pub CanonicalMeansTheSame : Type 0
CanonicalMeansTheSame =
    (p : Picture) (k : Kind) (l : Limits) (q c : Request)
    → p.channels ≡ channels_of k → canonical q (dim_of p) k l ≡ Ok c → image p c l ≡ image p q l

-- RFC 3986, section 2.1: an escaped identifier is one segment of a path, and decodes to the identifier
abbrev pub EscapesReadBack : Type 0
EscapesReadBack = (id : List ℕ) → All (λ b. b < 256) id → Lacks 47 (escaped id) × Decodes (escaped id) id
