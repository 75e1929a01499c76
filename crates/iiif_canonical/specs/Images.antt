-- Image that a request asks for: IIIF Image API 3.0, section 4.6, order of implementation.
--
-- `image picture request limits`: the image of a request, or the first refusal.
-- `resolved_image picture resolved`: the image of resolved values.
-- `HasImageOf request d kind limits answer`: of each picture of this kind, the request has the image of the answer.
use Rattle.std.specs.Prelude.{◌≡◌, Result, Ok, Err}
use Rattle.iiif_pixel.specs.Geometry.{channels_of}
use Rattle.iiif_pixel.specs.Picture.{Picture, dim_of}
use Rattle.iiif_pixel.specs.Operations.{crop, turn, quality}
use Rattle.iiif_pixel.specs.Scaling.{scale}
use Rattle.iiif_pixel.specs.declared.geometry.Dim.{Dim}
use Rattle.iiif_pixel.specs.declared.geometry.Kind.{Kind}
use Rattle.iiif_request.specs.declared.request.Request.{Request}
use Rattle.iiif_request.specs.declared.request.Refusal.{Refusal}
use Rattle.iiif_canonical.specs.Regions.{region_of}
use Rattle.iiif_canonical.specs.Sizes.{size_of}
use Rattle.iiif_canonical.specs.Resolution.{◌>>=◌, turn_of}
use Rattle.iiif_canonical.specs.declared.resolved.Limits.{Limits}
use Rattle.iiif_canonical.specs.declared.resolved.Resolved.{Resolved}

-- section 4.6: region, then size, then rotation, then quality of a whole picture; or the first refusal
unfoldable pub image : Picture → Request → Limits → Result Picture Refusal
image p q l = do
  rect ← region_of q.region (dim_of p)
  size ← size_of q.size rect.w rect.h l
  Ok (quality (turn (scale (crop p rect) size) (turn_of q.rotation)) q.quality)

-- section 4.6: region, size, rotation and quality by resolved values
unfoldable pub resolved_image : Picture → Resolved → Picture
resolved_image p r = quality (turn (scale (crop p r.rect) r.size) r.turn) r.quality

-- section 4.6: the image of the values that a request resolves to, or its refusal
abbrev pub image_from : Picture → Result Resolved Refusal → Result Picture Refusal
image_from p (Ok r) = Ok (resolved_image p r)
image_from p (Err e) = Err e

-- section 4.6: of each picture with these sides and of this kind, the request has the image of the values, or the refusal, of the answer
abbrev pub HasImageOf : Request → Dim → Kind → Limits → Result Resolved Refusal → Type 0
HasImageOf q d k l answer = (p : Picture) → dim_of p ≡ d → p.channels ≡ channels_of k → image p q l ≡ image_from p answer
