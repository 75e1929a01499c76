-- Canonical form of a request: IIIF Image API 3.0, section 4.7.
--
-- `canonical_region`, `canonical_size`: how a rectangle and a size are written.
-- `canonical_of resolved d limits`: the one request that is written for these values.
-- `canonical request d kind limits`: the canonical form of a request for an image, or its first refusal.
use Rattle.std.specs.Prelude.{◌≡◌, ℕ, ◌*◌, ◌^◌, ◌<◌, true, ◌&&◌, ◌==◌, if◌then◌else◌, Result, Ok}
use Rattle.iiif_pixel.specs.declared.geometry.Dim.{Dim}
use Rattle.iiif_pixel.specs.declared.geometry.Kind.{Kind}
use Rattle.iiif_pixel.specs.declared.geometry.Rect.{Rect}
use Rattle.iiif_request.specs.declared.request.Refusal.{Refusal}
use Rattle.iiif_request.specs.declared.request.Region.{Region}
use Rattle.iiif_request.specs.declared.request.Region.TheVariants.{Full, Pixels}
use Rattle.iiif_request.specs.declared.request.Form.{Form}
use Rattle.iiif_request.specs.declared.request.Form.TheVariants.{Max, Both}
use Rattle.iiif_request.specs.declared.request.Size.{Size}
use Rattle.iiif_request.specs.declared.request.Request.{Request}
use Rattle.iiif_canonical.specs.Resolution.{◌>>=◌, resolved_of}
use Rattle.iiif_canonical.specs.Sizes.{asked_of, is_larger}
use Rattle.iiif_canonical.specs.declared.resolved.Limits.{Limits}
use Rattle.iiif_canonical.specs.declared.resolved.Resolved.{Resolved}

-- section 4.7: `full` for the whole image, else `x,y,w,h` of the clipped rectangle
unfoldable pub canonical_region : Rect → Dim → Region
canonical_region r d =
    if r.x == 0 && r.y == 0 && r.w == d.w && r.h == d.h then Full else Pixels r.x r.y r.w r.h

-- section 4.7: a size with a side above that of a region a by b is written with `^`, all others without: `^max` or `max` where the size is
-- what that gives for the region, else `^w,h` or `w,h`.
unfoldable pub canonical_size : Dim → ℕ → ℕ → Limits → Size
canonical_size s a b l =
    let up = is_larger a b (s.w, s.h) in
    let most = asked_of up Max a b l in
    record { up = up; form = if s.w == most.0 && s.h == most.1 then Max else Both s.w s.h }

-- section 4.7: the one request that is written for all that resolve to these values
unfoldable pub canonical_of : Resolved → Dim → Limits → Request
canonical_of r d l = record {
  region = canonical_region r.rect d;
  size = canonical_size r.size r.rect.w r.rect.h l;
  rotation = record { mirror = r.turn.mirror; degrees = record { digits = 90 * r.turn.quarters; places = 0 } };
  quality = r.quality;
}

-- section 4.7: the canonical form of a request for an image with these sides and of this kind, or its first refusal
unfoldable pub canonical : Request → Dim → Kind → Limits → Result Request Refusal
canonical q d k l = do
  r ← resolved_of q d k l
  Ok (canonical_of r d l)

-- section 4.2: no side of a result has more than nine digits: those of the image haven't, and where results may be larger, nor have the
-- limits.
pub record HasShortSides (d : Dim) (l : Limits) : Type 0 where
  pub image : (d.w < 10 ^ 9) × (d.h < 10 ^ 9)
  pub limits : l.upscale ≡ true → (l.max_w < 10 ^ 9) × (l.max_h < 10 ^ 9)
