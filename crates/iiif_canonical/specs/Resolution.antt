-- Resolution of a request for an image: IIIF Image API 3.0, sections 4.1 to 4.4.
--
-- `quarters_of`, `turn_of`: the turn of a rotation. `plain_quality`: a quality, or `default` where it changes nothing.
-- `resolved_of request d kind limits`: the values that a request resolves to, or the first refusal.
-- `IsResolved`: the bounds that these values keep.
use Rattle.std.specs.Prelude.{◌≡◌, ℕ, ◌*◌, ◌/◌, ◌%◌, ◌^◌, ◌<◌, ◌≤◌, false, Result, Ok, Err}
use Rattle.iiif_pixel.specs.Geometry.{LiesIn}
use Rattle.iiif_pixel.specs.declared.geometry.Dim.{Dim}
use Rattle.iiif_pixel.specs.declared.geometry.Kind.{Kind}
use Rattle.iiif_pixel.specs.declared.geometry.Kind.TheVariants as kind
use Rattle.iiif_pixel.specs.declared.geometry.Turn.{Turn}
use Rattle.iiif_pixel.specs.declared.geometry.Quality.{Quality}
use Rattle.iiif_pixel.specs.declared.geometry.Quality.TheVariants.{Default, Color, Gray, Bitonal}
use Rattle.iiif_request.specs.declared.request.Decimal.{Decimal}
use Rattle.iiif_request.specs.declared.request.Request.{Request}
use Rattle.iiif_request.specs.declared.request.Refusal.{Refusal}
use Rattle.iiif_request.specs.declared.request.Rotation.{Rotation}
use Rattle.iiif_canonical.specs.Regions.{region_of}
use Rattle.iiif_canonical.specs.Sizes.{size_of}
use Rattle.iiif_canonical.specs.declared.resolved.Limits.{Limits}
use Rattle.iiif_canonical.specs.declared.resolved.Resolved.{Resolved}

-- section 4.6: goes on with the value of a step, or keeps its refusal
infixl 10 ◌>>=◌
abbrev pub ◌>>=◌ : {A B : Type 0} → Result A Refusal → (A → Result B Refusal) → Result B Refusal
(Ok x) >>= f = f x
(Err e) >>= f = Err e

-- section 4.3: how many quarter turns degrees are; 360 degrees are none
unfoldable pub quarters_of : Decimal → ℕ
quarters_of n = n.digits / (90 * 10 ^ n.places) % 4

-- section 4.3: mirrored on the vertical axis or not, and then turned
abbrev pub turn_of : Rotation → Turn
turn_of r = record { mirror = r.mirror; quarters = quarters_of r.degrees }

-- section 4.4: `default` in place of a quality that changes nothing for this kind of image
abbrev pub plain_quality : Kind → Quality → Quality
plain_quality k Default = Default
plain_quality k Color = Default
plain_quality kind.Gray Gray = Default
plain_quality kind.Rgb Gray = Gray
plain_quality k Bitonal = Bitonal

-- sections 4.1 to 4.4: the values that a request resolves to for an image with these sides and of this kind, or the first refusal
unfoldable pub resolved_of : Request → Dim → Kind → Limits → Result Resolved Refusal
resolved_of q d k l = do
  rect ← region_of q.region d
  size ← size_of q.size rect.w rect.h l
  Ok (record { rect = rect; size = size; turn = turn_of q.rotation; quality = plain_quality k q.quality })

-- sections 4.1 to 4.4: the rectangle is inside the image and isn't empty; the size has at least one place, is within the limits
-- and, unless the server scales up, isn't above the rectangle's; the turn has fewer than four quarters; the quality changes something
-- or is the default
pub record IsResolved (d : Dim) (k : Kind) (l : Limits) (r : Resolved) : Type 0 where
  pub inside : LiesIn r.rect d
  pub not_empty : (1 ≤ r.rect.w) × (1 ≤ r.rect.h)
  pub not_zero : (1 ≤ r.size.w) × (1 ≤ r.size.h)
  pub not_larger : l.upscale ≡ false → (r.size.w ≤ r.rect.w) × (r.size.h ≤ r.rect.h)
  pub within_limits : (r.size.w ≤ l.max_w) × (r.size.h ≤ l.max_h)
  pub quarters : r.turn.quarters < 4
  pub quality : plain_quality k r.quality ≡ r.quality
