-- Images of requests: those of the values that they resolve to.
use Rattle.std.proofs.Common.{◌≡◌, ℕ, zero, suc, ◌+◌, ◌*◌, Bool, true, false, length, refl, sym, ap, ◌∙◌, subst, arith, Result, Ok, Err}
use Rattle.std.proofs.Common.{if◌then◌else◌, get_or, ◌==◌}
use Rattle.iiif_pixel.specs.Geometry.{channels_of}
use Rattle.iiif_pixel.specs.Picture.{Picture, dim_of, samples_of, sample_at}
use Rattle.iiif_pixel.specs.Operations.{crop, mirrored, turned_by, turn, gray, gray_at, quality}
use Rattle.iiif_pixel.specs.Scaling.{scale}
use Rattle.iiif_pixel.specs.declared.geometry.Dim.{Dim}
use Rattle.iiif_pixel.specs.declared.geometry.Kind.{Kind}
use Rattle.iiif_pixel.specs.declared.geometry.Kind.TheVariants as kind
use Rattle.iiif_pixel.specs.declared.geometry.Rect.{Rect}
use Rattle.iiif_pixel.specs.declared.geometry.Turn.{Turn}
use Rattle.iiif_pixel.specs.declared.geometry.Quality.{Quality}
use Rattle.iiif_pixel.specs.declared.geometry.Quality.TheVariants.{Default, Color, Gray, Bitonal}
use Rattle.iiif_pixel.proofs.SampleLists.{samples_from_places, length-samples_of}
use Rattle.iiif_request.specs.declared.request.Refusal.{Refusal}
use Rattle.iiif_request.specs.declared.request.Request.{Request}
use Rattle.iiif_canonical.specs.Regions.{region_of}
use Rattle.iiif_canonical.specs.Sizes.{size_of}
use Rattle.iiif_canonical.specs.Resolution.{◌>>=◌, resolved_of, turn_of, plain_quality}
use Rattle.iiif_canonical.specs.Images.{image, resolved_image, image_from}
use Rattle.iiif_canonical.specs.declared.resolved.Limits.{Limits}
use Rattle.iiif_canonical.specs.declared.resolved.Resolved.{Resolved}

-- a sample for each place and channel, and so many channels
record Counted (n : ℕ) (p : Picture) : Type 0 where
  pub count : length p.samples ≡ p.width * p.height * p.channels
  pub channels : p.channels ≡ n

turned_counted : (q n : ℕ) (m : Bool) (p : Picture) → Counted n p → Counted n (turned_by q (if m then mirrored p else p))
turned_counted zero n true p c = record { count = length-samples_of p.width p.height p.channels _; channels = c.channels }
turned_counted zero n false p c = c
turned_counted (suc q) n m p c =
    let below = turned_by q (if m then mirrored p else p) in
    record { count = length-samples_of below.height below.width below.channels _; channels = (turned_counted q n m p c).channels }

-- a gray picture has the same samples in gray
gray_same : (p : Picture) → Counted 1 p → gray p ≡ p
unfolding gray_at sample_at
gray_same p c =
    let one : p.channels ≡ 1 = c.channels in
    let count : length p.samples ≡ p.width * p.height * 1 = c.count ∙ ap (λ n. p.width * p.height * n) one in
    let no : p.channels == 3 ≡ false = rw one refl in
    let all : p.samples ≡ samples_of p.width p.height 1 (gray_at p) =
    samples_from_places p.width p.height 1 p.samples (gray_at p) count (λ x y k lx ly lk.
    let here : (y * p.width + x) * 1 + k ≡ (y * p.width + x) * p.channels + 0 = rw one (omega arith) in
    rw no (ap (λ i. get_or p.samples i 0) here)) in
    λ i. record { width = p.width; height = p.height; channels = sym one i; top = p.top; samples = sym all i }

-- a quality that changes nothing
plain_same : (k : Kind) (q : Quality) (p : Picture) → Counted (channels_of k) p → quality p q ≡ quality p (plain_quality k q)
plain_same k Default p c = refl
plain_same k Color p c = refl
plain_same kind.Gray Gray p c = gray_same p c
plain_same kind.Rgb Gray p c = refl
plain_same k Bitonal p c = refl

module _ (p : Picture) (k : Kind) (channels : p.channels ≡ channels_of k) (t : Turn) (q : Quality) where
  sized : (rect : Rect) (s : Result Dim Refusal)
      → (s >>= (λ size. Ok (quality (turn (scale (crop p rect) size) t) q)))
      ≡ image_from p (s >>= (λ size. Ok (record { rect = rect; size = size; turn = t; quality = plain_quality k q })))
  unfolding resolved_image
  sized rect (Ok size) =
      let scaled = scale (crop p rect) size in
      let counted : Counted (channels_of k) scaled = record { count = length-samples_of size.w size.h p.channels _; channels = channels } in
      ap Ok (plain_same k q (turn scaled t) (turned_counted t.quarters (channels_of k) t.mirror scaled counted))
  sized rect (Err f) = refl

  found : (g : Result Rect Refusal) (s : Rect → Result Dim Refusal)
      → (g >>= (λ rect. s rect >>= (λ size. Ok (quality (turn (scale (crop p rect) size) t) q))))
      ≡ image_from p (g >>= (λ rect. s rect >>= (λ size. Ok (record { rect = rect; size = size; turn = t; quality = plain_quality k q }))))
  found (Ok rect) s = sized rect (s rect)
  found (Err f) s = refl

-- The image of a request is that of the values that it resolves to.
pub image_resolved_of : (p : Picture) (q : Request) (d : Dim) (k : Kind) (l : Limits) → dim_of p ≡ d → p.channels ≡ channels_of k →
    image p q l ≡ image_from p (resolved_of q d k l)
unfolding image resolved_of
image_resolved_of p q d k l sides channels =
    subst (λ (s : Dim). image p q l ≡ image_from p (resolved_of q s k l)) sides
    (found p k channels (turn_of q.rotation) q.quality (region_of q.region (dim_of p)) (λ rect. size_of q.size rect.w rect.h l))

-- A request has the image of an answer that equals what it resolves to.
pub image_resolved : (p : Picture) (q : Request) (d : Dim) (k : Kind) (l : Limits) (x : Result Resolved Refusal) → dim_of p ≡ d →
    p.channels ≡ channels_of k → x ≡ resolved_of q d k l → image p q l ≡ image_from p x
image_resolved p q d k l x sides channels e = image_resolved_of p q d k l sides channels ∙ ap (image_from p) (sym e)

-- A request that resolves to these values has their image.
pub image_resolved_ok : (p : Picture) (q : Request) (d : Dim) (k : Kind) (l : Limits) (r : Resolved) → dim_of p ≡ d →
    p.channels ≡ channels_of k → Ok r ≡ resolved_of q d k l → image p q l ≡ Ok (resolved_image p r)
image_resolved_ok p q d k l r sides channels e = image_resolved p q d k l (Ok r) sides channels e
