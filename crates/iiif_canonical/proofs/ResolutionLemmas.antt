-- Bounds of the values that an accepted request resolves to.
use Rattle.std.proofs.Common.{◌≡◌, ℕ, ◌-◌, ◌<◌, ◌≤◌, Bool, true, false, ◌&&◌, ◌||◌, nat_lt, refl, subst, arith, Result, Ok, Err}
use Rattle.std.proofs.Common.{if◌then◌else◌}
use Rattle.std.specs.Prelude.{min, ◌==◌, not}
use Rattle.std.proofs.lemmas.Bool.Decides.{nat_tests}
use Rattle.iiif_pixel.specs.Geometry.{LiesIn}
use Rattle.iiif_pixel.specs.declared.geometry.Dim.{Dim}
use Rattle.iiif_pixel.specs.declared.geometry.Kind.{Kind}
use Rattle.iiif_pixel.specs.declared.geometry.Kind.TheVariants as kind
use Rattle.iiif_pixel.specs.declared.geometry.Rect.{Rect}
use Rattle.iiif_pixel.specs.declared.geometry.Quality.{Quality}
use Rattle.iiif_pixel.specs.declared.geometry.Quality.TheVariants.{Default, Color, Gray, Bitonal}
use Rattle.iiif_request.specs.declared.request.Decimal.{Decimal}
use Rattle.iiif_request.specs.declared.request.Refusal.{Refusal}
use Rattle.iiif_request.specs.declared.request.Refusal.TheVariants.{Empty, Zero, Larger, Upscale, Limit}
use Rattle.iiif_request.specs.declared.request.Region.{Region}
use Rattle.iiif_request.specs.declared.request.Region.TheVariants.{Full, Square, Pixels, Percents}
use Rattle.iiif_request.specs.declared.request.Request.{Request}
use Rattle.iiif_request.specs.declared.request.Size.{Size}
use Rattle.iiif_canonical.specs.Regions.{clipped, region_of}
use Rattle.iiif_canonical.specs.Sizes.{is_larger, is_above_limits, checked, size_of}
use Rattle.iiif_canonical.specs.Resolution.{◌>>=◌, quarters_of, turn_of, plain_quality, resolved_of, IsResolved}
use Rattle.iiif_canonical.specs.declared.resolved.Limits.{Limits}
use Rattle.iiif_canonical.specs.declared.resolved.Resolved.{Resolved}

-- A rectangle of the image with at least one place.
pub record IsPart (d : Dim) (r : Rect) : Type 0 where
  pub inside : LiesIn r d
  pub not_empty : (1 ≤ r.w) × (1 ≤ r.h)

-- Sides of at least one place, no more than a region a by b unless the server scales up, and within the limits.
pub record IsWithin (a b : ℕ) (l : Limits) (s : Dim) : Type 0 where
  pub not_zero : (1 ≤ s.w) × (1 ≤ s.h)
  pub not_larger : l.upscale ≡ false → (s.w ≤ a) × (s.h ≤ b)
  pub within_limits : (s.w ≤ l.max_w) × (s.h ≤ l.max_h)

clipped_by : (d : Dim) (x y w h : ℕ) (t : Bool) → nat_lt x d.w && nat_lt y d.h && nat_lt 0 w && nat_lt 0 h ≡ t → (r : Rect)
    → (if t then Ok (record { x = x; y = y; w = min w (d.w - x); h = min h (d.h - y) }) else Err Empty) ≡ Ok r → IsPart d r
clipped_by d x y w h true e r is =
    let x_in : x < d.w = grind (arith, nat_tests) in
    let y_in : y < d.h = grind (arith, nat_tests) in
    let w_some : 0 < w = grind (arith, nat_tests) in
    let h_some : 0 < h = grind (arith, nat_tests) in
    let rx : x ≡ r.x = cc in
    let ry : y ≡ r.y = cc in
    let rw_is : min w (d.w - x) ≡ r.w = cc in
    let rh_is : min h (d.h - y) ≡ r.h = cc in
    record {
      inside = record { columns = omega arith; rows = omega arith };
      not_empty = (omega arith, omega arith);
    }
clipped_by d x y w h false e r is = cc

clipped_is_part : (d : Dim) (x y w h : ℕ) (r : Rect) → clipped d x y w h ≡ Ok r → IsPart d r
unfolding clipped
clipped_is_part d x y w h r is = clipped_by d x y w h _ refl r is

-- A region that is accepted is a part of the image.
pub region_of_part : (g : Region) (d : Dim) (r : Rect) → region_of g d ≡ Ok r → IsPart d r
unfolding region_of
region_of_part Full d r is = clipped_is_part d _ _ _ _ r is
region_of_part Square d r is = clipped_is_part d _ _ _ _ r is
region_of_part (Pixels x y w h) d r is = clipped_is_part d _ _ _ _ r is
region_of_part (Percents x y w h) d r is = clipped_is_part d _ _ _ _ r is

-- Sides that don't test larger are within the region's.
pub is_larger_false : (a b : ℕ) (s : ℕ × ℕ) → is_larger a b s ≡ false → (s.0 ≤ a) × (s.1 ≤ b)
is_larger_false a b s e =
    let w : s.0 ≤ a = grind (arith, nat_tests) in
    let h : s.1 ≤ b = grind (arith, nat_tests) in
    (w, h)

sides_within : (a b : ℕ) (l : Limits) (s : ℕ × ℕ) → (s.0 == 0 || s.1 == 0) ≡ false → (l.upscale ≡ false → is_larger a b s ≡ false) →
    is_above_limits l s ≡ false → (r : Dim)
    → s.0 ≡ r.w → s.1 ≡ r.h → IsWithin a b l r
sides_within a b l s z e m r w_is h_is =
    let w_some : 0 < s.0 = grind (arith, nat_tests) in
    let h_some : 0 < s.1 = grind (arith, nat_tests) in
    let w_limit : s.0 ≤ l.max_w = grind (arith, nat_tests) in
    let h_limit : s.1 ≤ l.max_h = grind (arith, nat_tests) in
    record {
      not_zero = (omega arith, omega arith);
      not_larger = λ (none : l.upscale ≡ false).
          let region = is_larger_false a b s (e none) in
          (omega (arith, region.0, w_is), omega (arith, region.1, h_is));
      within_limits = (omega arith, omega arith);
    }

checked_by : (up above may zero_side larger above_limits : Bool) (a b : ℕ) (l : Limits) (s : ℕ × ℕ) → l.upscale ≡ may
    → (s.0 == 0 || s.1 == 0) ≡ zero_side → is_larger a b s ≡ larger → is_above_limits l s ≡ above_limits → (r : Dim)
    → (if zero_side then Err Zero else (if not up && (larger || above) then Err Larger else
    (if up && not may && larger then Err Upscale else (
    if above_limits then Err Limit else Ok (record { w = s.0; h = s.1 }))))) ≡ Ok r → IsWithin a b l r
checked_by up above may true larger above_limits a b l s u z e m r is = cc
checked_by false true may false true above_limits a b l s u z e m r is = cc
checked_by false true may false false above_limits a b l s u z e m r is = cc
checked_by false false may false true above_limits a b l s u z e m r is = cc
checked_by true above false false true above_limits a b l s u z e m r is = cc
checked_by false false may false false true a b l s u z e m r is = cc
checked_by true above true false false true a b l s u z e m r is = cc
checked_by true above false false false true a b l s u z e m r is = cc
checked_by true above true false true true a b l s u z e m r is = cc
checked_by false false may false false false a b l s u z e m r is = sides_within a b l s z (λ none. e) m r (cc) (cc)
checked_by true above true false false false a b l s u z e m r is = sides_within a b l s z (λ none. e) m r (cc) (cc)
checked_by true above false false false false a b l s u z e m r is = sides_within a b l s z (λ none. e) m r (cc) (cc)
checked_by true above true false true false a b l s u z e m r is = sides_within a b l s z (λ none. cc) m r (cc) (cc)

-- Sides that pass the checks are within the region's and the limits.
pub checked_is_within : (up above : Bool) (a b : ℕ) (l : Limits) (s : ℕ × ℕ) (r : Dim) → checked up above a b l s ≡ Ok r → IsWithin a b l r
unfolding checked
checked_is_within up above a b l s r is = checked_by up above _ _ _ _ a b l s refl refl refl refl r is

-- A size that is accepted is within the region's and the limits.
pub size_of_within : (s : Size) (a b : ℕ) (l : Limits) (r : Dim) → size_of s a b l ≡ Ok r → IsWithin a b l r
unfolding size_of
size_of_within s a b l r is = checked_is_within _ _ a b l _ r is

quarters_of_few : (n : Decimal) → quarters_of n < 4
unfolding quarters_of
quarters_of_few n = omega arith

plain_quality_twice : (k : Kind) (q : Quality) → plain_quality k (plain_quality k q) ≡ plain_quality k q
plain_quality_twice k Default = refl
plain_quality_twice k Color = refl
plain_quality_twice kind.Gray Gray = refl
plain_quality_twice kind.Rgb Gray = refl
plain_quality_twice k Bitonal = refl

by_size : (d : Dim) (k : Kind) (l : Limits) (q : Request) (rect : Rect) (s : Result Dim Refusal) (r : Resolved) → IsPart d rect
    → ((size : Dim) → s ≡ Ok size → IsWithin rect.w rect.h l size)
    → (s >>= (λ size. Ok (record { rect = rect; size = size; turn = turn_of q.rotation; quality = plain_quality k q.quality }))) ≡ Ok r →
    IsResolved d k l r
by_size d k l q rect (Err e) r part within is = cc
by_size d k l q rect (Ok size) r part within is =
    let found : Resolved = record { rect = rect; size = size; turn = turn_of q.rotation; quality = plain_quality k q.quality } in
    let same : found ≡ r = cc in
    let sized = within size refl in
    let all : IsResolved d k l found = record {
      inside = part.inside;
      not_empty = part.not_empty;
      not_zero = sized.not_zero;
      not_larger = sized.not_larger;
      within_limits = sized.within_limits;
      quarters = quarters_of_few q.rotation.degrees;
      quality = plain_quality_twice k q.quality;
    } in
    subst (IsResolved d k l) same all

by_region : (d : Dim) (k : Kind) (l : Limits) (q : Request) (g : Result Rect Refusal) (r : Resolved)
    → ((rect : Rect) → g ≡ Ok rect → IsPart d rect)
    → (g >>= (λ rect. size_of q.size rect.w rect.h l >>=
    (λ size. Ok (record { rect = rect; size = size; turn = turn_of q.rotation; quality = plain_quality k q.quality })))) ≡ Ok r
    → IsResolved d k l r
by_region d k l q (Err e) r part is = cc
by_region d k l q (Ok rect) r part is =
    by_size d k l q rect (size_of q.size rect.w rect.h l) r (part rect refl) (λ size found. size_of_within q.size rect.w rect.h l size
    found)
    is

-- The values of a request that is accepted are within the image and the limits.
pub resolved_of_ok : (q : Request) (d : Dim) (k : Kind) (l : Limits) (r : Resolved) → resolved_of q d k l ≡ Ok r → IsResolved d k l r
unfolding resolved_of
resolved_of_ok q d k l r is = by_region d k l q (region_of q.region d) r (λ rect found. region_of_part q.region d rect found) is
