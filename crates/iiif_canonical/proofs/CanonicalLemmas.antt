-- Canonical form: it resolves to the values that it was written for, and is its own canonical form.
use Rattle.std.proofs.Common.{◌≡◌, ℕ, ◌-◌, ◌*◌, ◌<◌, Bool, true, false, ◌&&◌, nat_lt, refl, sym, ap, ◌∙◌, arith, Ok}
use Rattle.std.proofs.lemmas.Bool.{lt-ltb}
use Rattle.std.proofs.lemmas.Bool.Decides.{nat_tests}
use Rattle.std.specs.Prelude.{min, if◌then◌else◌, ◌==◌}
use Rattle.std.proofs.Math.Nat.{min-eq_left}
use Rattle.iiif_pixel.specs.Geometry.{LiesIn}
use Rattle.iiif_pixel.specs.declared.geometry.Dim.{Dim}
use Rattle.iiif_pixel.specs.declared.geometry.Kind.{Kind}
use Rattle.iiif_pixel.specs.declared.geometry.Rect.{Rect}
use Rattle.iiif_pixel.proofs.Parts.{same_rect}
use Rattle.iiif_request.specs.Requests.{IsShortRegion, IsShortForm, HasShortDecimals}
use Rattle.iiif_request.specs.declared.request.Region.TheVariants.{Full, Pixels}
use Rattle.iiif_request.specs.declared.request.Form.TheVariants.{Max, Both}
use Rattle.iiif_canonical.specs.Regions.{clipped, region_of}
use Rattle.iiif_canonical.specs.Sizes.{asked_of, is_larger, checked, size_of}
use Rattle.iiif_canonical.specs.Resolution.{resolved_of, quarters_of, IsResolved}
use Rattle.iiif_canonical.specs.Canonical.{canonical_region, canonical_size, canonical_of, canonical}
use Rattle.iiif_canonical.specs.declared.resolved.Limits.{Limits}
use Rattle.iiif_canonical.specs.declared.resolved.Resolved.{Resolved}
use Rattle.iiif_canonical.proofs.ResolutionLemmas.{IsPart, IsWithin, is_larger_false}

-- a rectangle of the image isn't clipped
clipped_inside : (d : Dim) (r : Rect) → IsPart d r → clipped d r.x r.y r.w r.h ≡ Ok r
unfolding clipped
clipped_inside d r part =
    let a : nat_lt r.x d.w ≡ true = lt-ltb _ _ (omega (arith, part.inside.columns, part.not_empty)) in
    let b : nat_lt r.y d.h ≡ true = lt-ltb _ _ (omega (arith, part.inside.rows, part.not_empty)) in
    let e : nat_lt 0 r.w ≡ true = lt-ltb _ _ (omega (arith, part.not_empty)) in
    let f : nat_lt 0 r.h ≡ true = lt-ltb _ _ (omega (arith, part.not_empty)) in
    let m : min r.w (d.w - r.x) ≡ r.w = min-eq_left (omega (arith, part.inside.columns)) in
    let n : min r.h (d.h - r.y) ≡ r.h = min-eq_left (omega (arith, part.inside.rows)) in
    rw (a, b, e, f, m, n) refl

-- the region that is written for a rectangle is that rectangle
region_by : (d : Dim) (r : Rect) (t : Bool) → IsPart d r → r.x == 0 && r.y == 0 && r.w == d.w && r.h == d.h ≡ t →
    region_of (if t then Full else Pixels r.x r.y r.w r.h) d ≡ Ok r
unfolding region_of
region_by d r true part e =
    let x : r.x ≡ 0 = grind (arith, nat_tests) in
    let y : r.y ≡ 0 = grind (arith, nat_tests) in
    let w : r.w ≡ d.w = grind (arith, nat_tests) in
    let h : r.h ≡ d.h = grind (arith, nat_tests) in
    let whole : Rect = record { x = 0; y = 0; w = d.w; h = d.h } in
    let same : whole ≡ r = sym (same_rect r whole x y w h) in
    let inside : LiesIn whole d = record { columns = omega arith; rows = omega arith } in
    clipped_inside d whole (record { inside = inside; not_empty = (omega (arith, part.not_empty, w), omega (arith, part.not_empty, h)) }) ∙
    ap Ok same
region_by d r false part e = clipped_inside d r part

canonical_region_resolves : (d : Dim) (r : Rect) → IsPart d r → region_of (canonical_region r d) d ≡ Ok r
unfolding canonical_region
canonical_region_resolves d r part = region_by d r _ part refl

-- a size above the region's isn't refused where the server scales up
larger_allowed : (may : Bool) (a b : ℕ) (l : Limits) (s : Dim) → l.upscale ≡ may → IsWithin a b l s → is_larger a b (s.w, s.h) ≡ true →
    l.upscale ≡ true
larger_allowed true a b l s u within larger = u
larger_allowed false a b l s u within larger =
    let region = within.not_larger u in
    grind (arith, nat_tests, region.0, region.1)

-- sides within the limits, written with `^` just where one is above the region's, aren't refused
checked_ok : (up : Bool) (a b : ℕ) (l : Limits) (s : Dim) → IsWithin a b l s → is_larger a b (s.w, s.h) ≡ up →
    checked up false a b l (s.w, s.h) ≡ Ok s
unfolding checked
checked_ok false a b l s within larger =
    let region = is_larger_false a b (s.w, s.h) larger in
    grind (arith, nat_tests, within.not_zero, region, within.within_limits)
checked_ok true a b l s within larger =
    let may : l.upscale ≡ true = larger_allowed _ a b l s refl within larger in
    rw may (grind (arith, nat_tests, within.not_zero, within.within_limits))

same_pair : (p : ℕ × ℕ) (a b : ℕ) → p.0 ≡ a → p.1 ≡ b → p ≡ (a, b)
same_pair p a b ea eb = λ i. (ea i, eb i)

same_most : (most : ℕ × ℕ) (s : Dim) → s.w == most.0 && s.h == most.1 ≡ true → most ≡ (s.w, s.h)
same_most most s e =
    let w : most.0 ≡ s.w = grind (arith, nat_tests) in
    let h : most.1 ≡ s.h = grind (arith, nat_tests) in
    same_pair most s.w s.h w h

size_by : (up : Bool) (a b : ℕ) (l : Limits) (s : Dim) (t : Bool) → IsWithin a b l s → is_larger a b (s.w, s.h) ≡ up
    → s.w == (asked_of up Max a b l).0 && s.h == (asked_of up Max a b l).1 ≡ t
    → size_of (record { up = up; form = if t then Max else Both s.w s.h }) a b l ≡ Ok s
unfolding size_of
size_by up a b l s true within larger e =
    rw (same_most (asked_of up Max a b l) s e) (checked_ok up a b l s within larger)
size_by up a b l s false within larger e = unfold asked_of in checked_ok up a b l s within larger

-- the size that is written comes to the size
canonical_size_resolves : (a b : ℕ) (l : Limits) (s : Dim) → IsWithin a b l s → size_of (canonical_size s a b l) a b l ≡ Ok s
unfolding canonical_size
canonical_size_resolves a b l s within = size_by _ a b l s _ within refl refl

quarters_of_whole : (q : ℕ) → q < 4 → quarters_of (record { digits = 90 * q; places = 0 }) ≡ q
unfolding quarters_of
quarters_of_whole q few = omega arith

-- The canonical form resolves to the values that it was written for.
pub canonical_of_resolves : (r : Resolved) (d : Dim) (k : Kind) (l : Limits) → IsResolved d k l r →
    resolved_of (canonical_of r d l) d k l ≡ Ok r
unfolding resolved_of canonical_of
canonical_of_resolves r d k l is =
    let part : IsPart d r.rect = record { inside = is.inside; not_empty = is.not_empty } in
    let within : IsWithin r.rect.w r.rect.h l r.size =
    record { not_zero = is.not_zero; not_larger = is.not_larger; within_limits = is.within_limits } in
    rw (
      canonical_region_resolves d r.rect part,
      canonical_size_resolves r.rect.w r.rect.h l r.size within,
      quarters_of_whole
          r.turn.quarters is.quarters,
      is.quality,
    ) refl

-- The canonical form is its own canonical form.
pub canonical_of_fixed : (r : Resolved) (d : Dim) (k : Kind) (l : Limits) → IsResolved d k l r →
    canonical (canonical_of r d l) d k l ≡ Ok (canonical_of r d l)
unfolding canonical
canonical_of_fixed r d k l is = rw (canonical_of_resolves r d k l is) refl

canonical_region_short : (r : Rect) (t : Bool) → IsShortRegion (if t then Full else Pixels r.x r.y r.w r.h)
canonical_region_short r true = tt
canonical_region_short r false = tt

canonical_size_short : (s : Dim) (t : Bool) → IsShortForm (if t then Max else Both s.w s.h)
canonical_size_short s true = tt
canonical_size_short s false = tt

-- No decimal of the canonical form has places.
pub canonical_of_short : (r : Resolved) (d : Dim) (l : Limits) → HasShortDecimals (canonical_of r d l)
unfolding canonical_of canonical_region canonical_size
canonical_of_short r d l = record {
  region = canonical_region_short r.rect _;
  size = canonical_size_short r.size _;
  degrees = omega arith;
}
