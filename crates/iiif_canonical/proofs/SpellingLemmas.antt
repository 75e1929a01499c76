-- Words of a request's text: they spell it.
use Rattle.std.proofs.Common.{◌≡◌, ℕ, ◌^◌, ◌<◌, Bool, true, false, List, ◌++◌, refl, arith, decimal}
use Rattle.std.specs.Prelude.{codes, if◌then◌else◌}
use Rattle.iiif_pixel.specs.Geometry.{LiesIn}
use Rattle.iiif_pixel.specs.declared.geometry.Dim.{Dim}
use Rattle.iiif_pixel.specs.declared.geometry.Kind.{Kind}
use Rattle.iiif_pixel.specs.declared.geometry.Rect.{Rect}
use Rattle.iiif_pixel.specs.declared.geometry.Quality.{Quality}
use Rattle.iiif_pixel.specs.declared.geometry.Quality.TheVariants.{Default, Color, Gray, Bitonal}
use Rattle.iiif_request.proofs.RequestLemmas.{IsWhole_small}
use Rattle.iiif_request.specs.Requests.{IsShortRegion, IsShortForm, HasShortDecimals, IsSmallRegion, IsSmallForm, HasSmallNumbers}
use Rattle.iiif_request.specs.Spells.{mark, SpellsRegion, SpellsForm, SpellsQuality, IsQuarters, Texts, SpellsRequest}
use Rattle.iiif_request.specs.declared.request.Region.{Region}
use Rattle.iiif_request.specs.declared.request.Region.TheVariants.{Full, Square, Pixels, Percents}
use Rattle.iiif_request.specs.declared.request.Form.{Form}
use Rattle.iiif_request.specs.declared.request.Form.TheVariants.{Max, Width, Height, Percent, Both, Within}
use Rattle.iiif_request.specs.declared.request.Request.{Request}
use Rattle.iiif_canonical.specs.Canonical.{canonical_region, canonical_size, canonical_of, HasShortSides}
use Rattle.iiif_canonical.specs.Resolution.{IsResolved}
use Rattle.iiif_canonical.specs.declared.resolved.Limits.{Limits}
use Rattle.iiif_canonical.specs.declared.resolved.Resolved.{Resolved}
use Rattle.iiif_canonical.specs.Texts.{decimal_text, region_text, form_text, rotation_text, quality_text, CanBeSpelled}
use Rattle.iiif_canonical.proofs.CanonicalLemmas.{canonical_of_short}
use Rattle.iiif_canonical.proofs.NumeralTexts.{whole_spelled, decimal_spelled, decimal_small}

-- Bounds of a request that some words spell.
pub record IsSpellable (q : Request) : Type 0 where
  pub short : HasShortDecimals q
  pub small : HasSmallNumbers q
  pub quarters : IsQuarters q.rotation.degrees

region_limits : (text : List ℕ) (g : Region) → SpellsRegion text g → IsShortRegion g × IsSmallRegion g
region_limits text Full s = (tt, tt)
region_limits text Square s = (tt, tt)
region_limits text (Pixels x y w h) s =
    (tt, (IsWhole_small s.0 x s.4, IsWhole_small s.1 y s.5, IsWhole_small s.2 w s.6, IsWhole_small s.3 h s.7))
region_limits text (Percents x y w h) s =
    let a = decimal_small s.0 x s.4 in
    let b = decimal_small s.1 y s.5 in
    let c = decimal_small s.2 w s.6 in
    let d = decimal_small s.3 h s.7 in
    ((a.0, b.0, c.0, d.0), (a.1, b.1, c.1, d.1))

form_limits : (text : List ℕ) (f : Form) → SpellsForm text f → IsShortForm f × IsSmallForm f
form_limits text Max s = (tt, tt)
form_limits text (Width w) s = (tt, IsWhole_small s.0 w s.1)
form_limits text (Height h) s = (tt, IsWhole_small s.0 h s.1)
form_limits text (Percent n) s = decimal_small s.0 n s.1
form_limits text (Both w h) s = (tt, (IsWhole_small s.0 w s.2, IsWhole_small s.1 h s.3))
form_limits text (Within w h) s = (tt, (IsWhole_small s.0 w s.2, IsWhole_small s.1 h s.3))

-- A request that some words spell has short and small numbers, and degrees by quarters.
pub spellable : (q : Request) → CanBeSpelled q → IsSpellable q
spellable q can =
    let words = can.0 in
    let spells = can.1 in
    let region = region_limits words.region q.region spells.region in
    let size = form_limits spells.size.0 q.size.form spells.size.1 in
    let degrees = decimal_small spells.rotation.0 q.rotation.degrees spells.rotation.1 in
    record {
      short = record { region = region.0; size = size.0; degrees = degrees.0 };
      small = record { region = region.1; size = size.1; degrees = degrees.1 };
      quarters = spells.rotation.2;
    }

region_spelled : (g : Region) → IsShortRegion g → IsSmallRegion g → SpellsRegion (region_text g) g
region_spelled Full short small = refl
region_spelled Square short small = refl
region_spelled (Pixels x y w h) short small = (
  decimal x,
  decimal y,
  decimal w,
  decimal h,
  whole_spelled x small.0,
  whole_spelled y small.1,
  whole_spelled w small.2,
  whole_spelled h small.3,
  refl,
)
region_spelled (Percents x y w h) short small = (
  decimal_text x,
  decimal_text y,
  decimal_text w,
  decimal_text h,
  decimal_spelled x short.0 small.0,
  decimal_spelled y short.1 small.1,
  decimal_spelled w short.2 small.2,
  decimal_spelled h short.3 small.3,
  refl,
)

form_spelled : (f : Form) → IsShortForm f → IsSmallForm f → SpellsForm (form_text f) f
form_spelled Max short small = refl
form_spelled (Width w) short small = (decimal w, whole_spelled w small, refl)
form_spelled (Height h) short small = (decimal h, whole_spelled h small, refl)
form_spelled (Percent n) short small = (decimal_text n, decimal_spelled n short small, refl)
form_spelled (Both w h) short small = (decimal w, decimal h, whole_spelled w small.0, whole_spelled h small.1, refl)
form_spelled (Within w h) short small = (decimal w, decimal h, whole_spelled w small.0, whole_spelled h small.1, refl)

quality_spelled : (q : Quality) → SpellsQuality (quality_text q) q
quality_spelled Default = refl
quality_spelled Color = refl
quality_spelled Gray = refl
quality_spelled Bitonal = refl

-- Words of a request's text, decoded.
abbrev pub words_of : Request → Texts
words_of q = record {
  region = region_text q.region;
  size = mark q.size.up (codes "^") ++ form_text q.size.form;
  rotation = rotation_text q.rotation;
  quality = quality_text q.quality;
  format = codes "tif";
}

-- The decoded words of a request's text spell the request.
pub spelled : (q : Request) → IsSpellable q → SpellsRequest (words_of q) q
spelled q is = record {
  region = region_spelled q.region is.short.region is.small.region;
  size = (form_text q.size.form, form_spelled q.size.form is.short.size is.small.size, refl);
  rotation = (decimal_text q.rotation.degrees, decimal_spelled q.rotation.degrees is.short.degrees is.small.degrees, is.quarters, refl);
  quality = quality_spelled q.quality;
  format = refl;
}

region_by : (d : Dim) (r : Rect) (t : Bool) → LiesIn r d → d.w < 10 ^ 9 → d.h < 10 ^ 9 →
    IsSmallRegion (if t then Full else Pixels r.x r.y r.w r.h)
region_by d r true inside w h = tt
region_by d r false inside w h =
    (omega (arith, inside.columns), omega (arith, inside.rows), omega (arith, inside.columns), omega (arith, inside.rows))

form_by : (s : Dim) (t : Bool) → s.w < 10 ^ 9 → s.h < 10 ^ 9 → IsSmallForm (if t then Max else Both s.w s.h)
form_by s true w h = tt
form_by s false w h = (w, h)

-- the sides of a result have nine digits at most
sides_short : (may : Bool) (r : Resolved) (d : Dim) (k : Kind) (l : Limits) → l.upscale ≡ may → IsResolved d k l r → HasShortSides d l →
    (r.size.w < 10 ^ 9) × (r.size.h < 10 ^ 9)
sides_short true r d k l u is short =
    let limits = short.limits u in
    (omega (arith, limits.0, is.within_limits), omega (arith, limits.1, is.within_limits))
sides_short false r d k l u is short =
    let region = is.not_larger u in
    (omega (arith, region.0, is.inside.columns, short.image), omega (arith, region.1, is.inside.rows, short.image))

-- Some words spell the canonical form, where no side has more than nine digits.
pub canonical_of_spelled : (r : Resolved) (d : Dim) (k : Kind) (l : Limits) → IsResolved d k l r → HasShortSides d l →
    CanBeSpelled (canonical_of r d l)
unfolding canonical_of canonical_region canonical_size
canonical_of_spelled r d k l is sides =
    let c = canonical_of r d l in
    let size = sides_short _ r d k l refl is sides in
    let spellable : IsSpellable c = record {
      short = canonical_of_short r d l;
      small = record {
        region = region_by d r.rect _ is.inside sides.image.0 sides.image.1;
        size = form_by r.size _ size.0 size.1;
        degrees = omega (arith, is.quarters);
      };
      quarters = (r.turn.quarters, omega (arith, is.quarters), omega arith);
    } in
    (words_of c, spelled c spellable)
