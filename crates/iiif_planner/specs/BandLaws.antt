-- The laws of bands: which places are listed, and how bands cut a result.
--
-- `PlacesRise`, `PlacesAreThose`: what the list of a band's items is. `BandsCutPictures`: the bands of a picture are the picture.
-- `BandsAreLow`: no band has more rows than asked for. `BandsAreEach`: band i alone is band i of all.
use Rattle.std.specs.Prelude.{◌≡◌, ℕ, ◌<◌, ◌≤◌, min, List, Bool, All, AllPairs, map, get_or, length}
use Rattle.std.specs.List.{filter, flat_map}
use Rattle.iiif_pixel.specs.Geometry.{LiesIn}
use Rattle.iiif_pixel.specs.Operations.{crop}
use Rattle.iiif_pixel.specs.Picture.{Picture, IsWhole, dim_of}
use Rattle.iiif_pixel.specs.TurnPlaces.{turned_dim}
use Rattle.iiif_pixel.specs.declared.geometry.Dim.{Dim}
use Rattle.iiif_pixel.specs.declared.geometry.Rect.{Rect}
use Rattle.iiif_canonical.specs.declared.resolved.Resolved.{Resolved}
use Rattle.iiif_planner.specs.declared.plans.Plan.{Plan}
use Rattle.iiif_planner.specs.Bands.{places_from, AreBands, IsBand}
use Rattle.iiif_planner.specs.declared.banding.Band.{Band}

-- The places of a list stand in order, each once.
abbrev pub PlacesRise : Type 0 → Type 0
PlacesRise K = (n : ℕ) (test : K → Bool) (keys : List K) → AllPairs (λ i j. i < j) (places_from n test keys)

-- What stands at these places is what passes the test, in the list's order.
abbrev pub PlacesAreThose : Type 0 → Type 0
PlacesAreThose K = (test : K → Bool) (keys : List K) (x : K) → map (λ i. get_or keys i x) (places_from 0 test keys) ≡ filter test keys

-- Of a picture with the turned result's sides, the parts in the bands, one below the other, are the picture.
abbrev pub BandsCutPictures : Type 0
BandsCutPictures =
    (r : Resolved) (plan : Plan) (rows : ℕ) (bs : List Band) (p : Picture) → 0 < rows → AreBands r plan rows bs → IsWhole p →
    dim_of p ≡ turned_dim r.turn r.size →
    flat_map (λ b. (crop p b.rect).samples) bs ≡ p.samples

-- A band lies in a result, and has all its columns, at least one row, and at most so many.
pub record IsLow (d : Dim) (rows : ℕ) (rect : Rect) : Type 0 where
  pub inside : LiesIn rect d
  pub columns : rect.w ≡ d.w
  pub some : 0 < rect.h
  pub few : rect.h ≤ min rows d.h

-- Each band of a result is low.
abbrev pub BandsAreLow : Type 0
BandsAreLow = (r : Resolved) (plan : Plan) (rows : ℕ) (bs : List Band) → 0 < rows → AreBands r plan rows bs →
    All (λ b. IsLow (turned_dim r.turn r.size) rows b.rect) bs

-- The band that stands at place i of the bands of a result is band i: what is said of band i determines its rows and its items.
abbrev pub BandsAreEach : Type 0
BandsAreEach =
    (r : Resolved) (plan : Plan) (rows i : ℕ) (bs : List Band) (b : Band) → AreBands r plan rows bs → i < length bs →
    IsBand r plan rows i b →
    ((get_or bs i b).rect ≡ b.rect) × ((get_or bs i b).items.items ≡ b.items.items)
