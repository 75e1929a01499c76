-- Spans written into pictures, and parts of tiles copied into the picture of a region.
use Rattle.std.proofs.Common.{◌≡◌, ℕ, ◌+◌, ◌-◌, ◌*◌, ◌<◌, ◌≤◌, List, [], ◌∷◌, ◌++◌, Bool, length, get_or, take, drop, count_by, map}
use Rattle.std.proofs.Common.{append_assoc, sym, subst, ap, ◌∙◌, arith, ⊎_elim, if◌then◌else◌}
use borrow.Rule.Slice.PartMut.{put_mid}
use Rattle.std.proofs.lemmas.Bool.{cases_lt}
use Rattle.std.proofs.lemmas.List.{drop-drop, map-append}
use Rattle.std.proofs.lemmas.List.Sums.{sum_by-append, sum_by-cons}
use Rattle.iiif_pixel.specs.Geometry.{HasPlace, LiesIn}
use Rattle.iiif_pixel.specs.Picture.{Picture, IsWhole, dim_of, sample_at, span_of, with_span}
use Rattle.iiif_pixel.specs.Operations.{crop}
use Rattle.iiif_pixel.specs.declared.geometry.Rect.{Rect}
use Rattle.iiif_pixel.proofs.Crops.{span_fits}
use Rattle.iiif_pixel.proofs.Reading.{sample_at-crop, get_or-span_of}
use Rattle.iiif_pixel.proofs.SampleLists.{length-row_of, same_pictures}
use Rattle.iiif_area.specs.Grid.{has_place}
use Rattle.iiif_area.specs.Laws.{IsCutInto}
use Rattle.iiif_area.specs.Places.{part_of, corner_of}
use Rattle.iiif_area.proofs.CutLaws.{mark}
use Rattle.iiif_area.proofs.GridLaws.{get_or-row_written, get_or-row_kept, place_cases, has_place-yes, has_place-no}
use Rattle.iiif_area.proofs.TileLaws.{same_place_of_image}
use Rattle.iiif_assemble.specs.Code.{Copies, HasCopied}

pub length-span_of : (p : Picture) (x y w : ℕ) → length (span_of p x y w) ≡ w * p.channels
length-span_of p x y w = length-row_of w p.channels (λ i k. sample_at p (x + i) y k)

with_span-is : (p : Picture) (x y w : ℕ) (s : List ℕ) → length s ≡ w * p.channels →
    (with_span p x y s).samples ≡ put_mid ((y * p.width + x) * p.channels) (w * p.channels) p.samples s
with_span-is p x y w s len =
    let start = (y * p.width + x) * p.channels in
    ap (λ n. take start p.samples ++ s ++ drop (start + n) p.samples) len
    ∙ ap (λ rest. take start p.samples ++ s ++ rest) (sym (drop-drop (w * p.channels) start p.samples))
    ∙ append_assoc (take start p.samples) s (drop (w * p.channels) (drop start p.samples))

-- a span that is written is read again, and every other place has what it had
sample_at-written : (p : Picture) (x y w i k : ℕ) (s : List ℕ) → length p.samples ≡ p.width * p.height * p.channels → x + w ≤ p.width →
    y < p.height →
    length s ≡ w * p.channels → x ≤ i → i < x + w → k < p.channels →
    sample_at (with_span p x y s) i y k ≡ get_or s ((i - x) * p.channels + k) 0
unfolding sample_at
sample_at-written p x y w i k s count columns row len low high channel =
    ap (λ xs. get_or xs ((y * p.width + i) * p.channels + k) 0) (with_span-is p x y w s len)
    ∙ get_or-row_written p.samples s p.width p.channels x w y i k len (span_fits p x y w columns row count) low high channel

sample_at-kept : (p : Picture) (x y w i j k : ℕ) (s : List ℕ) → length p.samples ≡ p.width * p.height * p.channels → x + w ≤ p.width →
    y < p.height →
    length s ≡ w * p.channels → i < p.width → k < p.channels → (j ≡ y → x ≤ i → i < x + w → ⊥) →
    sample_at (with_span p x y s) i j k ≡ sample_at p i j k
unfolding sample_at
sample_at-kept p x y w i j k s count columns row len column channel apart =
    ap (λ xs. get_or xs ((j * p.width + i) * p.channels + k) 0) (with_span-is p x y w s len)
    ∙ get_or-row_kept p.samples s p.width p.channels x w y i j k len (span_fits p x y w columns row count) columns column channel apart

-- the first n rows of a part
abbrev pub first_rows : Rect → ℕ → Rect
first_rows part n = record { x = part.x; y = part.y; w = part.w; h = n }

-- the samples that a tile has for a part, from its place `corner` on
abbrev pub from_tile : Picture → ℕ × ℕ → Rect → ℕ → ℕ → ℕ → ℕ
from_tile tile corner part x y k = sample_at tile (corner.0 + (x - part.x)) (corner.1 + (y - part.y)) k

-- one row more
pub copies_row : (part : Rect) (corner : ℕ × ℕ) (tile old mid new : Picture) (n : ℕ) →
    Copies (first_rows part n) (from_tile tile corner part) old mid →
    length mid.samples ≡ mid.width * mid.height * mid.channels → n < part.h → LiesIn part (dim_of old) → tile.channels ≡ old.channels →
    new ≡ with_span mid part.x (part.y + n) (span_of tile corner.0 (corner.1 + n) part.w) →
    Copies (first_rows part (n + 1)) (from_tile tile corner part) old new
copies_row part corner tile old mid new n before count more inside same made =
    let s = span_of tile corner.0 (corner.1 + n) part.w in
    let len : length s ≡ part.w * mid.channels = length-span_of tile corner.0 (corner.1 + n) part.w ∙
    ap (λ c. part.w * c) (same ∙ sym before.channels) in
    let columns : part.x + part.w ≤ mid.width = let l = inside.columns in let e = before.width in omega arith in
    let row : part.y + n < mid.height = let l = inside.rows in let e = before.height in omega arith in
    let stays = λ (x y k : ℕ) (lx : x < old.width) (lk : k < old.channels) (apart : y ≡ part.y + n → part.x ≤ x → x < part.x + part.w → ⊥).
    (let e = before.width in let d = before.channels in
    ap (λ (p : Picture). sample_at p x y k) made ∙
    sample_at-kept mid part.x (part.y + n) part.w x y k s count columns row len (omega arith) (omega arith) apart) in
    record {
      width = ap (λ (p : Picture). p.width) made ∙ before.width;
      height = ap (λ (p : Picture). p.height) made ∙ before.height;
      channels = ap (λ (p : Picture). p.channels) made ∙ before.channels;
      top = ap (λ (p : Picture). p.top) made ∙ before.top;
      copied = λ x y k h lk. ⊎_elim
          (λ (above : y < part.y + n). let l = inside.columns in
          stays x y k (omega arith) lk (λ e _ _. omega arith) ∙ before.copied x y k (h.0, h.1, h.2, above) lk)
          (λ (below : part.y + n ≤ y).
          let at : y ≡ part.y + n = omega arith in
          let d = before.channels in
          ap (λ (p : Picture). sample_at p x y k) made
          ∙ ap (λ j. sample_at (with_span mid part.x (part.y + n) s) x j k) at
          ∙ sample_at-written mid part.x (part.y + n) part.w x k s count columns row len h.0 h.1 (omega arith)
          ∙ ap (λ c. get_or s ((x - part.x) * c + k) 0) (before.channels ∙ sym same)
          ∙ get_or-span_of tile corner.0 (corner.1 + n) part.w (x - part.x) k 0 (omega arith) (omega arith)
          ∙ ap (λ j. sample_at tile (corner.0 + (x - part.x)) (corner.1 + j) k) (omega arith))
          (cases_lt y (part.y + n));
      kept = λ x y k lx ly lk off.
          stays x y k lx lk (λ e l m. absurd (off (l, m, omega arith, omega arith)))
          ∙ before.kept x y k lx ly lk (λ h. off (h.0, h.1, h.2, omega arith));
    }

pub copies_as : (part : Rect) (f g : ℕ → ℕ → ℕ → ℕ) (old new : Picture) →
    ((x y k : ℕ) → HasPlace part x y → k < old.channels → f x y k ≡ g x y k) →
    Copies part f old new → Copies part g old new
copies_as part f g old new same c = record {
  width = c.width;
  height = c.height;
  channels = c.channels;
  top = c.top;
  copied = λ x y k h lk. c.copied x y k h lk ∙ same x y k h lk;
  kept = c.kept;
}

-- a tile's samples are the region's at the part's places
pub tile_has : (p : Picture) (at region : Rect) (x y k : ℕ) → HasPlace (part_of at region) x y → k < p.channels →
    from_tile (crop p at) (corner_of at region) (part_of at region) x y k ≡ sample_at (crop p region) x y k
tile_has p at region x y k h lk =
    let part = part_of at region in
    let corner = corner_of at region in
    let column = same_place_of_image at.x region.x x h.0 in
    let row = same_place_of_image at.y region.y y h.2 in
    sample_at-crop p at (corner.0 + (x - part.x)) (corner.1 + (y - part.y)) k (omega arith) (omega arith) lk
    ∙ ap (λ u. sample_at p u (at.y + (corner.1 + (y - part.y))) k) column ∙ ap (λ u. sample_at p (region.x + x) u k) row
    ∙ sym (sample_at-crop p region x y k (omega arith) (omega arith) lk)

-- so what is copied of a tile is copied of the region
pub copies_tile : (p tile old new : Picture) (at place region part : Rect) (corner : ℕ × ℕ) → at ≡ place → part ≡ part_of at region →
    corner ≡ corner_of at region →
    tile ≡ crop p place → old.channels ≡ p.channels → Copies part (from_tile tile corner part) old new →
    Copies (part_of place region) (λ x y k. sample_at (crop p region) x y k) old new
copies_tile p tile old new at place region part corner is is_part is_corner is_tile channels c =
    let same = part_of place region in
    let first = subst (λ (r : Rect). Copies r (from_tile tile corner r) old new) (is_part ∙ ap (λ (r : Rect). part_of r region) is) c in
    let second = subst (λ (k : ℕ × ℕ). Copies same (from_tile tile k same) old new) (is_corner ∙ ap (λ (r : Rect). corner_of r region) is)
    first in
    let third = subst (λ (t : Picture). Copies same (from_tile t (corner_of place region) same) old new) is_tile second in
    copies_as same _ (λ x y k. sample_at (crop p region) x y k) old new
    (λ x y k h lk. tile_has p place region x y k h (omega (arith, channels))) third

abbrev one_if : Bool → ℕ
one_if b = if b then 1 else 0

count_more : (x y : ℕ) (rects : List Rect) (r : Rect) →
    count_by (λ q. has_place q x y) (rects ++ r ∷ []) ≡ count_by (λ q. has_place q x y) rects + mark r x y
count_more x y rects r =
    sum_by-append (λ q. mark q x y) rects (r ∷ [])
    ∙ ap (λ n. count_by (λ q. has_place q x y) rects + n) (sum_by-cons (λ q. mark q x y) r [])
    ∙ omega arith

-- one part more
pub copied_more : (from old new : Picture) (rects : List Rect) (r : Rect) → HasCopied from rects old →
    Copies r (λ x y k. sample_at from x y k) old new →
    HasCopied from (rects ++ r ∷ []) new
copied_more from old new rects r before c = λ x y k lx ly lk some.
    let w = c.width in let h = c.height in let n = c.channels in
    ⊎_elim
    (λ (yes : HasPlace r x y). c.copied x y k yes (omega arith))
    (λ (no : ¬ (HasPlace r x y)).
    let none : mark r x y ≡ 0 = ap one_if (has_place-no r x y no) in
    let earlier : 0 < count_by (λ q. has_place q x y) rects = omega (arith, count_more x y rects r) in
    c.kept x y k (omega arith) (omega arith) (omega arith) no ∙ before x y k (omega arith) (omega arith) (omega arith) earlier)
    (place_cases r x y)

-- the parts of a cut are all
pub copied_all : (from p : Picture) (rects : List Rect) → HasCopied from rects p →
    IsCutInto (record { x = 0; y = 0; w = p.width; h = p.height }) rects →
    IsWhole p → IsWhole from → p.width ≡ from.width → p.height ≡ from.height → p.channels ≡ from.channels → p.top ≡ from.top → p ≡ from
copied_all from p rects copied cut whole whole' width height channels top =
    let all : Rect = record { x = 0; y = 0; w = p.width; h = p.height } in
    same_pictures p from whole whole' width height channels top (λ x y k lx ly lk.
    let one : mark all x y ≡ 1 = ap one_if (has_place-yes all x y (omega arith, omega arith, omega arith, omega arith)) in
    copied x y k lx ly lk (omega (arith, cut x y, one)))

-- the parts of some tiles, and of one more
pub tiles_more : {K : Type 0} (from old new : Picture) (part : K → Rect) (done : List K) (k : K) → HasCopied from (map part done) old →
    Copies (part k) (λ x y c. sample_at from x y c) old new → HasCopied from (map part (done ++ k ∷ [])) new
tiles_more from old new part done k before c =
    subst (λ rs. HasCopied from rs new) (sym (map-append part done (k ∷ []))) (copied_more from old new (map part done) (part k) before c)
