-- The fields of `Sums`, as the grid that contracts see.
use Rattle.std.proofs.Common.{◌≡◌, ℕ, ◌+◌, ◌-◌, ◌*◌, ◌^◌, ◌<◌, ◌≤◌, length, ap, sym, ◌∙◌, arith}
use Rattle.std.proofs.lemmas.Nat.{mul-le}
use Rattle.iiif_pixel.specs.declared.geometry.Rect.{Rect}
use Rattle.iiif_pixel.proofs.Channels.{channels_some}
use Rattle.iiif_pixel.proofs.Crops.{part_fits}
use Rattle.iiif_area.specs.Places.{IsInside}
use Rattle.iiif_area.proofs.GridLaws.{run-le}
use Rattle.iiif_pixel.specs.Geometry.{channels_of}
use Rattle.iiif_area.specs.Grid.{Grid}
use Rattle.iiif_area.specs.declared.sums.Sums.TheInside.{Inside}
use Rattle.iiif_area.specs.contracts.sums.Sums.{the_view, the_invariant}

-- The fields of sums agree with a grid.
pub record Seen (q : Inside) (g : Grid) : Type 0 where
  pub rect : q.rect ≡ g.rect
  pub channels : channels_of q.kind ≡ g.channels
  pub sums : q.sums.items ≡ g.sums
  pub count : length g.sums ≡ g.rect.w * g.rect.h * g.channels

-- They agree with the grid that is their model.
pub seen : (q : Inside) (g : Grid) → the_view q ≡ g → the_invariant q → Seen q g
seen q g e i = record {
  rect = ap (λ (v : Grid). v.rect) e;
  channels = ap (λ (v : Grid). v.channels) e;
  sums = ap (λ (v : Grid). v.sums) e;
  count = rw (← e) i;
}

-- The number of sums fits an index.
pub count_below : (q : Inside) → the_invariant q → q.rect.w * q.rect.h * channels_of q.kind < 2 ^ 63
count_below q i = omega (arith, i, q.sums.ok.0, q.sums.ok.1, q.sums.small)

-- Row y of a rectangle begins and ends within the sums.
pub record RowFits (q : Inside) (n : ℕ) (rect : Rect) (y : ℕ) : Type 0 where
  pub place : (rect.y - q.rect.y + y) * q.rect.w + (rect.x - q.rect.x) < 2 ^ 63
  pub end : ((rect.y - q.rect.y + y) * q.rect.w + (rect.x - q.rect.x)) * n + rect.w * n ≤ length q.sums.items
  pub small : length q.sums.items < 2 ^ 63

-- Each row of a rectangle within that of the sums fits so.
pub row_fits_in : (q : Inside) (n : ℕ) (rect : Rect) (y : ℕ) → the_invariant q → n ≡ channels_of q.kind → IsInside rect q.rect →
    y < rect.h → RowFits q n rect y
row_fits_in q n rect y i e inside l =
    let small = count_below q i in
    let end = run-le q.rect.w q.rect.h n (rect.x - q.rect.x) rect.w (rect.y - q.rect.y + y) (omega (arith, inside.left, inside.right))
    (omega (arith, inside.upper, inside.lower)) in
    let count : length q.sums.items ≡ q.rect.w * q.rect.h * n = i ∙ ap (λ u. q.rect.w * q.rect.h * u) (sym e) in
    let positive : 0 < n = rw e (channels_some q.kind) in
    let at = (rect.y - q.rect.y + y) * q.rect.w + (rect.x - q.rect.x) in
    let most = mul-le at 1 at n (omega arith) positive in
    record { place = omega arith; end = omega arith; small = omega arith }

-- All its rows together fit an index.
pub rows_fit_in : (q : Inside) (n : ℕ) (rect : Rect) → the_invariant q → n ≡ channels_of q.kind → IsInside rect q.rect →
    rect.w * n * rect.h < 2 ^ 63
rows_fit_in q n rect i e inside =
    let small = count_below q i in
    let part = part_fits rect.w rect.h n q.rect.w q.rect.h (omega (arith, inside.left, inside.right))
    (omega (arith, inside.upper, inside.lower)) in
    let count : q.rect.w * q.rect.h * n ≡ q.rect.w * q.rect.h * channels_of q.kind = ap (λ u. q.rect.w * q.rect.h * u) e in
    omega arith
