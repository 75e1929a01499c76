-- Samples made of all the sums of a grid.
use Rattle.std.proofs.Common.{◌≡◌, ℕ, zero, suc, ◌+◌, ◌-◌, ◌*◌, ◌/◌, ◌<◌, min, List, [], ◌∷◌, length, get_or, refl, ap, ◌∙◌, arith}
use Rattle.std.specs.List.{AllZip}
use Rattle.iiif_pixel.specs.Scaling.{average}
use Rattle.iiif_pixel.specs.declared.geometry.Dim.{Dim}
use Rattle.iiif_pixel.proofs.SampleLists.{index_below, samples_from_places}
use Rattle.iiif_area.specs.Grid.{Grid, average_within, finished, sum_at}

pub zipped_len : (a t : ℕ) (sums xs : List ℕ) → AllZip (λ s b. b ≡ average_within a t s) sums xs → length xs ≡ length sums
zipped_len a t [] [] h = refl
zipped_len a t [] (x ∷ xs) h = absurd h
zipped_len a t (s ∷ ss) [] h = absurd h
zipped_len a t (s ∷ ss) (x ∷ xs) h = let e = zipped_len a t ss xs h.1 in omega arith

zipped_at : (a t : ℕ) (sums xs : List ℕ) (i : ℕ) → AllZip (λ s b. b ≡ average_within a t s) sums xs → i < length sums →
    get_or xs i 0 ≡ average_within a t (get_or sums i 0)
zipped_at a t [] xs i h within = absurd (omega arith)
zipped_at a t (s ∷ ss) [] i h within = absurd h
zipped_at a t (s ∷ ss) (x ∷ xs) zero h within = h.0
zipped_at a t (s ∷ ss) (x ∷ xs) (suc i) h within = zipped_at a t ss xs i h.1 (omega arith)

pub all_finished : (g : Grid) (region : Dim) (a t : ℕ) (xs : List ℕ) → a ≡ region.w * region.h →
    length g.sums ≡ g.rect.w * g.rect.h * g.channels →
    AllZip (λ s b. b ≡ average_within a t s) g.sums xs → xs ≡ (finished g region t g.rect).samples
unfolding sum_at
all_finished g region a t xs area count zipped =
    let n = g.channels in
    let w = g.rect.w in
    samples_from_places w g.rect.h n xs _ (zipped_len a t g.sums xs zipped ∙ count) (λ x y k lx ly lk.
    let below = index_below w g.rect.h n x y k lx ly lk in
    let down : y ≡ g.rect.y + y - g.rect.y = omega arith in
    let right : x ≡ g.rect.x + x - g.rect.x = omega arith in
    zipped_at a t g.sums xs ((y * w + x) * n + k) zipped (omega (arith, below, count))
    ∙ ap (λ u. min t ((2 * get_or g.sums ((y * w + x) * n + k) 0 + u) / (2 * u))) area
    ∙ ap (λ u. min t (average region (get_or g.sums ((u * w + x) * n + k) 0))) down
    ∙ ap (λ u. min t (average region (get_or g.sums (((g.rect.y + y - g.rect.y) * w + u) * n + k) 0))) right)
