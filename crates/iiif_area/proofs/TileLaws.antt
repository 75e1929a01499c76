-- The samples and sums of a tile, as those of the picture that it is cut from.
use Rattle.std.proofs.Common.{◌≡◌, ℕ, ◌+◌, ◌-◌, ◌<◌, ◌≤◌, max, sym, ap, ◌∙◌, arith}
use Rattle.iiif_pixel.specs.Geometry.{sides_of}
use Rattle.iiif_pixel.specs.Picture.{Picture, sample_at}
use Rattle.iiif_pixel.specs.Operations.{crop}
use Rattle.iiif_pixel.specs.Scaling.{area_sum}
use Rattle.iiif_pixel.specs.declared.geometry.Dim.{Dim}
use Rattle.iiif_pixel.specs.declared.geometry.Rect.{Rect}
use Rattle.iiif_pixel.proofs.Reading.{sample_at-crop}
use Rattle.iiif_area.specs.declared.places.Share.{Share}
use Rattle.iiif_area.specs.Code.{share_of, share_sums, tile_sample}
use Rattle.iiif_area.specs.Grid.{Grid, grid_of, part_sum, sums_of}
use Rattle.iiif_area.specs.Places.{corner_of, part_of, places_of}
use Rattle.iiif_area.proofs.AreaLaws.{area_same}
use Rattle.iiif_area.proofs.GridLaws.{grid_of-same}

-- A column of the image, counted from the tile's corner and from the region's.
pub same_place_of_image : (t r x : ℕ) → max t r - r ≤ x → t + (max t r - t + (x - (max t r - r))) ≡ r + x
same_place_of_image t r x h = omega arith

-- The part's sum by the tile's samples is that by the region's.
tile_area : (p : Picture) (at region : Rect) (size : Dim) (i j k : ℕ) → k < p.channels →
    area_sum (sides_of region) size (part_of at region) (tile_sample (crop p at) (corner_of at region) (part_of at region) k) i j
    ≡ part_sum (crop p region) size (part_of at region) i j k
unfolding tile_sample part_sum
tile_area p at region size i j k lk =
    let part = part_of at region in
    let corner = corner_of at region in
    area_same (sides_of region) size part _ _ i j (λ x y h.
    let column = same_place_of_image at.x region.x x h.0 in
    let row = same_place_of_image at.y region.y y h.2 in
    sample_at-crop p at (corner.0 + (x - part.x)) (corner.1 + (y - part.y)) k (omega arith) (omega arith) lk
    ∙ ap (λ u. sample_at p u (at.y + (corner.1 + (y - part.y))) k) column ∙ ap (λ u. sample_at p (region.x + x) u k) row
    ∙ sym (sample_at-crop p region x y k (omega arith) (omega arith) lk))

-- The sums of a tile's samples, at the result places `rect`.
abbrev pub tile_grid : Rect → Dim → Rect → Rect → ℕ × ℕ → Picture → Grid
tile_grid region size rect part corner tile =
    grid_of rect tile.channels (λ i j k. area_sum (sides_of region) size part (tile_sample tile corner part k) i j)

-- They are those of the region's part.
pub tile_grid-is : (p : Picture) (at region : Rect) (size : Dim) →
    tile_grid region size (places_of (sides_of region) size (part_of at region)) (part_of at region) (corner_of at region) (crop p at) ≡
    sums_of (crop p region) size (part_of at region)
tile_grid-is p at region size =
    grid_of-same (places_of (sides_of region) size (part_of at region)) p.channels _ _ (λ i j k _ lk. tile_area p at region size i j k lk)

-- The sums of a tile's share are those of the region's part.
pub share_sums_are : (p : Picture) (at region : Rect) (size : Dim) (share : Share) (tile : Picture) → share ≡ share_of at region size →
    tile ≡ crop p at → share_sums tile share ≡ sums_of (crop p region) size (part_of at region)
unfolding share_sums
share_sums_are p at region size share tile es et =
    ap (λ (s : Share). share_sums tile s) es ∙ ap (λ (t : Picture). share_sums t (share_of at region size)) et
    ∙ tile_grid-is p at region size
