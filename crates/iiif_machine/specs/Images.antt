-- Images, and how they are put together of the values of a plan's items.
use Rattle.std.specs.Prelude.{ℕ, ◌+◌, ◌-◌, ◌*◌, ◌/◌, ◌%◌, List, Result, map, fold, slice_get}
use Rattle.iiif_pixel.specs.Geometry.{sides_of}
use Rattle.iiif_pixel.specs.Picture.{picture_of, sample_at}
use Rattle.iiif_pixel.specs.Operations.{turn, quality}
use Rattle.iiif_pixel.specs.Scaling.{scale, whole_of}
use Rattle.iiif_pixel.specs.declared.geometry.Rect.{Rect}
use Rattle.iiif_area.specs.Grid.{grid_of, merged, finished}
use Rattle.iiif_canonical.specs.Images as canonical
use Rattle.iiif_planner.specs.Items.{squares_met}
use Rattle.iiif_machine.specs.Scenes.{Scene}
use Rattle.iiif_machine.specs.Keys.{Value, picture_in, grid_in}
use Rattle.iiif_machine.specs.Plans.{Request, Refusal, Resolved, Way, copied, grown, summed, way_of}
pub use Rattle.iiif_pixel.specs.Picture.{Picture}

-- the image that a request asks for, or its first refusal
unfoldable pub image : Scene → Picture → Request → Result Picture Refusal
image s p q = canonical.image p q s.limits

-- The tiles of a region put together: each place has what the tile in its column and row of the grid has there.
abbrev pub pasted : ℕ → Picture → Rect → List Value → Picture
pasted edge p region tiles =
    let met = squares_met edge region in
    picture_of region.w region.h p.channels p.top (λ x y channel.
    let column = region.x + x in
    let row = region.y + y in
    let number = (row / edge - met.top) * (met.right - met.left) + (column / edge - met.left) in
    sample_at (picture_in (slice_get tiles number)) (column % edge) (row % edge) channel)

-- the averages of the merged sums of a region's blocks
abbrev pub averaged : Picture → Resolved → List Value → Picture
averaged p r sums =
    let places = whole_of r.size in
    let none = grid_of places p.channels (λ i j channel. 0) in
    finished (fold merged none (map grid_in sums)) (sides_of r.rect) p.top places

-- the region at its size
abbrev pub made : Scene → Picture → Resolved → List Value → Way → Picture
made s p r values copied = pasted s.edge p r.rect values
made s p r values grown = scale (pasted s.edge p r.rect values) r.size
made s p r values (summed level) = averaged p r values

-- what the values of the items make: the region at its size, turned, in its quality (IIIF Image API 3.0, section 4)
unfoldable pub assembled : Scene → Picture → Resolved → List Value → Picture
assembled s p r values = quality (turn (made s p r values (way_of s p r)) r.turn) r.quality
