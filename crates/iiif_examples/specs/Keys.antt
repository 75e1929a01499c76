-- Keys of the worked examples, all of the image `a`, which is the ramp, and the bytes of two of them.
use Rattle.std.specs.Prelude.{ℕ, false, List, [], ◌∷◌, codes, None, Some, if◌then◌else◌}
use Rattle.std.specs.Str.{bytes_eq}
use Rattle.iiif_pixel.specs.declared.geometry.Dim.{Dim}
use Rattle.iiif_pixel.specs.declared.geometry.Quality.TheVariants.{Default}
use Rattle.iiif_pixel.specs.declared.geometry.Rect.{Rect}
use Rattle.iiif_canonical.specs.declared.resolved.Resolved.{Resolved}
use Rattle.iiif_area.specs.Grid.{Grid}
use Rattle.iiif_keys.specs.Names.{Pictures}
use Rattle.iiif_keys.specs.declared.keys.SumKey.{SumKey}
use Rattle.iiif_keys.specs.declared.keys.TileKey.{TileKey}
use Rattle.iiif_keys.specs.declared.values.SumVal.{SumVal}
use Rattle.iiif_examples.specs.Pictures.{at, by_quarters, ramp, sides}

-- the one image
abbrev pub shows_ramp : Pictures
shows_ramp name = if bytes_eq name (codes "a") then Some ramp else None

-- the tile in a column and a row, of an edge
abbrev pub tile : ℕ → ℕ → ℕ → TileKey
tile edge tx ty = record { name = codes "a"; edge = edge; tx = tx; ty = ty }

-- the block of a level in a column and a row, of edge 2, for a rectangle at a size
abbrev pub block : Rect → Dim → ℕ → ℕ → ℕ → SumKey
block rect size level bx by = record { name = codes "a"; edge = 2; rect = rect; size = size; level = level; bx = bx; by = by }

-- that of the whole ramp at half its sides
abbrev pub half_block : ℕ → ℕ → ℕ → SumKey
half_block level bx by = block (at 0 0 4 4) (sides 2 2) level bx by

-- sums of one channel at a rectangle of result places
abbrev pub gray_sums : Rect → List ℕ → Grid
gray_sums rect sums = record { rect = rect; channels = 1; sums = sums }

abbrev pub sum_val : Rect → List ℕ → SumVal
sum_val rect sums = record { sums = gray_sums rect sums }

-- the bytes of the key of the first tile of edge 2
abbrev pub tile_bytes : List ℕ
tile_bytes = 0 ∷ 1 ∷ 97 ∷ 0 ∷ 0 ∷ 0 ∷ 2 ∷ 0 ∷ 0 ∷ 0 ∷ 0 ∷ 0 ∷ 0 ∷ 0 ∷ 0 ∷ []

-- a rectangle at a size, as it stands
abbrev pub scaled_to : Rect → Dim → Resolved
scaled_to rect size = record { rect = rect; size = size; turn = by_quarters false 0; quality = Default }
