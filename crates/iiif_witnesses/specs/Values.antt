-- What two nodes answer of an image in memory.
use Rattle.std.specs.Prelude.{◌≡◌, ℕ, List}
use Rattle.iiif_pixel.specs.Picture.{Picture, dim_of}
use Rattle.iiif_pixel.specs.Operations.{crop}
use Rattle.iiif_tiff.specs.Tiff.{Shows}
use Rattle.iiif_area.specs.Grid.{sums_of}
use Rattle.iiif_keys.specs.Blocks.{part_in, tile_of}
use Rattle.iiif_keys.specs.declared.keys.SumKey.{SumKey}
use Rattle.iiif_keys.specs.declared.keys.TileKey.{TileKey}
use Rattle.iiif_keys.specs.declared.values.SumVal.{SumVal}
use Rattle.iiif_keys.specs.declared.values.TileVal.{TileVal}

-- the tile is the key's part of the picture that the file shows
abbrev pub IsTileOf : List ℕ → TileKey → TileVal → Type 0
IsTileOf file key v = (p : Picture) → Shows file p → v.raster ≡ crop p (tile_of (dim_of p) key)

-- the sums are those of the key's block of that picture
abbrev pub AreSumsOf : List ℕ → SumKey → SumVal → Type 0
AreSumsOf file key v = (p : Picture) → Shows file p → v.sums ≡ sums_of (crop p key.rect) key.size (part_in (dim_of p) key)
