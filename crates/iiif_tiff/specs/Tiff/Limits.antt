-- The limits of the images that are read.
--
--   readable   sides that are read; TIFF 6.0, section 8, ImageWidth and ImageLength, has no limits
use Rattle.std.specs.Prelude.{◌*◌, ◌<◌, ◌≤◌, ◌^◌}
use Rattle.iiif_pixel.specs.declared.geometry.Dim.{Dim}

-- Sides of 1 to 1,000,000 pixels each, and at most 2^32 pixels in all.
pub record IsReadable (d : Dim) : Type 0 where
  pub width_some : 0 < d.w
  pub width_most : d.w ≤ 1000000
  pub height_some : 0 < d.h
  pub height_most : d.h ≤ 1000000
  pub area : d.w * d.h ≤ 2 ^ 32
