-- An image as a layout keeps it.
--   image_scheme   where its samples stand, in the standard's terms
--   image_units    the same, counted in units: a sample of 16 bits is two units of 8
use Rattle.iiif_tiff.specs.Tiff.{Scheme}
use Rattle.iiif_tiff_read.specs.declared.image.Image.{Image}
use Rattle.iiif_tiff_read.specs.Code.{scheme_of, units}

abbrev pub image_scheme : Image → Scheme
image_scheme i = scheme_of i.dim i.format i.grid i.offsets.items

abbrev pub image_units : Image → Scheme
image_units i = units (image_scheme i)
