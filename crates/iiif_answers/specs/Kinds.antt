-- Kinds and depths of pictures.
use Rattle.std.specs.Prelude.{◌==◌, if◌then◌else◌}
use Rattle.iiif_pixel.specs.Picture.{Picture}
use Rattle.iiif_pixel.specs.declared.geometry.Depth.{Depth}
use Rattle.iiif_pixel.specs.declared.geometry.Depth.TheVariants.{Eight, Sixteen}
use Rattle.iiif_pixel.specs.declared.geometry.Kind.{Kind}
use Rattle.iiif_pixel.specs.declared.geometry.Kind.TheVariants.{Gray, Rgb}

-- red, green and blue where there are three channels, else gray
abbrev pub kind_of : Picture → Kind
kind_of p = if p.channels == 3 then Rgb else Gray

-- samples up to 255 have 8 bits, others 16
abbrev pub depth_of : Picture → Depth
depth_of p = if p.top == 255 then Eight else Sixteen
