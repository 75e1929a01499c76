-- Shapes of images: their sides, channels and depth, which are known before any sample is read.
--
--   kind      gray or RGB, by the channels
--   depth     8 or 16 bits a sample, by the greatest sample
--   version   of the messages between peers
use Rattle.std.specs.Prelude.{◌≡◌, ℕ, ◌==◌, List, Some, if◌then◌else◌}
use Rattle.iiif_pixel.specs.Picture.{Picture, dim_of}
use Rattle.iiif_pixel.specs.declared.geometry.Kind.{Kind}
use Rattle.iiif_pixel.specs.declared.geometry.Kind.TheVariants.{Gray, Rgb}
use Rattle.iiif_pixel.specs.declared.geometry.Depth.{Depth}
use Rattle.iiif_pixel.specs.declared.geometry.Depth.TheVariants.{Eight, Sixteen}
use Rattle.iiif_keys.specs.Names.{Pictures, named}
use Rattle.iiif_keys.specs.declared.keys.Shape.{Shape}

-- The kind of a picture with 1 or 3 channels: TIFF 6.0, sections 4 (grayscale) and 6 (RGB).
abbrev pub kind_with : ℕ → Kind
kind_with channels = if channels == 1 then Gray else Rgb

-- The depth of a picture whose greatest sample is 255 or 65,535: TIFF 6.0, section 8 (BitsPerSample).
abbrev pub depth_with : ℕ → Depth
depth_with top = if top == 255 then Eight else Sixteen

-- The shape of a picture.
abbrev pub shape_of : Picture → Shape
shape_of p = record { dim = dim_of p; kind = kind_with p.channels; depth = depth_with p.top }

-- The name has a picture, of this shape.
pub record HasPicture (shows : Pictures) (name : List ℕ) (s : Shape) : Type 0 where
  pub known : shows name ≡ Some (named shows name)
  pub shape : shape_of (named shows name) ≡ s

-- The version of the messages on an image: 2 where its samples have 16 bits, else 1.
abbrev pub version_of : Depth → ℕ
version_of Eight = 1
version_of Sixteen = 2
