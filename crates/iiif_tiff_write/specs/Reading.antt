-- Pictures that a file gives back without loss.
--
--   IsOf kind depth p               p is a whole picture of this kind and depth
--   HoldsSamples kind samples       each of these samples can be stored in a file of the kind
--   Holds kind p                    a file of the kind holds p without loss
use Rattle.std.specs.Prelude.{◌≡◌, ℕ, ◌⊎◌, List, All}
use Rattle.iiif_pixel.specs.Geometry.{channels_of, top_of}
use Rattle.iiif_pixel.specs.Picture.{Picture, IsWhole}
use Rattle.iiif_pixel.specs.declared.geometry.Depth.{Depth}
use Rattle.iiif_pixel.specs.declared.geometry.Kind.{Kind}
use Rattle.iiif_tiff_write.specs.OutKind.{out_depth, samples_per_pixel}
use Rattle.iiif_tiff_write.specs.declared.kind.OutKind.{OutKind}
use Rattle.iiif_tiff_write.specs.declared.kind.OutKind.TheVariants.{Gray, Rgb, Bitonal, Gray16, Rgb16}

-- a picture of this kind and depth
pub record IsOf (kind : Kind) (depth : Depth) (p : Picture) : Type 0 where
  -- it has a sample for each channel of each place, and none above white
  pub whole : IsWhole p
  -- white is the greatest sample of so many bits
  pub top : p.top ≡ top_of depth
  -- gray has one channel, RGB has three
  pub channels : p.channels ≡ channels_of kind

-- TIFF 6.0, sections 3, 4 and 6: 8 and 16 bits store any sample of such a depth, one bit stores black and white.
abbrev pub HoldsSamples : OutKind → List ℕ → Type 0
HoldsSamples Gray samples = Unit {0}
HoldsSamples Rgb samples = Unit {0}
HoldsSamples Gray16 samples = Unit {0}
HoldsSamples Rgb16 samples = Unit {0}
HoldsSamples Bitonal samples = All (λ v. (v ≡ 0) ⊎ (v ≡ 255)) samples

-- a picture that a file of this kind holds without loss
pub record Holds (kind : OutKind) (p : Picture) : Type 0 where
  -- it has a sample for each channel of each place, and none above white
  pub whole : IsWhole p
  -- its depth is the kind's
  pub top : p.top ≡ top_of (out_depth kind)
  -- it has a channel for each sample of a pixel
  pub channels : p.channels ≡ samples_per_pixel kind
  -- its samples are ones that the kind stores
  pub samples : HoldsSamples kind p.samples
