-- Gray and RGB pictures have samples.
use Rattle.std.proofs.Common.{ℕ, ◌<◌, arith}
use Rattle.iiif_pixel.specs.Geometry.{channels_of}
use Rattle.iiif_pixel.specs.declared.geometry.Kind.{Kind}
use Rattle.iiif_pixel.specs.declared.geometry.Kind.TheVariants.{Gray, Rgb}

-- each kind has a channel
pub channels_some : (kind : Kind) → 0 < channels_of kind
channels_some Gray = omega arith
channels_some Rgb = omega arith
