-- The versions and the groups of the messages that carry keys and values.
use Rattle.std.specs.Prelude.{ℕ}
use Rattle.iiif_pixel.specs.declared.geometry.Depth.{Depth}
use Rattle.iiif_pixel.specs.declared.geometry.Depth.TheVariants.{Eight, Sixteen}
use Rattle.iiif_peer_wire.specs.declared.version.Version.{Version}
use Rattle.iiif_peer_wire.specs.declared.version.Version.TheVariants.{One, Two}

-- the version for an image whose samples have so many bits
abbrev pub wire_version : Depth → Version
wire_version Eight = One
wire_version Sixteen = Two

-- the groups of tiles and of sums
abbrev pub tiles : ℕ
tiles = 1

abbrev pub sums : ℕ
sums = 2
