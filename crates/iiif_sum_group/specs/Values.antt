-- The values of a block's parts.
use Rattle.std.specs.Prelude.{◌≡◌, ℕ, Bool, List, All, IsTrue, map}
use Rattle.std.specs.List.{AllZip}
use Rattle.std.specs.Arc.{arc_value}
use Rattle.std.specs.declared.sync.Arc.{Arc}
use Rattle.std.specs.declared.alloc.Global.{Global}
use Rattle.iiif_pixel.specs.declared.geometry.Dim.{Dim}
use Rattle.iiif_pixel.specs.Geometry.{channels_of}
use Rattle.iiif_keys.specs.Blocks.{places_in, SumFitsIn}
use Rattle.iiif_keys.specs.Laws.{IsBelow}
use Rattle.iiif_keys.specs.Meaning.{sum_is_shaped, sum_meaning, sums_in}
use Rattle.iiif_keys.specs.Names.{named, IsSource, Pictures}
use Rattle.iiif_keys.specs.Shapes.{HasPicture}
use Rattle.iiif_keys.specs.declared.keys.Shape.{Shape}
use Rattle.iiif_keys.specs.declared.keys.SumKey.{SumKey}
use Rattle.iiif_keys.specs.declared.values.SumVal.{SumVal}

-- the sums of these values are those that these keys mean
abbrev pub AreSums : Pictures → List SumKey → List (Arc SumVal Global) → Type 0
AreSums shows keys values = map sums_in values ≡ map (λ q. (sum_meaning shows q).sums) keys

-- they stand at the places of these keys' values, in an image with these sides
abbrev pub ArePlaces : Dim → List SumKey → List (Arc SumVal Global) → Type 0
ArePlaces image keys values = map (λ x. (sums_in x).rect) values ≡ map (places_in image) keys

-- These are parts of a block that may be asked for, in an image with this shape.
pub record MayBeAsked (shows : Pictures) (s : Shape) (block : SumKey) (keys : List SumKey) : Type 0 where
  pub known : HasPicture shows block.name s
  pub source : IsSource (named shows block.name)
  pub below : All (IsBelow block) keys
  pub fits : All (SumFitsIn s.dim (channels_of s.kind)) keys

-- These are the values of parts of an image with this shape, in their order: what they mean where the image is trusted.
pub record AreValuesOf (shows : Pictures) (s : Shape) (trusted : Type 0) (keys : List SumKey) (values : List (Arc SumVal Global)) : Type 0
  where
    pub meant : trusted → AreSums shows keys values
    pub places : ArePlaces s.dim keys values
    pub channels : All (λ x. (sums_in x).channels ≡ channels_of s.kind) values

-- A value that is answered for a key: of the key's shape, whatever sources and other nodes do; and the key's meaning where the
-- bytes of its image are stable and other nodes are honest.
pub record MayStandFor {V : Type 0} (stable : Type 0) (honest : Bool) (meaning : V) (shaped : V → Bool) (v : V) : Type 0 where
  pub has_shape : IsTrue (shaped v)
  pub meant : stable → IsTrue honest → v ≡ meaning

-- these values may be answered for these keys of sums, in their order
abbrev pub MayBeSums : Pictures → (List ℕ → Type 0) → Bool → List SumKey → List (Arc SumVal Global) → Type 0
MayBeSums shows stable honest keys values =
    AllZip (λ k v. MayStandFor (stable k.name) honest (sum_meaning shows k) (sum_is_shaped shows k) v) keys (map arc_value values)
