-- Words of private functions.
use Rattle.std.specs.Prelude.{◌≡◌, ◌<◌, ◌⊎◌, List, [], ◌∷◌, ◌++◌, All, Err, IfErr, IfOk, IsTrue, Ok, OnOk, Result}
use Rattle.std.specs.Prelude.{fold, map}
use Rattle.std.specs.Arc.{arc_value}
use Rattle.std.specs.Result.{ForErr, ForOk}
use Rattle.std.specs.declared.alloc.Global.{Global}
use Rattle.std.specs.declared.sync.Arc.{Arc}
use Rattle.iiif_pixel.specs.Geometry.{channels_of}
use Rattle.iiif_area.specs.Grid.{merged}
use Rattle.iiif_keys.specs.Blocks.{places_in, IsOfBlock, SumFitsIn}
use Rattle.iiif_keys.specs.Meaning.{no_sums, sums_below, sums_in, tile_below}
use Rattle.iiif_keys.specs.Names.{named, IsSource}
use Rattle.iiif_keys.specs.Shapes.{HasPicture}
use Rattle.iiif_keys.specs.declared.fault.Fault.{Fault}
use Rattle.iiif_keys.specs.declared.fault.Fault.TheVariants.{NoMemory}
use Rattle.iiif_keys.specs.declared.keys.Shape.{Shape}
use Rattle.iiif_keys.specs.declared.keys.SumKey.{SumKey}
use Rattle.iiif_keys.specs.declared.keys.TileKey.{TileKey}
use Rattle.iiif_keys.specs.declared.system.System as system
use Rattle.iiif_keys.specs.declared.values.SumVal.{SumVal}
use Rattle.iiif_sum_group.specs.Values.{AreValuesOf}

-- a copy of the value; or memory ran out
pub record Copies (value : SumVal) (result : Result SumVal Fault) : Type 0 where
  pub value_is : IfOk result (λ v. v ≡ value)
  pub fault : IfErr result (λ f. f ≡ NoMemory)

pub record Keeps (old new : List (Arc SumVal Global)) (value : Arc SumVal Global) (result : Result Unit Fault) : Type 0 where
  pub ok : OnOk result (new ≡ old ++ value ∷ [])
  pub err : IfErr result (λ f. f ≡ NoMemory)

pub record Boxes (made : Result SumVal Fault) (result : Result (Arc SumVal Global) Fault) : Type 0 where
  pub ok : ForOk result (λ v. made ≡ Ok (arc_value v))
  pub err : ForErr result (λ f. (f ≡ NoMemory) ⊎ (made ≡ Err f))

-- The key is of a block of an image of this shape, and the values have the channels of its kind.
pub record CanTotal (s : Shape) (key : SumKey) (values : List (Arc SumVal Global)) : Type 0 where
  pub block : IsOfBlock s.dim key
  pub channels : All (λ x. (sums_in x).channels ≡ channels_of s.kind) values

-- The total of the sums of values, at the key's places.
pub record Totals (s : Shape) (key : SumKey) (values : List (Arc SumVal Global)) (result : Result SumVal Fault) : Type 0 where
  pub sums : IfOk result (λ v. v.sums ≡ fold merged (no_sums s.dim (channels_of s.kind) key) (map sums_in values))
  pub places : IfOk result (λ v. (v.sums.rect ≡ places_in s.dim key) × (v.sums.channels ≡ channels_of s.kind))
  pub fault : IfErr result (λ f. f ≡ NoMemory)

-- The block of a key lies in an image of this shape.
abbrev pub FitsShape : Shape → SumKey → Type 0
FitsShape s key = SumFitsIn s.dim (channels_of s.kind) key

module _ {J : Type 0} (node : system.Ghosts J) (key : SumKey) (s : Shape) where
  -- The key names sums over a block of level 0 of an image of this shape, which its name's picture has; the tile below it is this one.
  pub record HasTile (tile : TileKey) : Type 0 where
    pub known : HasPicture node.pictures key.name s
    pub source : IsSource (named node.pictures key.name)
    pub fits : SumFitsIn s.dim (channels_of s.kind) key
    pub level : key.level ≡ 0
    pub tile_is : tile ≡ tile_below key

  -- The key names sums over a block of a level above 0; its quarters are these.
  pub record HasQuarters (quarters : List SumKey) : Type 0 where
    pub known : HasPicture node.pictures key.name s
    pub source : IsSource (named node.pictures key.name)
    pub fits : SumFitsIn s.dim (channels_of s.kind) key
    pub level : 0 < key.level
    pub quarters_are : quarters ≡ sums_below key

  -- The key names sums over a block of a level above 0; the values of its quarters are these.
  pub record HasValues (values : List (Arc SumVal Global)) : Type 0 where
    pub known : HasPicture node.pictures key.name s
    pub source : IsSource (named node.pictures key.name)
    pub fits : SumFitsIn s.dim (channels_of s.kind) key
    pub level : 0 < key.level
    pub values_are : AreValuesOf node.pictures s (node.stable key.name × IsTrue node.honest) (sums_below key) values
