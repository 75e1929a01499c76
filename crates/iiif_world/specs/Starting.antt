-- What worlds begin with.
use Rattle.std.specs.Prelude.{◌≡◌, ◌<◌, ◌≤◌, ℕ, List, Some, length, slice_get}
use Rattle.iiif_keys.specs.Blocks.{IsEdge}
use Rattle.iiif_keys.specs.Names.{IsSource}
use Rattle.iiif_tables.specs.Flights as tables
use Rattle.iiif_machine.specs.Rows.{Node}
use Rattle.iiif_machine.specs.Sound.{Each}
use Rattle.iiif_world.specs.declared.starting.Setup.{Setup}
use Rattle.iiif_world.specs.declared.starting.SetupFault.{SetupFault}
use Rattle.iiif_world.specs.declared.starting.SetupFault.TheVariants.{Edge, Room, Picture, Ring, Name, NoMemory}
use Rattle.iiif_world.specs.declared.contents.Item.{Item}

-- the node that is made of its name, its ring, its version and the limits of its tables
abbrev pub node_for : Setup → Node
node_for s = record {
  name = s.name;
  ring = s.ring;
  version = s.version;
  tiles = tables.empty_table s.limit s.room;
  sums =
      tables.empty_table s.limit s.room;
}

-- one of the nodes has this name
abbrev pub IsNamed : List Setup → List ℕ → Type 0
IsNamed setups name = (i : ℕ) × (s : Setup) × (slice_get setups i ≡ Some s) × (s.name ≡ name)

-- a node's ring has a name, and each name on it is a node's
abbrev pub NamesNodes : List Setup → Setup → Type 0
NamesNodes setups s = (0 < length s.ring) × Each (IsNamed setups) s.ring

-- a node's name has 255 bytes at most
abbrev pub HasNodeName : Setup → Type 0
HasNodeName s = length s.name ≤ 255

-- each picture is one of a source
abbrev pub AreSources : List Item → Type 0
AreSources items = Each (λ i. IsSource i.picture) items

-- a plan has room for a sum, and for 65,536 at most
pub record IsRoom (room : ℕ) : Type 0 where
  pub some : 0 < room
  pub within : room ≤ 65536

-- why a world can't begin so: the first that applies
abbrev pub IsSetupFault : List Item → ℕ → ℕ → List Setup → SetupFault → Type 0
IsSetupFault items edge room setups Edge = ¬ IsEdge edge
IsSetupFault items edge room setups Room = IsEdge edge × ¬ IsRoom room
IsSetupFault items edge room setups Picture = IsEdge edge × IsRoom room × ¬ AreSources items
IsSetupFault items edge room setups Ring = IsEdge edge × IsRoom room × AreSources items × ¬ Each (NamesNodes setups) setups
IsSetupFault items edge room setups Name =
    IsEdge edge × IsRoom room × AreSources items × Each (NamesNodes setups) setups × ¬ Each HasNodeName setups
IsSetupFault items edge room setups NoMemory =
    IsEdge edge × IsRoom room × AreSources items × Each (NamesNodes setups) setups × Each HasNodeName setups
