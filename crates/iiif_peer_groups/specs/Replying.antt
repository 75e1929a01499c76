-- Replies of a node to an ask of another one.
use Rattle.std.specs.Prelude.{◌≡◌, ◌⊎◌, ℕ, List, [], Option, IsSome, IsTrue}
use Rattle.iiif_pixel.specs.declared.geometry.Depth.{Depth}
use Rattle.iiif_pixel.specs.declared.geometry.Depth.TheVariants.{Eight, Sixteen}
use Rattle.iiif_tile_group.specs.Faults.{IsLoadFault}
use Rattle.iiif_keys.specs.Blocks.{NamesPart}
use Rattle.iiif_keys.specs.Faults.{fault_number}
use Rattle.iiif_keys.specs.declared.fault.Fault.{Fault}
use Rattle.iiif_keys.specs.declared.fault.Fault.TheVariants.{Source, NoMemory, UnknownName, BadKey}
use Rattle.iiif_keys.specs.declared.keys.Shape.{Shape}
use Rattle.iiif_peer_groups.specs.Kinds.{Kind, System, sum_kind, tile_kind}
use Rattle.iiif_peer_wire.specs.declared.version.Version.{Version}
use Rattle.iiif_peer_wire.specs.declared.version.Version.TheVariants.{One, Two}

-- messages of this version carry the values of an image of this depth: the first version only those of 8 bits a sample
abbrev pub Carries : Version → Depth → Type 0
Carries One Eight = Unit {0}
Carries One Sixteen = ⊥
Carries Two depth = Unit {0}

module _ {K V : Type 0} (kind : Kind K V) (node : System) (version : Version) where
  -- the key fits an image of this shape, whose values this version carries
  abbrev pub ServesIn : K → Shape → Type 0
  ServesIn k s = kind.fits_in s k × Carries version s.depth

  -- the bytes spell the key
  abbrev pub Spells : List ℕ → K → Type 0
  Spells bytes k = kind.is_key k × (bytes ≡ kind.key_bytes k)

  -- The bytes spell a key that names something, and these are the bytes of a value of its shape: its meaning, where its image's source
  -- keeps its bytes and other nodes are honest.
  pub record HasValue (bytes value : List ℕ) : Type 0 where
    pub key : K
    pub spelled : Spells bytes key
    pub names : NamesPart node.pictures node.edge (kind.name_of key) (kind.edge_of key) (ServesIn key)
    pub found : V
    pub sent : value ≡ kind.val_bytes found
    pub shaped : IsTrue (kind.is_shaped node.pictures key found)
    pub meant : node.stable (kind.name_of key) → IsTrue node.honest → found ≡ kind.meaning node.pictures key

  -- the key names nothing; or it does, and its source gave that fault
  abbrev pub FaultOf : K → Fault → Type 0
  FaultOf k f = IsLoadFault node.pictures node.edge (kind.name_of k) (kind.edge_of k) (ServesIn k) (node.gave (kind.name_of k)) f

  -- Why there is no value: an unknown name; else bytes that spell no key, or one that names nothing in this version; a fault that the
  -- image's source gave; or lack of memory.
  abbrev pub HasFault : List ℕ → Fault → Type 0
  HasFault bytes (Source f) = (k : K) × Spells bytes k × FaultOf k (Source f)
  HasFault bytes NoMemory = Unit {0}
  HasFault bytes UnknownName = (k : K) × Spells bytes k × FaultOf k UnknownName
  HasFault bytes BadKey = IsSome (kind.refusal bytes) ⊎ ((k : K) × Spells bytes k × FaultOf k BadKey)

  -- status 0 and the value, or the fault's number and none
  abbrev pub IsReplyTo : List ℕ → ℕ → List ℕ → Type 0
  IsReplyTo bytes status value = ((status ≡ 0) × HasValue bytes value) ⊎
      ((f : Fault) × (status ≡ fault_number f) × (value ≡ []) × HasFault bytes f)

-- Replies that may be sent to an ask, by its version, its group (1 for tiles, 2 for sums) and its key's bytes.
abbrev pub MayReply : System → Version → ℕ → List ℕ → ℕ → List ℕ → Type 0
MayReply node version group bytes status value =
    ((group ≡ 1) × IsReplyTo tile_kind node version bytes status value) ⊎ ((group ≡ 2) × IsReplyTo sum_kind node version bytes status value)
