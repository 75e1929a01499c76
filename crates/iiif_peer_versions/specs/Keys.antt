-- How a key is spelled between nodes, and what is replied to it.
use Rattle.std.specs.Prelude.{◌≡◌, ◌⊎◌, ℕ, ◌≤◌, List, [], ◌++◌, length, None, Option, Some}
use Rattle.iiif_keys.specs.Bytes.{name_bytes}
use Rattle.iiif_keys.specs.Faults.{fault_number}
use Rattle.iiif_keys.specs.Names.{IsName}
use Rattle.iiif_keys.specs.declared.fault.Fault.TheVariants.{NoMemory, UnknownName}
use Rattle.iiif_peer_wire.specs.Exchanges.{Answering}
use Rattle.iiif_peer_wire.specs.declared.version.Version.{Version}
use Rattle.iiif_peer_versions.specs.Digits.{name_limit}

-- A key that begins with this name, and the same with these 32 digits behind the name.
pub record IsMarked (name digits key wire : List ℕ) : Type 0 where
  pub rest : List ℕ
  pub named : IsName name
  pub short : length name ≤ name_limit
  pub size : length digits ≡ 32
  pub of_key : key ≡ name_bytes name ++ rest
  pub of_wire : wire ≡ name_bytes (name ++ digits) ++ rest

-- the same, where the digits are those that are told of the name
abbrev pub IsWireOf : (List ℕ → Option (List ℕ)) → List ℕ → List ℕ → Type 0
IsWireOf told key wire = (name : List ℕ) × (digits : List ℕ) × (told name ≡ Some digits) × IsMarked name digits key wire

-- A key as it is spelled: with the version of its image's file where such are known, else as it is.
abbrev pub IsSpelled : Option (List ℕ → Option (List ℕ)) → List ℕ → List ℕ → Type 0
IsSpelled None key wire = wire ≡ key
IsSpelled (Some told) key wire = IsWireOf told key wire

-- What may be replied to a key that is spelled with a version, where that may be replied to keys as they are: the same as to the key with
-- the version that is told of its image; 3, an unknown name, where there is none such; or 2, where memory runs out.
abbrev pub RepliesToVersion : (List ℕ → Option (List ℕ)) → Answering → Version → ℕ → List ℕ → ℕ → List ℕ → Type 0
RepliesToVersion told answers version group wire status value =
    ((key : List ℕ) × IsWireOf told key wire × answers version group key status value)
    ⊎ (((status ≡ fault_number UnknownName) × (value ≡ []) × ((key : List ℕ) → IsWireOf told key wire → ⊥))
    ⊎ ((status ≡ fault_number NoMemory) × (value ≡ [])))

-- the same of keys that are spelled so
abbrev pub RepliesIn : Option (List ℕ → Option (List ℕ)) → Answering → Version → ℕ → List ℕ → ℕ → List ℕ → Type 0
RepliesIn None answers = answers
RepliesIn (Some told) answers = RepliesToVersion told answers
