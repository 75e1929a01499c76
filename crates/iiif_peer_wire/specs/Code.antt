-- Why a part of a message was not read, by the bytes that were taken: words of the code alone.
use Rattle.std.specs.Prelude.{◌≡◌, ℕ, ◌≤◌, List, [], ◌++◌, length, Option, Result, Err, ⊤}
use Rattle.std.specs.Io.KnownBytes.{Consumes, IsAtEnd}
use Rattle.iiif_peer_wire.specs.Faults.{LeftAt}
use Rattle.iiif_peer_wire.specs.declared.fault.WireFault.{WireFault}
use Rattle.iiif_peer_wire.specs.declared.fault.WireFault.TheVariants.{Magic, Short, Long, Key, Digest, Status, Io, NoMemory}

-- the bytes that were taken are refused whatever follows, and as Short where nothing follows
pub record Refuses {A : Type 0} (old new : Option (List ℕ)) (reading : List ℕ → Result A WireFault) (fault : WireFault) : Type 0 where
  pub read : List ℕ
  pub took : Consumes old new read
  pub ended : fault ≡ Short → IsAtEnd new
  pub refused : (rest : List ℕ) → (fault ≡ Short → rest ≡ []) → reading (read ++ rest) ≡ Err fault

-- behind a front some bytes came, of so many
pub record Came (old new : Option (List ℕ)) (front : List ℕ) (count : ℕ) : Type 0 where
  pub came : List ℕ
  pub some : 1 ≤ length came
  pub few : length came ≤ count
  pub took : Consumes old new (front ++ came)

-- a reader that failed did so inside the part: the bytes that were taken end early in it
abbrev pub Broken : {A : Type 0} → Option (List ℕ) → Option (List ℕ) → (List ℕ → Result A WireFault) → WireFault → Type 0
Broken old new reading fault = fault ≡ Io → (text : List ℕ) × Consumes old new text × (reading text ≡ Err Short)

-- the reader failed, memory was refused, or the bytes are refused
abbrev pub Unread : {I A : Type 0} → (I → Option (List ℕ)) → (I → I → Type 0) → I → I → (List ℕ → Result A WireFault) → WireFault → Type 0
Unread left fails old new reading Magic = Refuses (left old) (left new) reading Magic
Unread left fails old new reading Short = Refuses (left old) (left new) reading Short
Unread left fails old new reading Long = Refuses (left old) (left new) reading Long
Unread left fails old new reading Key = Refuses (left old) (left new) reading Key
Unread left fails old new reading Digest = Refuses (left old) (left new) reading Digest
Unread left fails old new reading Status = Refuses (left old) (left new) reading Status
Unread {I} left fails old new reading Io = LeftAt fails new
Unread left fails old new reading NoMemory = ⊤
