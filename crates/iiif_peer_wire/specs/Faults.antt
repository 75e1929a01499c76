-- Why a message was not read or written.
use Rattle.std.specs.Prelude.{◌≡◌, ℕ, List, Option}
use Rattle.iiif_io.specs.Sending.{WasCut}
use Rattle.iiif_peer_wire.specs.declared.fault.WireFault.{WireFault}
use Rattle.iiif_peer_wire.specs.declared.fault.WireFault.TheVariants.{Magic, Short, Long, Key, Digest, Status, Io, NoMemory}

-- the number of each fault
abbrev pub number_of : WireFault → ℕ
number_of Magic = 1
number_of Short = 2
number_of Long = 3
number_of Key = 4
number_of Digest = 5
number_of Status = 6
number_of Io = 7
number_of NoMemory = 8

-- a fault that the bytes make, not the device or the memory
abbrev pub IsRefusal : WireFault → Type 0
IsRefusal Magic = Unit {0}
IsRefusal Short = Unit {0}
IsRefusal Long = Unit {0}
IsRefusal Key = Unit {0}
IsRefusal Digest = Unit {0}
IsRefusal Status = Unit {0}
IsRefusal Io = ⊥
IsRefusal NoMemory = ⊥

-- a device failed, and that left it in this state
abbrev pub LeftAt : {D : Type 0} → (D → D → Type 0) → D → Type 0
LeftAt {D} fails last = (before : D) × fails before last

-- a text was not written whole: the fault is Io, a strict prefix stands there, and a write failed
abbrev pub IsCut : {W : Type 0} → (W → Option (List ℕ)) → (W → W → Type 0) → W → W → List ℕ → WireFault → Type 0
IsCut contents fails old new text fault = (fault ≡ Io) × ((sent : ℕ) × WasCut contents fails old new text sent)
