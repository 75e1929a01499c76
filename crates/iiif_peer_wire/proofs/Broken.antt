-- Where a reader failed inside a part of an ask, said of the whole ask.
use Rattle.std.proofs.Common.{◌≡◌, ℕ, ◌<◌, List, [], ◌∷◌, ◌++◌, length, Option, Result, Err, inl, inr, refl, arith}
use Rattle.std.specs.Io.KnownBytes.{Consumes}
use Rattle.std.proofs.KnownBytes.{Consumes-trans}
use Rattle.iiif_peer_wire.specs.declared.fault.WireFault.{WireFault}
use Rattle.iiif_peer_wire.specs.declared.fault.WireFault.TheVariants.{Io, Short}
use Rattle.iiif_peer_wire.specs.declared.version.Version.{Version}
use Rattle.iiif_peer_wire.specs.Code.{Broken}
use Rattle.iiif_peer_wire.specs.Messages.{ask_magic}
use Rattle.iiif_peer_wire.specs.Reading.{ask_fields_at, bytes_at, IsUnfinishedAsk}
use Rattle.iiif_peer_wire.proofs.Parts.{bytes_at-short}
use Rattle.iiif_peer_wire.proofs.Whole.{ask_at-cut, ask_at-no_fields}

-- fewer bytes than were wanted
pub broken_bytes : (old new : Option (List ℕ)) (count : ℕ) (fault : WireFault) (text : List ℕ) → Consumes old new text →
    length text < count → Broken old new (bytes_at count) fault
broken_bytes old new count fault text took few = λ _. (text, took, bytes_at-short count text few)

-- what ends early in the first part
pub broken_first : {A B : Type 0} (old new : Option (List ℕ)) (f : List ℕ → Result A WireFault) (g : List ℕ → Result B WireFault)
    (fault : WireFault)
    → ((rest : List ℕ) → g rest ≡ Err Short → f rest ≡ Err Short) → Broken old new g fault → Broken old new f fault
broken_first old new f g fault passes broken = λ io. let b = broken io in (b.0, b.1, passes b.0 b.2)

-- what ends early behind a text that was taken
pub broken_behind : {A B : Type 0} (old mid new : Option (List ℕ)) (f : List ℕ → Result A WireFault) (g : List ℕ → Result B WireFault)
    (text : List ℕ) (fault : WireFault)
    → Consumes old mid text → ((rest : List ℕ) → g rest ≡ Err Short → f (text ++ rest) ≡ Err Short) → Broken mid new g fault →
    Broken old new f fault
broken_behind old mid new f g text fault took passes broken = λ io. let b = broken io in
    (text ++ b.0, Consumes-trans old mid new text b.0 took b.1, passes b.0 b.2)

-- a fault that is a reader's leaves no whole ask taken
abbrev pub LeavesNoAsk : Option (List ℕ) → Option (List ℕ) → WireFault → Type 0
LeavesNoAsk old new fault = fault ≡ Io → (text : List ℕ) × IsUnfinishedAsk text × Consumes old new text

in_magic : (text : List ℕ) → length text < 4 → IsUnfinishedAsk text
in_magic [] few = inl refl
in_magic (b ∷ bytes) few = inr (ask_at-cut (b ∷ bytes) (omega arith) few)

-- before the magic was whole
pub magic_unfinished : (old new : Option (List ℕ)) (fault : WireFault) (text : List ℕ) → Consumes old new text → length text < 4 →
    LeavesNoAsk old new fault
magic_unfinished old new fault text took few = λ _. (text, in_magic text few, took)

-- behind the magic
pub fields_unfinished : (version : Version) (old mid new : Option (List ℕ)) (fault : WireFault) → Consumes old mid (ask_magic version) →
    Broken mid new ask_fields_at fault → LeavesNoAsk old new fault
fields_unfinished version old mid new fault magic broken = λ io.
    let b = broken io in (
      ask_magic version ++ b.0,
      inr (ask_at-no_fields version b.0 Short b.2),
      Consumes-trans old mid new (ask_magic version) b.0 magic b.1,
    )
