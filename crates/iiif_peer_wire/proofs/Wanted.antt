-- Memory is wanted inside a message alone.
use Rattle.std.proofs.Common.{◌≡◌, ℕ, ◌+◌, ◌≤◌, List, [], ◌∷◌, ◌++◌, length, take, Option, refl, arith, length-append, length-take-le}
use Rattle.std.specs.Int.{w32, to_be_bytes}
use Rattle.std.specs.Io.KnownBytes.{Consumes}
use Rattle.std.proofs.KnownBytes.{Consumes-trans}
use Rattle.iiif_peer_wire.specs.declared.fault.WireFault.{WireFault}
use Rattle.iiif_peer_wire.specs.declared.fault.WireFault.TheVariants.{NoMemory}
use Rattle.iiif_peer_wire.specs.declared.version.Version.{Version}
use Rattle.iiif_peer_wire.specs.Code.{Came}
use Rattle.iiif_peer_wire.specs.Messages.{ask_magic, field, IsFrontOfAsk, IsFrontOfReply, IsGroup, reply_magic}

-- a fault that is lack of memory comes inside an ask, or inside a reply for the key
abbrev pub WantsAsk : Option (List ℕ) → Option (List ℕ) → WireFault → Type 0
WantsAsk old new fault = fault ≡ NoMemory → (text : List ℕ) × IsFrontOfAsk text × Consumes old new text

abbrev pub WantsReply : Version → List ℕ → Option (List ℕ) → Option (List ℕ) → WireFault → Type 0
WantsReply version key old new fault = fault ≡ NoMemory → (text : List ℕ) × IsFrontOfReply version key text × Consumes old new text

pub came_so_far : (old mid new : Option (List ℕ)) (count n : ℕ) (bytes buffer : List ℕ) → Consumes old mid bytes →
    Consumes mid new (take n buffer)
    → n ≤ length buffer → 1 ≤ n → length bytes + length buffer ≤ count → Came old new [] count
came_so_far old mid new count n bytes buffer took pulled within some room = record {
  came = bytes ++ take n buffer;
  some = omega (arith, length-append bytes (take n buffer), length-take-le n buffer within, some);
  few = omega (arith, length-append bytes (take n buffer), length-take-le n buffer within, within, room);
  took = Consumes-trans old mid new bytes (take n buffer) took pulled;
}

pub ask_front : (version : Version) (old mid new : Option (List ℕ)) → Consumes old mid (ask_magic version)
    → (group size : ℕ) × IsGroup group × (size ≤ 4096) × Came mid new (group ∷ to_be_bytes w32 size) size
    → (text : List ℕ) × IsFrontOfAsk text × Consumes old new text
ask_front version old mid new magic (group, size, known, within, came) = (
  ask_magic version ++ group ∷ (to_be_bytes w32 size ++ came.came),
  record {
    version = version;
    group = group;
    size = size;
    came = came.came;
    group_known = known;
    within = within;
    some = came.some;
    few =
        came.few;
    spelled = refl;
  },
  Consumes-trans old mid new (ask_magic version) (group ∷ (to_be_bytes w32 size ++ came.came)) magic came.took,
)

pub reply_front : (version : Version) (old named keyed new : Option (List ℕ)) (key : List ℕ) → length key ≤ 4096 →
    Consumes old named (reply_magic version) → Consumes named keyed (field key)
    → (size : ℕ) × (size ≤ 67108864) × Came keyed new (0 ∷ to_be_bytes w32 size) size
    → (text : List ℕ) × IsFrontOfReply version key text × Consumes old new text
reply_front version old named keyed new key key_within magic keyed_took (size, within, came) = (
  reply_magic version ++ (field key ++ 0 ∷ (to_be_bytes w32 size ++ came.came)),
  record { size = size; came = came.came; key_within = key_within; within = within; some = came.some; few = came.few; spelled = refl },
  Consumes-trans old named new (reply_magic version) (field key ++ 0 ∷ (to_be_bytes w32 size ++ came.came)) magic
      (Consumes-trans named keyed new (field key) (0 ∷ (to_be_bytes w32 size ++ came.came)) keyed_took came.took),
)
