-- Why a reply was not read.
use Rattle.std.proofs.Common.{◌≡◌, ℕ, List, Option, Err, refl, inr}
use Rattle.std.specs.Io.KnownBytes.{Consumes}
use Rattle.iiif_peer_wire.specs.Faults.{IsRefusal}
use Rattle.iiif_peer_wire.specs.Messages.{IsFrontOfReply}
use Rattle.iiif_peer_wire.specs.Reading.{reply_at, IsInput}
use Rattle.iiif_peer_wire.specs.declared.fault.WireFault.{WireFault}
use Rattle.iiif_peer_wire.specs.declared.fault.WireFault.TheVariants.{Magic, Short, Long, Key, Digest, Status, Io, NoMemory}
use Rattle.iiif_peer_link.specs.Asking.{Terms, WireFailed}

module _ (t : Terms) (before after : Option (List ℕ)) (came : t.came before after) where
  -- a reply was not read, by what its reader says of the fault
  pub wire_failed : (fault : WireFault)
      → (IsRefusal fault → (input : List ℕ) × IsInput before input × (reply_at t.version t.key input ≡ Err fault)) → (fault ≡ Io → t.failed)
      → (fault ≡ NoMemory → (text : List ℕ) × IsFrontOfReply t.version t.key text × Consumes before after text) → WireFailed t fault
  wire_failed Magic refused io memory = (before, after, came, refused tt)
  wire_failed Short refused io memory = (before, after, came, refused tt)
  wire_failed Long refused io memory = (before, after, came, refused tt)
  wire_failed Key refused io memory = (before, after, came, refused tt)
  wire_failed Digest refused io memory = (before, after, came, refused tt)
  wire_failed Status refused io memory = (before, after, came, refused tt)
  wire_failed Io refused io memory = inr (io refl)
  wire_failed NoMemory refused io memory = (before, after, came, memory refl)
