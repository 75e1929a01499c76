-- What a node replies to another node's ask.
use Rattle.std.specs.Prelude.{ℕ, Bool, List}
use Rattle.iiif_io.specs.Devices.{Reads, Writes}
use Rattle.iiif_io.specs.Sending.{Sends}
use Rattle.iiif_source.specs.declared.ReadFault.{ReadFault}
use Rattle.iiif_source.specs.declared.Source as source
use Rattle.iiif_tile_group.specs.Named.{gave_of, pictures_of, stable_of}
use Rattle.iiif_peer_groups.specs.Kinds.{System, system}
use Rattle.iiif_peer_groups.specs.Replying.{MayReply}
use Rattle.iiif_peer_wire.specs.Exchanges.{IsExchange}
use Rattle.iiif_peer_wire.specs.Faults.{LeftAt}
use Rattle.iiif_peer_wire.specs.Reading.{IsInput}
use Rattle.iiif_peer_wire.specs.declared.version.Version.{Version}
use Rattle.iiif_server.specs.Nodes.{Service}

-- What is known of a node: the pictures that its sources show, the side of a tile that it was told, the faults that its sources gave,
-- the names whose sources keep their bytes, and whether other nodes are honest.
abbrev pub known_of : {S : Type 0} → (S → List ℕ) → (S → ReadFault → Bool) → (S → Type 0) → Bool → Service S → System
known_of bytes gave keeps honest node =
    system (pictures_of bytes node.items) node.settings.edge (gave_of gave node.items) (stable_of keeps node.items) honest

-- what it may reply to an ask of a version, for a key in a group: a status and a value
abbrev pub RepliesToAsk : {S : Type 0} → (S → List ℕ) → (S → ReadFault → Bool) → (S → Type 0) → Bool → Service S → Version → ℕ → List ℕ →
    ℕ → List ℕ → Type 0
RepliesToAsk bytes gave keeps honest node version group key status value =
    MayReply (known_of bytes gave keeps honest node) version group key status value

-- The asks of another node's connection are answered in their order. What came is the input, where that is known: so it is one relation
-- for memory and for sockets.
abbrev pub ServesPeer : {S R I W : Type 0} → source.Ghosts S R → Bool → Service S → Reads I I → Writes W → Type 0
ServesPeer sources honest node r w =
    (came : List ℕ) × (output : List ℕ) × IsInput (r.remaining r.old) came × Sends w output
    × IsExchange (RepliesToAsk sources.bytes sources.gave sources.keeps honest node) (LeftAt r.fails r.new) (LeftAt w.fails w.new)
    (IsInput (r.remaining r.new)) came output
