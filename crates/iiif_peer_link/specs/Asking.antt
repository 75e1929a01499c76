-- Why an ask of another node gave no value.
use Rattle.std.specs.Prelude.{◌≡◌, ℕ, ◌<◌, ◌⊎◌, List, [], Option, Some, Err}
use Rattle.std.specs.Io.KnownBytes.{Appends, Consumes}
use Rattle.iiif_io.specs.Sending.{WasCut}
use Rattle.iiif_peer_wire.specs.Faults.{LeftAt}
use Rattle.iiif_peer_wire.specs.Messages.{ask_text, reply_text, IsReply, IsFrontOfReply}
use Rattle.iiif_peer_wire.specs.Reading.{reply_at, IsInput}
use Rattle.iiif_peer_wire.specs.declared.fault.WireFault.{WireFault}
use Rattle.iiif_peer_wire.specs.declared.fault.WireFault.TheVariants.{Magic, Short, Long, Key, Digest, Status, Io, NoMemory}
use Rattle.iiif_peer_wire.specs.declared.version.Version.{Version}
use Rattle.iiif_keys.specs.declared.fault.KeyFault.{KeyFault}
use Rattle.iiif_group.specs.declared.link.LinkFault.{LinkFault}
use Rattle.iiif_group.specs.declared.link.LinkFault.TheVariants.{Wire, Refused, Value}

-- An ask was written whole: the writer, as that left it, turned into a reader.
pub record WasSent {W I : Type 0} (contents : W → Option (List ℕ)) (turned : W → I → Type 0) (out : W) (text : List ℕ) (reader : I) : Type 0
  where
    pub written : W
    pub sent : Appends (contents out) (contents written) text
    pub turned_into : turned written reader

-- What became of an ask. cut: it was cut off, and the writer failed. came: it was written whole, and then the reader had the first bytes
-- and has the second left. failed: it was written whole, and the reader failed.
pub record Terms : Type 1 where
  pub cut : Type 0
  pub came : Option (List ℕ) → Option (List ℕ) → Type 0
  pub failed : Type 0
  pub version : Version
  pub key : List ℕ

-- the same of a writer in this state that turns into a reader
abbrev pub terms : {W I : Type 0} → (W → Option (List ℕ)) → (W → W → Type 0) → (W → I → Type 0) → (I → Option (List ℕ)) → (I → I → Type 0) →
    W → Version → ℕ → List ℕ → Terms
terms {W} {I} contents writer_fails turned remaining reader_fails out version group key = record {
  cut = (last : W) × (count : ℕ) × WasCut contents writer_fails out last (ask_text version group key) count;
  came = λ before after. (first : I) × (last : I) × WasSent contents turned out (ask_text version group key) first
      × (before ≡ remaining first) × (after ≡ remaining last);
  failed = (first : I) × (last : I) × WasSent contents turned out (ask_text version group key) first × LeftAt reader_fails last;
  version = version;
  key = key;
}

-- the bytes that the reader had are no reply of the ask's version for its key, and this is the first refusal
abbrev pub Refuses : Terms → WireFault → Type 0
Refuses t fault = (before : Option (List ℕ)) × (after : Option (List ℕ)) × t.came before after
    × ((input : List ℕ) × IsInput before input × (reply_at t.version t.key input ≡ Err fault))

-- a reply of this status and value was read, and nothing more
pub record Replied (t : Terms) (status : ℕ) (value : List ℕ) : Type 0 where
  pub before : Option (List ℕ)
  pub after : Option (List ℕ)
  pub came : t.came before after
  pub spelled : IsReply t.key status value
  pub took : Consumes before after (reply_text t.version t.key status value)

-- Why an ask was not written or its reply not read.
abbrev pub WireFailed : Terms → WireFault → Type 0
WireFailed t Magic = Refuses t Magic
WireFailed t Short = Refuses t Short
WireFailed t Long = Refuses t Long
WireFailed t Key = Refuses t Key
WireFailed t Digest = Refuses t Digest
WireFailed t Status = Refuses t Status
WireFailed t Io = t.cut ⊎ t.failed
WireFailed t NoMemory = (before : Option (List ℕ)) × (after : Option (List ℕ)) × t.came before after
    × ((text : List ℕ) × IsFrontOfReply t.version t.key text × Consumes before after text)

-- The ask was not written or its reply not read; or the reply is a fault of the other node, of this number.
abbrev pub Failed : Terms → LinkFault → Type 0
Failed t (Wire fault) = WireFailed t fault
Failed t (Refused status) = (0 < status) × Replied t status []
Failed t Value = ⊥

-- The same of an ask whose value is read too: what came may be no value of the key's kind, or memory may run out anywhere.
abbrev pub FailedFor : (List ℕ → Option KeyFault) → Terms → LinkFault → Type 0
FailedFor refusal t (Wire NoMemory) = Unit {0}
FailedFor refusal t (Wire fault) = WireFailed t fault
FailedFor refusal t (Refused status) = (0 < status) × Replied t status []
FailedFor refusal t Value = (bytes : List ℕ) × (fault : KeyFault) × (refusal bytes ≡ Some fault) × Replied t 0 bytes
