-- A connection of another node: what is replied to what was asked, and why it ends.
use Rattle.std.specs.Prelude.{◌≡◌, ℕ, ◌+◌, ◌<◌, List, [], ◌++◌, Err}
use Rattle.iiif_io.specs.Sending.{IsStrictPrefix}
use Rattle.iiif_peer_wire.specs.Faults.{IsRefusal}
use Rattle.iiif_peer_wire.specs.Messages.{ask_text, reply_text, IsAsk, IsReply, IsFrontOfAsk}
use Rattle.iiif_peer_wire.specs.Reading.{ask_at, IsUnfinishedAsk}
use Rattle.iiif_peer_wire.specs.declared.fault.WireFault.{WireFault}
use Rattle.iiif_peer_wire.specs.declared.version.Version.{Version}

-- the most asks of one connection
abbrev pub ask_limit : ℕ
ask_limit = 1000

-- what may be replied to an ask: of its version, its group and its key, a status and a value
abbrev pub Answering : Type 1
Answering = Version → ℕ → List ℕ → ℕ → List ℕ → Type 0

-- a reply of the ask's key that may be given to it
pub record MayReply (answers : Answering) (version : Version) (group : ℕ) (key : List ℕ) (status : ℕ) (value : List ℕ) : Type 0 where
  pub spelled : IsReply key status value
  pub allowed : answers version group key status value

-- Exchange answers reader writer left n input output: the n-th ask is the next, at the front of the input, and output is what is yet
-- written. Each end has its cause. reader, writer: that device failed. left: these bytes were never taken from the reader. So no ask that
-- was taken is without its reply, unless memory was refused inside it.
pub data Exchange (answers : Answering) (reader writer : Type 0) (left : List ℕ → Type 0) : ℕ → List ℕ → List ℕ → Type 0 where
  goes_on : (version : Version) (n group status : ℕ) (key value rest output : List ℕ) → IsAsk group key
      → MayReply answers version group key status value → n < ask_limit → Exchange answers reader writer left (n + 1) rest output
      → Exchange answers reader writer left n (ask_text version group key ++ rest) (reply_text version key status value ++ output)
  limit : (version : Version) (n group status : ℕ) (key value rest : List ℕ) → IsAsk group key
      → MayReply answers version group key status value → n ≡ ask_limit → left rest
      → Exchange answers reader writer left n (ask_text version group key ++ rest) (reply_text version key status value)
  cut_off : (version : Version) (n group status : ℕ) (key value rest text : List ℕ) → IsAsk group key
      → MayReply answers version group key status value → writer → IsStrictPrefix text (reply_text version key status value) → left rest
      → Exchange answers reader writer left n (ask_text version group key ++ rest) text
  ended : (n : ℕ) → Exchange answers reader writer left n [] []
  refused : (n : ℕ) (input : List ℕ) (fault : WireFault) → IsRefusal fault → ask_at input ≡ Err fault →
      Exchange answers reader writer left n input []
  reader_failed : (n : ℕ) (begun rest : List ℕ) → reader → IsUnfinishedAsk begun → left rest →
      Exchange answers reader writer left n (begun ++ rest) []
  no_memory : (n : ℕ) (front rest : List ℕ) → IsFrontOfAsk front → left rest → Exchange answers reader writer left n (front ++ rest) []

-- a whole connection
abbrev pub IsExchange : Answering → Type 0 → Type 0 → (List ℕ → Type 0) → List ℕ → List ℕ → Type 0
IsExchange answers reader writer left input output = Exchange answers reader writer left 1 input output
