-- One ask of a connection, answered: words of the code alone.
use Rattle.std.specs.Prelude.{◌≡◌, ℕ, ◌<◌, Bool, true, false, List, Option}
use Rattle.std.specs.Io.KnownBytes.{Consumes}
use Rattle.iiif_peer_wire.specs.Messages.{ask_text, reply_text, IsAsk}
use Rattle.iiif_peer_wire.specs.Reading.{IsInput}
use Rattle.iiif_peer_wire.specs.declared.version.Version.{Version}
use Rattle.iiif_peer_wire.specs.Exchanges.{Answering, ask_limit, Exchange, MayReply}

-- an ask that was read and answered whole. before, after: what the reader had and has left
pub record Answered (answers : Answering) (n : ℕ) (before after : Option (List ℕ)) (text : List ℕ) : Type 0 where
  pub version : Version
  pub group : ℕ
  pub status : ℕ
  pub key : List ℕ
  pub value : List ℕ
  pub ask : IsAsk group key
  pub may : MayReply answers version group key status value
  pub few : n < ask_limit
  pub took : Consumes before after (ask_text version group key)
  pub wrote : text ≡ reply_text version key status value

-- One ask was answered whole, and another may follow; or the connection has ended.
abbrev pub Served : Answering → Type 0 → Type 0 → ℕ → Option (List ℕ) → Option (List ℕ) → List ℕ → Bool → Type 0
Served answers reader writer n before after text true = Answered answers n before after text
Served answers reader writer n before after text false = (input : List ℕ) × IsInput before input ×
    Exchange answers reader writer (IsInput after) n input text
