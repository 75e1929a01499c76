-- The words that a server is told, and what it replies.
use Rattle.std.specs.Prelude.{◌≡◌, ℕ, ◌+◌, ◌≤◌, List, ◌∷◌, Option, Some, None, if◌then◌else◌, codes, bytes_eq}
use Rattle.iiif_services.specs.declared.command.Command.{Command}
use Rattle.iiif_services.specs.declared.command.Command.TheVariants.{Status, Drain, Reload, Stop}

-- the word of a command
abbrev pub word_of : Command → List ℕ
word_of Status = codes "status"
word_of Drain = codes "drain"
word_of Reload = codes "reload"
word_of Stop = codes "stop"

-- the command of a word
abbrev pub command_named : List ℕ → Option Command
command_named word =
    if bytes_eq word (codes "status") then Some Status else (
    if bytes_eq word (codes "drain") then Some Drain else (
    if bytes_eq word (codes "reload") then Some Reload else (
    if bytes_eq word (codes "stop") then Some Stop else None)))

-- a reply of this status, 0 to 2, and this text: the digit, and then the text
abbrev pub IsReply : List ℕ → ℕ → List ℕ → Type 0
IsReply reply status text = (reply ≡ (48 + status) ∷ text) × (status ≤ 2)
