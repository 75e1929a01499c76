-- The line of a link to another node.
use Rattle.std.specs.Prelude.{◌≡◌, ◌==◌, ℕ, ◌<◌, List, [], ◌∷◌, ◌++◌, All, codes}
use Rattle.std.specs.List.{join_with_byte, slice_split}
use Rattle.iiif_log.specs.Escapes.{escaped}
use Rattle.iiif_log.specs.Moments.{IsMomentText}
use Rattle.iiif_log.specs.declared.peer.PeerTurn.{PeerTurn}
use Rattle.iiif_log.specs.declared.peer.Turn.{Turn}
use Rattle.iiif_log.specs.declared.peer.Turn.TheVariants.{LeftAlone, AskedAgain, Itself}

-- what became of it
abbrev pub turn_word : Turn → List ℕ
turn_word LeftAlone = codes "left-alone"
turn_word AskedAgain = codes "asked-again"
turn_word Itself = codes "itself"

-- The words of a line at this time: when, that it is of another node, the node's name, what became of the link.
abbrev pub peer_words : List ℕ → PeerTurn → List (List ℕ)
peer_words time p = time ∷ codes "peer" ∷ escaped p.name.now ∷ turn_word p.turn ∷ []

-- the words with a space between two of them, and a line feed
abbrev pub IsPeerLineOf : PeerTurn → List ℕ → Type 0
IsPeerLineOf p text = (time : List ℕ) × IsMomentText p.at.millis time × (text ≡ join_with_byte 32 (peer_words time p) ++ 10 ∷ [])

-- A line ends with its one line feed, and what stands before that are its four words, with a space between two of them.
abbrev pub PeerLinesAreLines : Type 0
PeerLinesAreLines =
    (p : PeerTurn) (text : List ℕ) → IsPeerLineOf p text
    → (time front : List ℕ) × IsMomentText p.at.millis time × (text ≡ front ++ 10 ∷ []) × All (λ b. 31 < b) front
    × (slice_split (λ b. b == 32) front ≡ peer_words time p)

-- lines that are one tell of one name and one turn
abbrev pub PeerLinesTellTurns : Type 0
PeerLinesTellTurns =
    (p q : PeerTurn) (text : List ℕ) → All (λ x. x < 256) p.name.now → All (λ x. x < 256) q.name.now → IsPeerLineOf p text →
    IsPeerLineOf q text
    → (p.name.now ≡ q.name.now) × (p.turn ≡ q.turn)
