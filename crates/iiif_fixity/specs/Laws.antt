-- Laws of digests and of lists of them.
use Rattle.std.specs.Prelude.{◌≡◌, ◌⊎◌, ℕ, ◌*◌, ◌<◌, List, length, Some}
use Rattle.sha2.specs.Sha256.{sha256}
use Rattle.iiif_fixity.specs.Collisions.{Collide}
use Rattle.iiif_fixity.specs.Pieces.{piece_of, listed, IsListOf}

-- Two texts with one digest are the same, or they collide.
abbrev pub SameOrCollide : Type 0
SameOrCollide = (one other : List ℕ) → sha256 one ≡ sha256 other → (one ≡ other) ⊎ Collide one other

-- Bytes with the digest that is listed of a piece are that piece, or the two collide.
abbrev pub PieceOrCollide : Type 0
PieceOrCollide = (size : ℕ) (digests : List (List ℕ)) (bytes piece : List ℕ) (i : ℕ) → IsListOf size digests bytes
    → i * size < length bytes → listed digests i ≡ Some (sha256 piece)
    → (piece ≡ piece_of size i bytes) ⊎ Collide piece (piece_of size i bytes)

-- Two files of one length with one list are the same, or two of their pieces collide.
abbrev pub SameListOrCollide : Type 0
SameListOrCollide = (size : ℕ) (digests : List (List ℕ)) (one other : List ℕ) → 0 < size → length one ≡ length other
    → IsListOf size digests one → IsListOf size digests other
    → (one ≡ other) ⊎ ((i : ℕ) × (i * size < length one) × Collide (piece_of size i one) (piece_of size i other))
