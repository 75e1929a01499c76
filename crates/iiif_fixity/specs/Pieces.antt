-- Files cut into pieces of one size, and the digests that are listed of the pieces.
--
--   piece_of       piece i of bytes
--   listed         digest i of a list
--   IsListOf       the list has the digest of each piece
--   NoneCollides   no piece that a device's reads gave collides with the file's
--   IsTold         the premise of a checked source
--   any_gave       the faults of reads of pieces
use Rattle.std.specs.Prelude.{◌≡◌, ℕ, zero, suc, ◌*◌, ◌<◌, ◌||◌, Bool, false, List, length, take, drop, Option, Some, slice_get}
use Rattle.sha2.specs.Sha256.{sha256}
use Rattle.iiif_source.specs.declared.ReadFault.{ReadFault}

-- piece i, counted from 0, of bytes that are cut into pieces of so many; the last may be shorter
abbrev pub piece_of : ℕ → ℕ → List ℕ → List ℕ
piece_of size i bytes = take size (drop (i * size) bytes)

-- The digest that is listed of piece i, if there is one.
abbrev pub listed : List (List ℕ) → ℕ → Option (List ℕ)
listed digests i = slice_get digests i

-- The list has the digest of each piece of these bytes.
abbrev pub IsListOf : ℕ → List (List ℕ) → List ℕ → Type 0
IsListOf size digests bytes = (i : ℕ) → i * size < length bytes → listed digests i ≡ Some (sha256 (piece_of size i bytes))

-- A piece that a read gave of these bytes, of its length and with its digest, is theirs.
abbrev pub NoneCollides : (ℕ → List ℕ → Type 0) → ℕ → List ℕ → Type 0
NoneCollides reads size bytes = (i : ℕ) (found : List ℕ) → i * size < length bytes → reads (i * size) found
    → length found ≡ length (piece_of size i bytes) → sha256 found ≡ sha256 (piece_of size i bytes) → found ≡ piece_of size i bytes

-- These bytes are the piece of a number, or there are none.
abbrev pub IsPieceOf : ℕ → List ℕ → ℕ → List ℕ → Type 0
IsPieceOf size bytes number piece = 0 < length piece → piece ≡ piece_of size number bytes

-- The premise of a checked source: the list is that of the file's bytes, and no piece that was read collides with the file's. It speaks of
-- this device's reads, which may be wrong at any time, and not of all texts.
pub record IsTold (reads : ℕ → List ℕ → Type 0) (size : ℕ) (digests : List (List ℕ)) (bytes : List ℕ) : Type 0 where
  pub list : IsListOf size digests bytes
  pub apart : NoneCollides reads size bytes

-- whether a read of one of the first n pieces had a fault of this cause
unfoldable pub any_gave : (ReadFault → Bool) → ℕ → ℕ → ℕ → Bool
any_gave gave size cause zero = false
any_gave gave size cause (suc n) = gave (record { place = n * size; cause = cause }) || any_gave gave size cause n
