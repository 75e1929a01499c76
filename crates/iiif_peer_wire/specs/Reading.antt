-- Messages read from left to right: what stands there and the bytes behind it, or the first refusal. Each field is checked once it is
-- whole.
use Rattle.std.specs.Prelude.{◌≡◌, ◌≢◌, ◌⊎◌, ℕ, Bool, true, false, ◌||◌, ◌==◌, List, [], ◌∷◌, ◌++◌, length, take, drop, Option, Some, None}
use Rattle.std.specs.Prelude.{Result, Ok, Err, ⊤, nat_lt, nat_le, if◌then◌else◌}
use Rattle.std.specs.Int.{w32, from_be_bytes}
use Rattle.std.specs.Str.{bytes_eq}
use Rattle.sha2.specs.Sha256.{sha256}
use Rattle.iiif_peer_wire.specs.declared.fault.WireFault.{WireFault}
use Rattle.iiif_peer_wire.specs.declared.fault.WireFault.TheVariants.{Magic, Short, Long, Key, Digest, Status}
use Rattle.iiif_peer_wire.specs.declared.version.Version.{Version}
use Rattle.iiif_peer_wire.specs.declared.version.Version.TheVariants.{One, Two}
use Rattle.iiif_peer_wire.specs.Messages.{ask_magic, reply_magic, reply_text, key_limit, value_limit}

infixl 10 ◌>>=◌
abbrev pub ◌>>=◌ : {A B : Type 0} → Result A WireFault → (A → Result B WireFault) → Result B WireFault
(Ok x) >>= f = f x
(Err e) >>= f = Err e

-- what was read stands, where the test holds
abbrev pub checked : {A : Type 0} → Bool → WireFault → A → Result A WireFault
checked true fault x = Ok x
checked false fault x = Err fault

-- so many bytes; an end inside them is Short
unfoldable pub bytes_at : ℕ → List ℕ → Result (List ℕ × List ℕ) WireFault
bytes_at count input = if nat_lt (length input) count then Err Short else Ok (take count input, drop count input)

-- one byte
abbrev pub byte_at : List ℕ → Result (ℕ × List ℕ) WireFault
byte_at [] = Err Short
byte_at (byte ∷ rest) = Ok (byte, rest)

-- a length of four bytes, which is Long above the limit
unfoldable pub length_at : ℕ → List ℕ → Result (ℕ × List ℕ) WireFault
length_at limit input = do
  bytes ← bytes_at 4 input
  checked (nat_le (from_be_bytes w32 bytes.0) limit) Long (from_be_bytes w32 bytes.0, bytes.1)

-- the magic of a message
unfoldable pub magic_at : List ℕ → List ℕ → Result (List ℕ) WireFault
magic_at magic input = do
  bytes ← bytes_at 4 input
  checked (bytes_eq bytes.0 magic) Magic bytes.1

-- the version whose asks begin with these four bytes
abbrev pub ask_version_of : List ℕ → Option Version
ask_version_of bytes =
    if bytes_eq bytes (ask_magic One) then Some One else (
    if bytes_eq bytes (ask_magic Two) then Some Two else None)

-- the version of what stands there, where it has one
abbrev pub versioned : Option Version → List ℕ → Result (Version × List ℕ) WireFault
versioned None rest = Err Magic
versioned (Some version) rest = Ok (version, rest)

-- the magic of an ask
unfoldable pub ask_magic_at : List ℕ → Result (Version × List ℕ) WireFault
ask_magic_at input = do
  bytes ← bytes_at 4 input
  versioned (ask_version_of bytes.0) bytes.1

-- the group and the key of an ask
unfoldable pub ask_fields_at : List ℕ → Result ((ℕ × List ℕ) × List ℕ) WireFault
ask_fields_at input = do
  group ← byte_at input
  behind ← checked (group.0 == 1 || group.0 == 2) Magic group.1
  size ← length_at key_limit behind
  key ← bytes_at size.0 size.1
  Ok ((group.0, key.0), key.1)

-- an ask, its version, its group and its key, or none at a clean end
unfoldable pub ask_at : List ℕ → Result (Option (Version × (ℕ × List ℕ)) × List ℕ) WireFault
ask_at [] = Ok (None, [])
ask_at (first ∷ more) = do
  fields ← ask_magic_at (first ∷ more)
  ask ← ask_fields_at fields.1
  Ok (Some (fields.0, ask.0), ask.1)

-- the bytes hold no whole ask, and none that is to be refused: there are none, or they end early in an ask
abbrev pub IsUnfinishedAsk : List ℕ → Type 0
IsUnfinishedAsk text = (text ≡ []) ⊎ (ask_at text ≡ Err Short)

-- the key of a reply, which is to be the one that was asked
unfoldable pub key_at : List ℕ → List ℕ → Result (List ℕ) WireFault
key_at asked input = do
  size ← length_at key_limit input
  key ← bytes_at size.0 size.1
  checked (bytes_eq key.0 asked) Key key.1

-- the status and the value of a reply; a fault has no value
unfoldable pub value_at : List ℕ → Result ((ℕ × List ℕ) × List ℕ) WireFault
value_at input = do
  status ← byte_at input
  behind ← checked (nat_le status.0 4) Status status.1
  size ← length_at value_limit behind
  rest ← checked (status.0 == 0 || size.0 == 0) Status size.1
  value ← bytes_at size.0 rest
  Ok ((status.0, value.0), value.1)

-- the digest of a reply
unfoldable pub digest_at : List ℕ → List ℕ → Result (List ℕ) WireFault
digest_at message input = do
  digest ← bytes_at 32 input
  checked (bytes_eq digest.0 (sha256 message)) Digest digest.1

-- a reply of the version and for the key that were asked
unfoldable pub reply_at : Version → List ℕ → List ℕ → Result ((ℕ × List ℕ) × List ℕ) WireFault
reply_at version asked input = do
  named ← magic_at (reply_magic version) input
  fields ← key_at asked named
  value ← value_at fields
  rest ← digest_at (asked ++ value.0.1) value.1
  Ok (value.0, rest)

-- a reply of another version is refused by its magic, whatever it is for
abbrev pub RefusesOtherVersions : Type 0
RefusesOtherVersions =
    (version other : Version) (asked key value rest : List ℕ) (status : ℕ) → other ≢ version
    → reply_at version asked (reply_text other key status value ++ rest) ≡ Err Magic

-- the input is what a reader has left, where that is known
abbrev pub IsInput : Option (List ℕ) → List ℕ → Type 0
IsInput None input = ⊤
IsInput (Some left) input = input ≡ left
