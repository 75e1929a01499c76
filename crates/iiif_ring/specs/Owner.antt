-- Which name owns a key: consistent hashing on a ring of 2^64 places.
use Rattle.std.specs.Prelude.{◌≡◌, ℕ, ◌+◌, ◌-◌, ◌%◌, ◌^◌, ◌<◌, ◌⊎◌, ◌↔◌, List, ◌++◌, take, decimal, false, Contains}
use Rattle.std.specs.Int.{from_be_bytes, w64}
use Rattle.std.specs.Ordering.{is_gt, nat_cmp}
use Rattle.std.specs.Cmp.Lexicographic.{slice_cmp}
use Rattle.sha2.specs.Sha256.{sha256}

-- the first eight bytes, high first, of SHA-256 (RFC 6234, section 6.2)
unfoldable pub hash : List ℕ → ℕ
hash bytes = from_be_bytes w64 (take 8 (sha256 bytes))

-- how many points each name has
abbrev pub replicas : ℕ
replicas = 50

-- the point of a name's replica: the hash of the replica's number in decimal and then the name
unfoldable pub point : List ℕ → ℕ → ℕ
point name replica = hash (decimal replica ++ name)

-- how far a place is behind another, round the ring: (place - from) mod 2^64
unfoldable pub distance : ℕ → ℕ → ℕ
distance place from = (place + (2 ^ 64 - from)) % 2 ^ 64

-- how far a name's replica is behind a key
abbrev pub distance_from : List ℕ → List ℕ → ℕ → ℕ
distance_from key name replica = distance (point name replica) (hash key)

-- a name is no larger than another, by bytes
abbrev pub IsUpTo : List ℕ → List ℕ → Type 0
IsUpTo name other = is_gt (slice_cmp nat_cmp name other) ≡ false

-- a replica comes no later than another behind the key: nearer, or as near and its name no larger
abbrev pub ComesFirst : List ℕ → List ℕ → ℕ → List ℕ → ℕ → Type 0
ComesFirst key name replica other replica' =
    (distance_from key name replica < distance_from key other replica')
    ⊎ ((distance_from key name replica ≡ distance_from key other replica') × IsUpTo name other)

-- of all pairs of a name and a replica one of this name comes first behind the key
pub record IsOwner (names : List (List ℕ)) (key name : List ℕ) : Type 0 where
  pub named : Contains names name
  pub replica : ℕ
  pub numbered : replica < replicas
  pub first : (other : List ℕ) (replica' : ℕ) → Contains names other → replica' < replicas → ComesFirst key name replica other replica'

-- the same names, in whatever order
abbrev pub HaveSameNames : List (List ℕ) → List (List ℕ) → Type 0
HaveSameNames names others = (name : List ℕ) → Contains names name ↔ Contains others name
