-- The messages between nodes, as whole texts. Numbers are big endian.
use Rattle.std.specs.Prelude.{◌≡◌, ℕ, ◌<◌, ◌≤◌, ◌⊎◌, List, [], ◌∷◌, ◌++◌, length, codes}
use Rattle.std.specs.Int.{w32, to_be_bytes}
use Rattle.sha2.specs.Sha256.{sha256}
use Rattle.iiif_peer_wire.specs.declared.version.Version.{Version}
use Rattle.iiif_peer_wire.specs.declared.version.Version.TheVariants.{One, Two}

-- the digit of a version, in ASCII
abbrev pub digit_of : Version → ℕ
digit_of One = 49
digit_of Two = 50

-- what an ask and a reply of a version begin with
abbrev pub ask_magic : Version → List ℕ
ask_magic version = codes "IGA" ++ digit_of version ∷ []

abbrev pub reply_magic : Version → List ℕ
reply_magic version = codes "IGR" ++ digit_of version ∷ []

-- how many bytes a key and a value have at most
abbrev pub key_limit : ℕ
key_limit = 4096

abbrev pub value_limit : ℕ
value_limit = 67108864

-- four bytes of length, and that many bytes
abbrev pub field : List ℕ → List ℕ
field bytes = to_be_bytes w32 (length bytes) ++ bytes

-- the groups that can be asked: 1 for tiles, 2 for sums
abbrev pub IsGroup : ℕ → Type 0
IsGroup group = (group ≡ 1) ⊎ (group ≡ 2)

-- what an ask can be
pub record IsAsk (group : ℕ) (key : List ℕ) : Type 0 where
  pub group_known : IsGroup group
  pub key_within : length key ≤ key_limit

-- an ask: its magic, the group, the key
unfoldable pub ask_text : Version → ℕ → List ℕ → List ℕ
ask_text version group key = ask_magic version ++ group ∷ field key

-- the front of an ask: its magic, its group, the length of its key, and a byte of the key or more
pub record IsFrontOfAsk (text : List ℕ) : Type 0 where
  pub version : Version
  pub group : ℕ
  pub size : ℕ
  pub came : List ℕ
  pub group_known : IsGroup group
  pub within : size ≤ key_limit
  pub some : 1 ≤ length came
  pub few : length came ≤ size
  pub spelled : text ≡ ask_magic version ++ group ∷ (to_be_bytes w32 size ++ came)

-- what a reply for a key can be: status 0 with the value, or the number of a fault, 1 to 4, with none
pub record IsReply (key : List ℕ) (status : ℕ) (value : List ℕ) : Type 0 where
  pub key_within : length key ≤ key_limit
  pub status_known : status ≤ 4
  pub value_within : length value ≤ value_limit
  pub no_value : 0 < status → value ≡ []

-- a reply: its magic, the key, the status, the value, and SHA-256 of the key and then the value (RFC 6234)
unfoldable pub reply_text : Version → List ℕ → ℕ → List ℕ → List ℕ
reply_text version key status value = reply_magic version ++ (field key ++ status ∷ (field value ++ sha256 (key ++ value)))

-- the front of a reply for a key: its magic, the key, status 0, the length of its value, and a byte of the value or more
pub record IsFrontOfReply (version : Version) (key text : List ℕ) : Type 0 where
  pub size : ℕ
  pub came : List ℕ
  pub key_within : length key ≤ key_limit
  pub within : size ≤ value_limit
  pub some : 1 ≤ length came
  pub few : length came ≤ size
  pub spelled : text ≡ reply_magic version ++ (field key ++ 0 ∷ (to_be_bytes w32 size ++ came))
