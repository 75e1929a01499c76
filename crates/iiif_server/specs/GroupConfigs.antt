-- What the groups of a node are made with.
use Rattle.std.specs.Prelude.{◌≡◌, ℕ, ◌<◌, length, vec_len, Result, IfOk, IfSome}
use Rattle.std.specs.declared.sync.ledger.Blank.{Blank}
use Rattle.iiif_keys.specs.Ledgers.{all_parts}
use Rattle.iiif_server.specs.declared.group_config.GroupConfig.{GroupConfig}

-- A group can be made of it, with the ledger of this name and of so many parts: there is a link for each place of the ring.
pub record IsGroupConfig {N T : Type 0} (name parts : ℕ) (s : GroupConfig N T) : Type 0 where
  pub links : vec_len s.links ≡ length s.ring
  pub own : IfSome s.own (λ place. place < length s.ring)
  pub blank_name : s.blank.name ≡ name
  pub blank_parts : s.blank.parts ≡ parts
  pub all : parts ≡ all_parts

-- a ledger of this name, and of as many parts as that of a group has
abbrev pub IsBlankOf : ℕ → ℕ → Blank → Type 0
IsBlankOf name parts blank = (blank.name ≡ name) × (blank.parts ≡ parts) × (parts ≡ all_parts)

-- what was made has settings of a group with this ledger, where that has as many parts as that of a group
abbrev pub HasGroupConfig : {A E N T : Type 0} → Blank → (A → GroupConfig N T) → Result A E → Type 0
HasGroupConfig blank part result =
    (name parts : ℕ) → blank.name ≡ name → blank.parts ≡ parts → parts ≡ all_parts → IfOk result (λ made. IsGroupConfig name parts (part made))

-- the same of the settings of two groups, with the ledgers of tiles and of sums
pub record HasGroupConfigs {E N T : Type 0} (of_tiles of_sums : Blank) (result : Result (GroupConfig N T × GroupConfig N T) E) : Type 0 where
  pub tiles : HasGroupConfig of_tiles (λ both. both.0) result
  pub sums : HasGroupConfig of_sums (λ both. both.1) result
