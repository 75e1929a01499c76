-- Names of nodes, as their bytes.
use Rattle.std.specs.Prelude.{◌≡◌, ◌≢◌, ℕ, ◌<◌, List, length, map, AllPairs, slice_index_or}
use Rattle.std.specs.String.{string_bytes}
use Rattle.std.specs.declared.string.String.{String}
use Rattle.std.specs.declared.alloc.Global.{Global}

-- the bytes of each name
abbrev pub names_of : List (String Global) → List (List ℕ)
names_of names = map (λ name. string_bytes name) names

-- two places hold one name
pub record HasTwice (names : List (List ℕ)) : Type 0 where
  pub early : ℕ
  pub late : ℕ
  pub before : early < late
  pub within : late < length names
  pub same : (d : List ℕ) → slice_index_or names early d ≡ slice_index_or names late d

-- no two places hold one name
abbrev pub AreDistinct : List (List ℕ) → Type 0
AreDistinct names = AllPairs (λ a b. a ≢ b) names
