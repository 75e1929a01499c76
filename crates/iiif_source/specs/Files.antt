-- Files as sources.
--
--   Named    a file source as contracts see it: path and length
--   fitted   a file's bytes, cut or filled with zeros to a length
--   Says     metadata that the system told, with a property
use Rattle.std.specs.Prelude.{ℕ, ◌-◌, Bool, IsTrue, List, ◌++◌, length, take, replicate}
use Rattle.std.specs.declared.fs.Metadata.{Metadata}

-- A file as a source: its path, and its length in bytes.
pub record Named : Type 0 where
  pub path : List ℕ
  pub len : ℕ

-- The bytes of a file of length n: cut off behind n, or filled up with zeros.
abbrev pub fitted : ℕ → List ℕ → List ℕ
fitted n held = take n held ++ replicate (n - length held) 0

-- The system told metadata of a path or of an open file, and they have the property.
abbrev pub Says : {X : Type 0} → (X → Metadata → Bool) → X → (Metadata → Type 0) → Type 0
Says said x is = (found : Metadata) × IsTrue (said x found) × is found
