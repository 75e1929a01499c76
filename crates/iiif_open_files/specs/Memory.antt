-- Files in memory.
use Rattle.std.specs.Prelude.{ℕ, List, map, min}

-- Numbers as bytes: one above 255 counts as 255.
abbrev pub as_bytes : List ℕ → List ℕ
as_bytes = map (λ b. min b 255)
