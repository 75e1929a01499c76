-- The listeners of a node that take connections.
use Rattle.std.specs.Prelude.{ℕ, Option, Some, None}

-- how many there are of what may be missing
abbrev pub count_in : {A : Type 0} → Option A → ℕ
count_in None = 0
count_in (Some x) = 1
