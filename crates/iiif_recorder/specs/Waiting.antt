-- How a line comes to wait.
use Rattle.std.specs.Prelude.{◌≡◌, ◌⊎◌, ℕ, Bool, true, false, List, ◌++◌, codes}

-- A record ends, which its last line says where that has room; one that has ended stays as it is.
abbrev pub Ends : List ℕ → Bool → List ℕ → Bool → Type 0
Ends before ended after ended_then =
    ((ended ≡ true) × (after ≡ before) × (ended_then ≡ true))
    ⊎ ((ended ≡ false) × (ended_then ≡ true) × ((after ≡ before ++ codes "0 ended\n") ⊎ (after ≡ before)))

-- A line is put behind the lines of a record that hasn't ended; or the record ends.
abbrev pub Puts : List ℕ → List ℕ → Bool → List ℕ → Bool → Type 0
Puts line before ended after ended_then =
    ((ended ≡ false) × (ended_then ≡ false) × (after ≡ before ++ line)) ⊎ Ends before ended after ended_then
