-- Bytes of any kind as a word.
use Rattle.std.specs.Prelude.{ℕ, ◌+◌, ◌/◌, ◌%◌, Bool, not, ◌&&◌, ◌==◌, nat_lt, List, [], ◌∷◌, length, if◌then◌else◌}
use Rattle.std.specs.List.{flat_map}

-- visible ASCII without the quotes and the backslash
abbrev pub is_plain : ℕ → Bool
is_plain b = nat_lt 32 b && nat_lt b 127 && not (b == 34) && not (b == 39) && not (b == 92)

-- a hexadecimal digit, of which those above 9 are capital letters
abbrev pub hex_digit : ℕ → ℕ
hex_digit n = if nat_lt n 10 then 48 + n else 55 + n

-- a byte that stands for itself, or \xHH
abbrev pub escape_of : ℕ → List ℕ
escape_of b = if is_plain b then b ∷ [] else 92 ∷ 120 ∷ hex_digit (b / 16) ∷ hex_digit (b % 16) ∷ []

-- bytes as a word, which for none at all is two quotes
abbrev pub escaped : List ℕ → List ℕ
escaped bytes = if length bytes == 0 then 34 ∷ 34 ∷ [] else flat_map escape_of bytes
