-- A device that turns bits.
use Rattle.std.specs.Prelude.{◌≡◌, ◌⊎◌, ℕ, List, [], ◌∷◌, length, take, drop, bit_xor}

-- the same bytes, with the lowest bit of the first one turned
abbrev pub flipped : List ℕ → List ℕ
flipped [] = []
flipped (b ∷ bs) = bit_xor b 1 ∷ bs

-- A read at an offset gave the bytes that stand there, or those with a bit turned.
abbrev pub IsReadOf : List ℕ → ℕ → List ℕ → Type 0
IsReadOf bytes at given =
    (given ≡ take (length given) (drop at bytes)) ⊎ (given ≡ flipped (take (length given) (drop at bytes)))

-- the bytes of the device
abbrev pub six : List ℕ
six = 1 ∷ 2 ∷ 3 ∷ 4 ∷ 5 ∷ 6 ∷ []
