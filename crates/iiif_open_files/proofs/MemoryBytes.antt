-- Bytes in memory.
use Rattle.std.proofs.Common.{◌≡◌, ℕ, ◌≤◌, List, [], ◌∷◌, All, min, ap, ◌∙◌, refl, suc, arith}
use Rattle.iiif_open_files.specs.Memory.{as_bytes}

-- numbers that are bytes are themselves as bytes
pub bytes_stay : (xs : List ℕ) → All (λ b. b ≤ 255) xs → xs ≡ as_bytes xs
bytes_stay [] all = refl
bytes_stay (x ∷ xs) all =
    let first : x ≡ min x 255 = omega (arith, all 0 0 (omega arith)) in
    let rest : xs ≡ as_bytes xs = bytes_stay xs (λ k d below. all (suc k) d (omega (arith, below))) in
    ap (λ (b : ℕ). b ∷ xs) first ∙ ap (λ (bs : List ℕ). min x 255 ∷ bs) rest
