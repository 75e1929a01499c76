-- Numbers, one after another.
use Rattle.std.proofs.Common.{◌≡◌, ℕ, zero, suc, ◌+◌, ◌-◌, ◌≤◌, List, [], ◌∷◌, ◌++◌, length, refl, ap, ◌∙◌, arith}
use Rattle.iiif_machine.specs.Types.{Key}
use Rattle.iiif_machine.specs.Worlds.{numbers}

abbrev pub numbered : ℕ → ℕ → List ℕ
numbered first zero = []
numbered first (suc n) = first ∷ numbered (suc first) n

pub numbered_more : (first n : ℕ) → numbered first n ++ (first + n) ∷ [] ≡ numbered first (suc n)
numbered_more first zero = let e : first + zero ≡ first = omega arith in ap (λ m. m ∷ []) e
numbered_more first (suc n) =
    let e : first + suc n ≡ suc first + n = omega arith in
    ap (λ m. first ∷ (numbered (suc first) n ++ m ∷ [])) e ∙ ap (λ l. first ∷ l) (numbered_more (suc first) n)

pub numbered_keys : (first : ℕ) (keys : List Key) → numbered first (length keys) ≡ numbers first keys
numbered_keys first [] = refl
numbered_keys first (k ∷ keys) = ap (λ l. first ∷ l) (numbered_keys (suc first) keys)

pub numbers_step : (now next : List ℕ) (first number : ℕ) → now ≡ numbered first (number - first) → first ≤ number →
    next ≡ now ++ number ∷ [] →
    next ≡ numbered first (number + 1 - first)
numbers_step now next first number is less pushed =
    let here : number ≡ first + (number - first) = omega arith in
    let more : suc (number - first) ≡ number + 1 - first = omega arith in
    pushed ∙ ap (λ (l : List ℕ). l ++ number ∷ []) is ∙ ap (λ n. numbered first (number - first) ++ n ∷ []) here
    ∙ numbered_more first (number - first) ∙ ap (numbered first) more
