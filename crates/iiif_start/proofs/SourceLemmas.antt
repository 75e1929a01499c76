-- Sources of files.
use Rattle.std.proofs.Common.{◌≡◌, ℕ, ◌+◌, ◌-◌, ◌<◌, ◌≤◌, List, ◌++◌, length, take, drop, get_or, replicate, ap, ◌∙◌, arith}
use Rattle.std.proofs.lemmas.List.{append-nil, take_all, length-append, length-take, length-replicate}
use Rattle.std.proofs.lemmas.List.Sums.{sum_by_more}
use Rattle.std.specs.List.{sum_by}
use Rattle.iiif_io.specs.Counting.{capped}
use Rattle.iiif_source.specs.Files.{fitted}

-- all bytes, read at once
pub all_read : (bytes buffer before : List ℕ) → buffer ≡ take (length before) (drop 0 bytes) → length before ≡ length bytes → buffer ≡ bytes
all_read bytes buffer before read all = read ∙ (ap (λ n. take n bytes) all ∙ take_all (length bytes) bytes (omega arith))

-- what a path holds, of its own length
pub whole : (held : List ℕ) (n : ℕ) → n ≡ length held → fitted n held ≡ held
whole held n all =
    let none : n - length held ≡ 0 = omega arith in
    ap (λ front. front ++ replicate (n - length held) 0) (ap (λ k. take k held) all ∙ take_all (length held) held (omega arith))
    ∙ (ap (λ k. held ++ replicate k 0) none ∙ append-nil held)

-- as many bytes as there are to be
pub fitted_length : (n : ℕ) (held : List ℕ) → length (fitted n held) ≡ n
fitted_length n held =
    let zeros : List ℕ = replicate (n - length held) 0 in
    let padded : length zeros ≡ n - length held = length-replicate {A = ℕ} (n - length held) 0 in
    omega (arith, length-append (take n held) zeros, length-take n held, padded)

-- a capped sum with one more
pub added : {X : Type 0} (f : X → ℕ) (xs : List X) (i : ℕ) (d : X) (before more : ℕ) → before ≡ capped (sum_by f (take i xs)) →
    more ≡ f (get_or xs i d) → i < length xs
    → capped (before + more) ≡ capped (sum_by f (take (i + 1) xs))
added f xs i d before more is one below =
    let all : sum_by f (take (i + 1) xs) ≡ sum_by f (take i xs) + f (get_or xs i d) = sum_by_more f xs i d below in
    omega (arith, all, is, one)
