-- Turned bits change the digests of these pieces, by computing them.
use Rattle.std.proofs.Common.{◌≡◌, ℕ, zero, suc, ◌*◌, ◌<◌, true, false, List, [], ◌∷◌, length, take, drop, Some, refl, ap, ◌∙◌, sym, inl}
use Rattle.std.proofs.Common.{inr, arith}
use Rattle.std.specs.Str.{bytes_eq}
use Rattle.std.proofs.lemmas.Slice.Eq.{bytes_eq-Decides}
use Rattle.sha2.specs.Sha256.{sha256, first_words, schedule, rounds, compress, hash_after, digest_bytes}
use Rattle.iiif_fixity.specs.Pieces.{listed, IsListOf, NoneCollides, IsTold}
use Rattle.iiif_witnesses.specs.Flips.{flipped, six, IsReadOf}

pub first_apart : bytes_eq (sha256 (0 ∷ 2 ∷ 3 ∷ 4 ∷ [])) (sha256 (1 ∷ 2 ∷ 3 ∷ 4 ∷ [])) ≡ false
unfolding first_words schedule rounds compress hash_after digest_bytes sha256
first_apart = refl

pub second_apart : bytes_eq (sha256 (4 ∷ 6 ∷ [])) (sha256 (5 ∷ 6 ∷ [])) ≡ false
unfolding first_words schedule rounds compress hash_after digest_bytes sha256
second_apart = refl

true_false : true ≡ false → ⊥
true_false same = cc

-- two texts whose digests were computed, and differ, have no digest in common
differ : (xs ys found : List ℕ) → bytes_eq (sha256 xs) (sha256 ys) ≡ false → found ≡ xs → sha256 found ≡ sha256 ys → ⊥
differ xs ys found apart found-is same =
    true_false (sym ((bytes_eq-Decides (sha256 xs) (sha256 ys)).1 (sym (ap sha256 found-is) ∙ same)) ∙ apart)

abbrev two : List (List ℕ)
two = sha256 (1 ∷ 2 ∷ 3 ∷ 4 ∷ []) ∷ sha256 (5 ∷ 6 ∷ []) ∷ []

beyond : (i : ℕ) → suc (suc i) * 4 < 6 → ⊥
beyond i there = omega (arith, there)

six_list : (digests : List (List ℕ)) → digests ≡ two → IsListOf 4 digests six
six_list digests are zero there = ap (λ ds. listed ds 0) are
six_list digests are (suc zero) there = ap (λ ds. listed ds 1) are
six_list digests are (suc (suc i)) there = absurd (beyond i there)

first_of : (found : List ℕ) → IsReadOf six 0 found → length found ≡ 4 → sha256 found ≡ sha256 (1 ∷ 2 ∷ 3 ∷ 4 ∷ []) →
    found ≡ 1 ∷ 2 ∷ 3 ∷ 4 ∷ []
first_of found (inl right) long same = right ∙ ap (λ (k : ℕ). take k six) long
first_of found (inr turned) long same =
    absurd (differ (0 ∷ 2 ∷ 3 ∷ 4 ∷ []) (1 ∷ 2 ∷ 3 ∷ 4 ∷ []) found first_apart (turned ∙ ap (λ (k : ℕ). flipped (take k six)) long) same)

second_of : (found : List ℕ) → IsReadOf six 4 found → length found ≡ 2 → sha256 found ≡ sha256 (5 ∷ 6 ∷ []) → found ≡ 5 ∷ 6 ∷ []
second_of found (inl right) long same = right ∙ ap (λ (k : ℕ). take k (5 ∷ 6 ∷ [])) long
second_of found (inr turned) long same =
    absurd (differ (4 ∷ 6 ∷ []) (5 ∷ 6 ∷ []) found second_apart (turned ∙ ap (λ (k : ℕ). flipped (take k (5 ∷ 6 ∷ []))) long) same)

six_apart : NoneCollides (IsReadOf six) 4 six
six_apart zero found there read long same = first_of found read long same
six_apart (suc zero) found there read long same = second_of found read long same
six_apart (suc (suc i)) found there read long same = absurd (beyond i there)

-- the premise, of a device that may turn a bit at each read
pub six_told : (held : List ℕ) (digests : List (List ℕ)) → held ≡ six → digests ≡ two → IsTold (IsReadOf held) 4 digests held
six_told held digests held-is are = rw held-is (record { list = six_list digests are; apart = six_apart })
