-- Lines that are cut behind their digits, and behind white space.
use Rattle.std.proofs.Common.{◌≡◌, ℕ, ◌<◌, Bool, true, false, List, [], ◌∷◌, length, take, drop, min, cond, slice_index, refl, ap, sym, ◌∙◌}
use Rattle.std.proofs.Common.{inl, inr, arith}
use Rattle.std.proofs.lemmas.Bool.{cases_lt}
use Rattle.iiif_fixity.specs.Manifests.{is_blank, behind_blanks}
use Rattle.std.proofs.lemmas.List.{drop_all, take_min}

pub take_short : (n : ℕ) (xs : List ℕ) → take (min (length xs) n) xs ≡ take n xs
take_short n xs = ap (λ (k : ℕ). take k xs) (omega arith) ∙ take_min n xs

pub drop_short : (n : ℕ) (xs : List ℕ) → drop (min (length xs) n) xs ≡ drop n xs
drop_short n xs = elim (cases_lt n (length xs)) [
  | inl less ↦ ap (λ (k : ℕ). drop k xs) (omega (arith, less))
  | inr all ↦ ap (λ (k : ℕ). drop k xs) (omega (arith, all)) ∙ (drop_all (length xs) xs (omega arith) ∙ sym (drop_all n xs all))
]

cond_true : (b : Bool) (xs ys : List ℕ) → b ≡ true → cond b xs ys ≡ xs
cond_true true xs ys is = refl
cond_true false xs ys is = cc

cond_false : (b : Bool) (xs ys : List ℕ) → b ≡ false → cond b xs ys ≡ ys
cond_false true xs ys is = cc
cond_false false xs ys is = refl

-- one more byte of white space
pub behind_more : (xs : List ℕ) → is_blank (slice_index xs 0) ≡ true → 0 < length xs → behind_blanks (drop 1 xs) ≡ behind_blanks xs
unfolding behind_blanks
behind_more [] blank some = refl
behind_more (b ∷ bs) blank some = sym (cond_true (is_blank b) (behind_blanks bs) (b ∷ bs) blank)

-- no more of it
pub behind_done : (xs : List ℕ) → is_blank (slice_index xs 0) ≡ false → xs ≡ behind_blanks xs
unfolding behind_blanks
behind_done [] other = refl
behind_done (b ∷ bs) other = sym (cond_false (is_blank b) (behind_blanks bs) (b ∷ bs) other)
