-- The laws.
use Rattle.std.proofs.Common.{◌≡◌, ℕ, zero, suc, ◌*◌, ◌<◌, ◌≤◌, Bool, true, false, List, ◌++◌, length, take, drop, Some, refl, ap, ◌∙◌, sym}
use Rattle.std.proofs.Common.{inl, inr, arith}
use Rattle.std.specs.Prelude.{◌⊎◌}
use Rattle.std.specs.Str.{bytes_eq}
use Rattle.std.proofs.lemmas.Slice.Eq.{bytes_eq-Decides}
use Rattle.std.proofs.lemmas.Bool.{cases_lt}
use Rattle.std.proofs.lemmas.List.{take_all, length-take}
use Rattle.std.proofs.lemmas.Nat.{mul-le}
use Rattle.std.proofs.Math.Seq.{take-add}
use Rattle.sha2.specs.Sha256.{sha256}
use Rattle.iiif_fixity.specs.Collisions.{Collide}
use Rattle.iiif_fixity.specs.Pieces.{piece_of, IsListOf, IsTold}
use Rattle.iiif_fixity.specs.Laws.{PieceOrCollide, SameListOrCollide, SameOrCollide}

true_false : true ≡ false → ⊥
true_false same = cc

-- as many as there are of the first n
take_long : (n : ℕ) (xs : List ℕ) → take (length (take n xs)) xs ≡ take n xs
take_long n xs = elim (cases_lt n (length xs)) [
  | inl less ↦ ap (λ (k : ℕ). take k xs) (omega (arith, length-take n xs, less))
  | inr all ↦ take_all (length (take n xs)) xs (omega (arith, length-take n xs, all)) ∙ sym (take_all n xs all)
]

by_test : (xs ys : List ℕ) (b : Bool) → bytes_eq xs ys ≡ b → sha256 xs ≡ sha256 ys → (xs ≡ ys) ⊎ Collide xs ys
by_test xs ys true same digests = inl ((bytes_eq-Decides xs ys).0 same)
by_test xs ys false apart digests = inr ((λ same. true_false (sym ((bytes_eq-Decides xs ys).1 same) ∙ apart)), digests)

pub same_or_collide : SameOrCollide
same_or_collide xs ys digests = by_test xs ys (bytes_eq xs ys) refl digests

some_same : {A : Type 0} (x y : A) → Some x ≡ Some y → x ≡ y
some_same x y same = cc

pub piece_or_collide : PieceOrCollide
piece_or_collide size digests bytes piece i list there digest =
    same_or_collide piece (piece_of size i bytes) (some_same (sha256 piece) (sha256 (piece_of size i bytes)) (sym digest ∙ list i there))

pub kept_is_told : (reads : ℕ → List ℕ → Type 0) (size : ℕ) (digests : List (List ℕ)) (bytes : List ℕ) → IsListOf size digests bytes →
    ((at : ℕ) (found : List ℕ) → reads at found → found ≡ take (length found) (drop at bytes)) → IsTold reads size digests bytes
kept_is_told reads size digests bytes list right = record {
  list = list;
  apart = λ i found there read long same. right (i * size) found read ∙
      ap (λ (k : ℕ). take k (drop (i * size) bytes)) long ∙ take_long size (drop (i * size) bytes);
}

-- the first n pieces are the same, or two collide
abbrev SoFar : ℕ → List ℕ → List ℕ → ℕ → Type 0
SoFar size one other n = (take (n * size) one ≡ take (n * size) other)
    ⊎ ((i : ℕ) × (i * size < length one) × Collide (piece_of size i one) (piece_of size i other))

one_more : (size : ℕ) (digests : List (List ℕ)) (one other : List ℕ) (n : ℕ) → length one ≡ length other → IsListOf size digests one →
    IsListOf size digests other → n * size < length one → take (n * size) one ≡ take (n * size) other → SoFar size one other (suc n)
one_more size digests one other n long list list' there before =
    elim (same_or_collide (piece_of size n one) (piece_of size n other)
    (some_same (sha256 (piece_of size n one)) (sha256 (piece_of size n other))
    (sym (list n there) ∙ list' n (omega (arith, long, there))))) [
      | inl same ↦ inl (ap (λ (k : ℕ). take k one) (omega arith) ∙ take-add (n * size) size one ∙
          ap (λ xs. xs ++ piece_of size n one) before ∙ ap (λ xs. take (n * size) other ++ xs) same ∙
          sym (take-add (n * size) size other) ∙ ap (λ (k : ℕ). take k other) (omega arith))
      | inr collide ↦ inr (n, there, collide)
    ]

past : (size : ℕ) (one other : List ℕ) (n : ℕ) → length one ≡ length other → length one ≤ n * size →
    take (n * size) one ≡ take (n * size) other → SoFar size one other (suc n)
past size one other n long all before =
    let same : one ≡ other = sym (take_all (n * size) one all) ∙ before ∙ take_all (n * size) other (omega (arith, long, all)) in
    inl (ap (λ xs. take (suc n * size) xs) same)

so_far : (size : ℕ) (digests : List (List ℕ)) (one other : List ℕ) (n : ℕ) → length one ≡ length other → IsListOf size digests one →
    IsListOf size digests other → SoFar size one other n
so_far size digests one other zero long list list' =
    let none : 0 * size ≡ 0 = omega arith in
    inl (ap (λ (k : ℕ). take k one) none ∙ sym (ap (λ (k : ℕ). take k other) none))
so_far size digests one other (suc n) long list list' = elim (so_far size digests one other n long list list') [
  | inl before ↦ elim (cases_lt (n * size) (length one)) [
    | inl there ↦ one_more size digests one other n long list list' there before
    | inr all ↦ past size one other n long all before
  ]
  | inr collide ↦ inr collide
]

pub same_list_or_collide : SameListOrCollide
same_list_or_collide size digests one other some long list list' =
    let all : length one * 1 ≤ length one * size = mul-le (length one) 1 (length one) size (omega arith) some in
    elim (so_far size digests one other (length one) long list list') [
      | inl same ↦ inl (sym (take_all (length one * size) one (omega (arith, all))) ∙ same ∙
          take_all (length one * size) other (omega (arith, all, long)))
      | inr collide ↦ inr collide
    ]
