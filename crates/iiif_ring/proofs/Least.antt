-- The least of finitely many numbers.
use Rattle.std.proofs.Common.{ℕ, zero, suc, ◌≡◌, ◌<◌, ◌≤◌, ⊎_elim, subst, sym, arith}
use Rattle.std.proofs.lemmas.Bool.{cases_eq, cases_lt}

-- among the first numbers of a sequence one is no larger than any
pub record HasLeast (f : ℕ → ℕ) (n : ℕ) : Type 0 where
  pub at : ℕ
  pub within : at < n
  pub least : (other : ℕ) → other < n → f at ≤ f other

-- it is the next number, or the least of those before it
has_least_more : (f : ℕ → ℕ) (n : ℕ) → HasLeast f n → HasLeast f (suc n)
has_least_more f n before = ⊎_elim
    (λ (less : f n < f before.at). record {
      at = n;
      within = omega arith;
      least = λ other below. ⊎_elim
          (λ same. subst (λ k. f n ≤ f k) (sym same) (omega arith))
          (λ apart. omega (arith, less, before.least other (omega (arith, apart))))
          (cases_eq other n);
    })
    (λ (up : f before.at ≤ f n). record {
      at = before.at;
      within = omega (arith, before.within);
      least = λ other below. ⊎_elim
          (λ same. subst (λ k. f before.at ≤ f k) (sym same) up)
          (λ apart. before.least other (omega (arith, apart)))
          (cases_eq other n);
    })
    (cases_lt (f n) (f before.at))

pub has_least : (f : ℕ → ℕ) (n : ℕ) → 0 < n → HasLeast f n
has_least f zero h = absurd (omega arith)
has_least f (suc zero) h = record {
  at = 0;
  within = omega arith;
  least = λ other below. let same : other ≡ 0 = omega arith in subst (λ k. f 0 ≤ f k) (sym same) (omega arith);
}
has_least f (suc (suc n)) h = has_least_more f (suc n) (has_least f (suc n) (omega arith))
