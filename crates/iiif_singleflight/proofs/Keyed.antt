-- An open flight at a key is for it.
use Rattle.std.proofs.Common.{◌≡◌, Bool, true, cond, Option, Some, Result, Ok, Err, OnOk, OnErr, sym, ap, ◌∙◌, inl, inr}
use Rattle.std.proofs.lemmas.Bool.{cases_Bool}

module _ {K X : Type 0} (eq : K → K → Bool) (ident : (a b : K) → eq a b ≡ true → a ≡ b) (f : X → K) where
  pub keyed_with : (k : K) (w : X) (m n : K → Option X) → f w ≡ k → ((q : K) → n q ≡ cond (eq k q) (Some w) (m q)) →
      ((q : K) (x : X) → m q ≡ Some x → f x ≡ q) → (q : K) (x : X) → n q ≡ Some x → f x ≡ q
  keyed_with k w m n h up old q x is = elim (cases_Bool (eq k q)) [
    | inl t ↦
        let a : n q ≡ Some w = up q ∙ ap (λ b. cond b (Some w) (m q)) t in
        let e : Some w ≡ Some x = sym a ∙ is in
        let same : w ≡ x = cc in
        ap f (sym same) ∙ (h ∙ ident k q t)
    | inr off ↦
        let a : n q ≡ m q = up q ∙ ap (λ b. cond b (Some w) (m q)) off in
        old q x (sym a ∙ is)
  ]

pub either_way : {X E : Type 0} (r : Result X E) (P Q R : Type 0) → OnOk r P → OnErr r Q → (P → R) → (Q → R) → R
either_way (Ok x) P Q R a b f g = f a
either_way (Err e) P Q R a b f g = g b
