-- Functions of classes and keys that differ at one place.
use Rattle.std.proofs.Common.{◌≡◌, Bool, true, false, cond, Option, option_map, refl, sym, ap, ◌∙◌}
use mathlib.Core.Path.{fun_ext}
use Rattle.std.specs.Map.{update}
use Rattle.iiif_tables.specs.Flights.{same_class}
use Rattle.iiif_tables.specs.declared.table.Class.{Class}
use Rattle.iiif_tables.proofs.TableLaws.{class_is}
use Rattle.iiif_singleflight.specs.Seen.{with_at, each_of}

module _ {K X Y : Type 0} (eq : K → K → Bool) (class : Class) (k : K) where
  pub each-with : (f : X → Y) (x : Option X) (m : Class → K → Option X) →
      each_of f (with_at eq class k x m) ≡ with_at eq class k (option_map f x) (each_of f m)
  each-with f x m = fun_ext (λ c. fun_ext (λ q.
      elim (same_class class c) as (λ y. option_map f ((cond y (update eq (m c) k x) (m c)) q) ≡
      (cond y (update eq (each_of f m c) k (option_map f x)) (each_of f m c)) q) [
        | true ↦ elim (eq k q) as (λ z. option_map f (cond z x (m c q)) ≡ cond z (option_map f x) (option_map f (m c q)))
            [ true ↦ refl | false ↦ refl ]
        | false ↦ refl
      ]))

-- a value that stands at its place already
pub with-same : {K X : Type 0} (eq : K → K → Bool) (ident : (a b : K) → eq a b ≡ true → a ≡ b) (class : Class) (k : K) (x : Option X)
    (m : Class → K → Option X)
    → m class k ≡ x → with_at eq class k x m ≡ m
with-same eq ident class k x m h = fun_ext (λ c.
    fun_ext (λ q. (elim (same_class class c) as (λ y. same_class class c ≡ y → (cond y (update eq (m c) k x) (m c)) q ≡ m c q) [
      | true ↦ λ s. (elim (eq k q) as (λ z. eq k q ≡ z → cond z x (m c q) ≡ m c q) [
        | true ↦ λ t. sym h ∙ ap (λ d. m d k) (class_is class c s) ∙ ap (m c) (ident k q t)
        | false ↦ λ t. refl
      ]) refl
      | false ↦ λ s. refl
    ]) refl))
