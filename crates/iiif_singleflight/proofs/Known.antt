-- Outcomes that are known, and their keys.
use Rattle.std.proofs.Common.{◌≡◌, Bool, true, Option, Some, None, Result, Ok, Err, IfSome, refl, sym, ap, subst}
use Rattle.std.specs.Result.{ForOk}
use Rattle.std.specs.declared.sync.Arc.{Arc}
use Rattle.iiif_outcome.specs.Outcomes.{value_of}
use Rattle.std.specs.Option.{ForSome, is_some}
use Rattle.std.specs.Arc.{arc_value}
use Rattle.iiif_outcome.specs.declared.landed.Landed.{Landed}
use Rattle.iiif_outcome.specs.Views.{is_known_for}

module _ {K J V : Type 0} {a b c d : _} (eq : K → K → Bool) where
  pub known_key : ((x y : K) → eq x y ≡ true → x ≡ y) → (k : K) (o : Option (Landed K J V a b c d)) → is_known_for eq k o ≡ true →
      IfSome o (λ x. arc_value x.key ≡ k)
  known_key ident k None h = tt
  known_key ident k (Some x) h = sym (ident k (arc_value x.key) h)

  pub knows_key : ((x : K) → eq x x ≡ true) → (k : K) (o : Option (Landed K J V a b c d)) → is_some o ≡ true →
      ForSome o (λ x. arc_value x.key ≡ k) → is_known_for eq k o ≡ true
  knows_key re k None s h = cc
  knows_key re k (Some x) s h = let e : arc_value x.key ≡ k = h x refl in rw e (re k)

-- the value of an outcome is equal to anything that each value of it is
pub value_meant : {V A E : Type 0} (o : Result (Arc V A) E) (w m : V) → ForOk o (λ v. arc_value v ≡ m) → value_of o ≡ Some w →
    value_of o ≡ Some m
value_meant (Ok v) w m h e = ap Some (h v refl)
value_meant (Err x) w m h e = cc

-- a fact of each value of an outcome is one of its value
pub value_has : {V A E : Type 0} (o : Result (Arc V A) E) (w : V) (P : V → Type 0) → ForOk o (λ v. P (arc_value v)) → value_of o ≡ Some w →
    P w
value_has (Ok v) w P h e = let is : arc_value v ≡ w = cc in subst P is (h v refl)
value_has (Err x) w P h e = cc
