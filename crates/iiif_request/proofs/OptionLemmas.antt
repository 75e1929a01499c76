-- Options that hold a value.
use Rattle.std.proofs.Common.{◌≡◌, Bool, true, false, cond, refl, Some, None, Option, ◌⊎◌, inl, inr}
use Rattle.std.specs.Prelude.{option_map}
use Rattle.std.proofs.lemmas.Option.{same_Some, none-some}

-- A mapped option that is some was some.
pub option_map_some : {A B : Type 0} (f : A → B) (o : Option A) (y : B) → option_map f o ≡ Some y → (x : A) × (o ≡ Some x) × (f x ≡ y)
option_map_some f None y e = absurd (none-some y e)
option_map_some f (Some x) y e = (x, refl, same_Some (f x) y e)

-- A choice that is some is some on the side that was taken.
pub cond_some_cases : {A : Type 0} (b : Bool) (x y : Option A) (r : A) → cond b x y ≡ Some r → ((b ≡ true) × (x ≡ Some r)) ⊎
    ((b ≡ false) × (y ≡ Some r))
cond_some_cases true x y r e = inl (refl, e)
cond_some_cases false x y r e = inr (refl, e)
