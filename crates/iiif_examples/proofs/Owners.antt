-- A name of two owns a key where one of its points comes first of all, which is tested point by point.
use Rattle.std.proofs.Common.{◌≡◌, ℕ, ◌<◌, ◌⊎◌, Bool, true, false, List, [], ◌∷◌, inl, inr, ⊎_elim, refl, subst, arith}
use Rattle.std.specs.Prelude.{◌&&◌, ◌||◌, ◌==◌, not, nat_lt, Contains}
use Rattle.std.specs.Ordering.{is_gt, nat_cmp}
use Rattle.std.specs.Cmp.Lexicographic.{slice_cmp}
use Rattle.std.proofs.lemmas.Bool.{and_parts, eqb-true, ltb-false, ltb-true}
use Rattle.std.proofs.lemmas.List.Elements.{Contains-get_or, Contains-push_cases, at_from_Contains}
use Prim.Native.Nat.{zero, suc}
use Rattle.iiif_ring.specs.Owner.{ComesFirst, IsOwner, distance_from, replicas}

-- nearer; or as near, and the name no larger
first_of : ℕ → ℕ → Bool → Bool
first_of near far up_to = nat_lt near far || (near == far && up_to)

-- the name is no larger than another
up_to : List ℕ → List ℕ → Bool
up_to name other = not (is_gt (slice_cmp nat_cmp name other))

-- a replica comes first of n of a name
unfoldable pub is_first : List ℕ → List ℕ → ℕ → List ℕ → ℕ → Bool
unfolding first_of up_to
is_first key name replica other zero = true
is_first key name replica other (suc n) =
    is_first key name replica other n
    && first_of (distance_from key name replica) (distance_from key other n) (up_to name other)

not_true : (b : Bool) → not b ≡ true → b ≡ false
not_true false h = refl
not_true true h = absurd cc

either : (a b : Bool) → (a || b) ≡ true → (a ≡ true) ⊎ (b ≡ true)
either true b h = inl refl
either false b h = inr h

comes : (key name : List ℕ) (replica : ℕ) (other : List ℕ) (n : ℕ) →
    first_of (distance_from key name replica) (distance_from key other n) (up_to name other) ≡ true → ComesFirst key name replica other n
unfolding first_of up_to
comes key name replica other n h = ⊎_elim
    (λ near. inl (ltb-true _ _ near))
    (λ same.
    let p = and_parts (distance_from key name replica == distance_from key other n) (up_to name other) same in
    inr (eqb-true _ _ p.0, not_true _ p.1))
    (either (nat_lt (distance_from key name replica) (distance_from key other n)) _ h)

all_come : (key name : List ℕ) (replica : ℕ) (other : List ℕ) (n : ℕ) → is_first key name replica other n ≡ true → (r : ℕ) → r < n →
    ComesFirst key name replica other r
unfolding is_first
all_come key name replica other zero h r below = absurd (omega arith)
all_come key name replica other (suc n) h r below =
    let p = and_parts (is_first key name replica other n) _ h in
    elim (nat_lt r n) as (λ b. nat_lt r n ≡ b → ComesFirst key name replica other r) [
      | true ↦ λ e. all_come key name replica other n p.0 r (ltb-true r n e)
      | false ↦ λ e.
          let here : n ≡ r = omega (arith, ltb-false r n e) in
          subst (ComesFirst key name replica other) here (comes key name replica other n p.1)
    ] refl

-- of two names, of which one is the owner's
pub owns : (a b key name : List ℕ) (replica : ℕ) → Contains (a ∷ b ∷ []) name → replica < replicas
    → is_first key name replica a replicas ≡ true → is_first key name replica b replicas ≡ true → IsOwner (a ∷ b ∷ []) key name
owns a b key name replica named few of_a of_b = record {
  named = named;
  replica = replica;
  numbered = few;
  first = λ other r has below. ⊎_elim
      (λ alone. ⊎_elim
      (λ none. absurd (omega (arith, (at_from_Contains [] other none).1)))
      (λ is_a. subst (λ (o : List ℕ). ComesFirst key name replica o r) is_a (all_come key name replica a replicas of_a r below))
      (Contains-push_cases [] a other alone))
      (λ is_b. subst (λ (o : List ℕ). ComesFirst key name replica o r) is_b (all_come key name replica b replicas of_b r below))
      (Contains-push_cases (a ∷ []) b other has);
}

pub is_second_name : (a b : List ℕ) → Contains (a ∷ b ∷ []) b
is_second_name a b = Contains-get_or (a ∷ b ∷ []) 1 [] (omega arith)
