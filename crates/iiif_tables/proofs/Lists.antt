-- Sums over lists of entries, and what holds of each entry, where an entry goes, comes or moves to the front.
use Rattle.std.proofs.Common.{◌≡◌, ℕ, zero, suc, ◌+◌, ◌≤◌, Bool, true, false, cond, List, [], ◌∷◌, take, Option, Some, None, refl, sym, ap}
use Rattle.std.proofs.Common.{◌∙◌, subst, arith, is_some}
use Rattle.std.specs.Prelude.{sum_by}
use Rattle.std.specs.List.{AllByRecursion}
use Rattle.std.specs.Map.{lookup, lookup_entry, remove_entry}
use Rattle.std.specs.Option.{option_map_or}
use Rattle.std.proofs.lemmas.List.Sums.{sum_by-cons}

module _ {K Y : Type 0} (w : K × Y → ℕ) (test : K → Bool) where
  -- an entry beside the others
  pub sum_removed : (es : List (K × Y)) (e : K × Y) → lookup_entry test es ≡ Some e → sum_by w (remove_entry test es) + w e ≡ sum_by w es
  sum_removed [] e h = cc
  sum_removed (f ∷ es) e h = (elim (test f.0) as
      (λ y. cond y (Some f) (lookup_entry test es) ≡ Some e → sum_by w (cond y es (f ∷ remove_entry test es)) + w e ≡ sum_by w (f ∷ es)) [
        | true ↦ λ h. let is : f ≡ e = cc in let same : w f ≡ w e = ap w is in omega (arith, same, sum_by-cons w f es)
        | false ↦ λ h. omega (arith, sum_removed es e h, sum_by-cons w f es, sum_by-cons w f (remove_entry test es))
      ]) h

  -- an entry that goes adds nothing
  pub sum_removed-le : (es : List (K × Y)) → sum_by w (remove_entry test es) ≤ sum_by w es
  sum_removed-le [] = omega arith
  sum_removed-le (e ∷ es) = elim (test e.0) as (λ y. sum_by w (cond y es (e ∷ remove_entry test es)) ≤ sum_by w (e ∷ es)) [
    | true ↦ omega (arith, sum_by-cons w e es)
    | false ↦ omega (arith, sum_removed-le es, sum_by-cons w e es, sum_by-cons w e (remove_entry test es))
  ]

  fronted : (es : List (K × Y)) (o : Option (K × Y)) → lookup_entry test es ≡ o →
      sum_by w (option_map_or (λ e. e ∷ remove_entry test es) o es) ≡ sum_by w es
  fronted es None h = refl
  fronted es (Some e) h = omega (arith, sum_removed es e h, sum_by-cons w e (remove_entry test es))

  -- an entry that goes to the front changes no sum
  pub sum_fronted : (es : List (K × Y)) → sum_by w (option_map_or (λ e. e ∷ remove_entry test es) (lookup_entry test es) es) ≡ sum_by w es
  sum_fronted es = fronted es (lookup_entry test es) refl

module _ {K Y : Type 0} (test : K → Bool) where
  -- the entry that a look-up finds passes the test
  pub found_passes : (es : List (K × Y)) (e : K × Y) → lookup_entry test es ≡ Some e → test e.0 ≡ true
  found_passes [] e h = cc
  found_passes (f ∷ es) e h = (elim (test f.0) as (λ y. test f.0 ≡ y → cond y (Some f) (lookup_entry test es) ≡ Some e → test e.0 ≡ true) [
    | true ↦ λ t h. let is : f ≡ e = cc in sym (ap (λ g. test g.0) is) ∙ t
    | false ↦ λ t h. found_passes es e h
  ]) refl h

  -- a value that is found by its key is that of the entry that is
  pub lookup-entry : (es : List (K × Y)) → is_some (lookup test es) ≡ is_some (lookup_entry test es)
  lookup-entry [] = refl
  lookup-entry (e ∷ es) = elim (test e.0) as (λ y.
      is_some (cond y (Some e.1) (lookup test es)) ≡ is_some (cond y (Some e) (lookup_entry test es))) [
        | true ↦ refl
        | false ↦ lookup-entry es
      ]

  -- no entry passes where none is found
  pub none_passes : (w : K × Y → ℕ) → ((e : K × Y) → test e.0 ≡ false → w e ≡ 0) → (es : List (K × Y)) → is_some (lookup test es) ≡ false →
      sum_by w es ≡ 0
  none_passes w zero_at [] h = refl
  none_passes w zero_at (e ∷ es) h = (elim (test e.0) as
      (λ y. test e.0 ≡ y → is_some (cond y (Some e.1) (lookup test es)) ≡ false → sum_by w (e ∷ es) ≡ 0) [
        | true ↦ λ t h. cc
        | false ↦ λ t h. omega (arith, zero_at e t, none_passes w zero_at es h, sum_by-cons w e es)
      ]) refl h

module _ {X : Type 0} (P : X → Type 0) where
  pub each_taken : (n : ℕ) (xs : List X) → AllByRecursion P xs → AllByRecursion P (take n xs)
  each_taken zero xs h = tt
  each_taken (suc n) [] h = tt
  each_taken (suc n) (x ∷ xs) h = (h.0, each_taken n xs h.1)

module _ {K Y : Type 0} (P : K × Y → Type 0) (test : K → Bool) where
  pub each_removed : (es : List (K × Y)) → AllByRecursion P es → AllByRecursion P (remove_entry test es)
  each_removed [] h = tt
  each_removed (e ∷ es) h = elim (test e.0) as (λ y. AllByRecursion P (cond y es (e ∷ remove_entry test es))) [
    | true ↦ h.1
    | false ↦ (h.0, each_removed es h.1)
  ]

  pub each_found : (es : List (K × Y)) → AllByRecursion P es → (e : K × Y) → lookup_entry test es ≡ Some e → P e
  each_found [] h e at = cc
  each_found (f ∷ es) h e at = (elim (test f.0) as (λ y. cond y (Some f) (lookup_entry test es) ≡ Some e → P e) [
    | true ↦ λ at. let is : f ≡ e = cc in subst P is h.0
    | false ↦ λ at. each_found es h.1 e at
  ]) at

  fronting : (es : List (K × Y)) → AllByRecursion P es → (o : Option (K × Y)) → lookup_entry test es ≡ o →
      AllByRecursion P (option_map_or (λ e. e ∷ remove_entry test es) o es)
  fronting es h None at = h
  fronting es h (Some e) at = (each_found es h e at, each_removed es h)

  pub each_fronted : (es : List (K × Y)) → AllByRecursion P es →
      AllByRecursion P (option_map_or (λ e. e ∷ remove_entry test es) (lookup_entry test es) es)
  each_fronted es h = fronting es h (lookup_entry test es) refl

  -- a look-up finds the value of an entry, with a key that passes
  pub each_lookup : (es : List (K × Y)) → AllByRecursion P es → (y : Y) → lookup test es ≡ Some y → (k : K) × (test k ≡ true) × P (k, y)
  each_lookup [] h y at = cc
  each_lookup (f ∷ es) h y at = (elim (test f.0) as
      (λ b. test f.0 ≡ b → cond b (Some f.1) (lookup test es) ≡ Some y → (k : K) × (test k ≡ true) × P (k, y)) [
        | true ↦ λ t at. let is : f.1 ≡ y = cc in (f.0, t, subst (λ z. P (f.0, z)) is h.0)
        | false ↦ λ t at. each_lookup es h.1 y at
      ]) refl at
