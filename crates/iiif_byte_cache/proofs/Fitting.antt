-- a fact that holds of each entry with its key stays true
use Rattle.std.proofs.Common.{◌≡◌, ℕ, zero, suc, ◌-◌, Bool, true, false, cond, List, [], ◌∷◌, length, take, Option, Some, None, IfSome}
use Rattle.std.proofs.Common.{refl, sym, ◌∙◌, subst, inl, inr}
use Rattle.std.proofs.lemmas.Bool.{cases_Bool}
use Rattle.std.specs.List.{All, AllByRecursion}
use Rattle.std.specs.Map.{lookup, lookup_entry, remove_entry, set_value}
use Rattle.std.specs.Option.{option_map_or}
use Rattle.std.proofs.lemmas.List.Elements.{All-from_recursion, recursion_from_All}
use Rattle.lru.specs.LruCache.{LruCache, put_entries, promoted}

module _ {K X : Type 0} (P : K × X → Type 0) where
  each-remove : (t : K → Bool) (es : List (K × X)) → AllByRecursion P es → AllByRecursion P (remove_entry t es)
  each-remove t [] a = a
  each-remove t (e ∷ es) a = (elim (t e.0) as (λ y. AllByRecursion P (cond y es (e ∷ remove_entry t es))) [
    | true ↦ a.1
    | false ↦ (a.0, each-remove t es a.1)
  ])

  each-take : (n : ℕ) (es : List (K × X)) → AllByRecursion P es → AllByRecursion P (take n es)
  each-take zero es a = tt
  each-take (suc n) [] a = tt
  each-take (suc n) (e ∷ es) a = (a.0, each-take n es a.1)

  each-found : (t : K → Bool) (es : List (K × X)) → AllByRecursion P es → IfSome (lookup_entry t es) P
  each-found t [] a = tt
  each-found t (e ∷ es) a = (elim (t e.0) as (λ y. IfSome (cond y (Some e) (lookup_entry t es)) P) [
    | true ↦ a.0
    | false ↦ each-found t es a.1
  ])

  front-of : (o : Option (K × X)) (es rest : List (K × X)) → IfSome o P → AllByRecursion P es → AllByRecursion P rest →
      AllByRecursion P (option_map_or (λ e. e ∷ rest) o es)
  front-of None es rest h a b = a
  front-of (Some e) es rest h a b = (h, b)

  each-set : (t : K → Bool) (es : List (K × X)) (v w : X) → lookup t es ≡ Some v → ((k : K) → P (k, v) → P (k, w)) → AllByRecursion P es →
      AllByRecursion P (set_value t es w)
  each-set t [] v w h to a = a
  each-set t (e ∷ es) v w h to a = (elim (t e.0) as
      (λ y. cond y (Some e.1) (lookup t es) ≡ Some v → AllByRecursion P (cond y ((e.0, w) ∷ es) (e ∷ set_value t es w))) [
        | true ↦ λ h. let is : e.1 ≡ v = cc in let Q : X → Type 0 = λ x. P (e.0, x) in (to e.0 (subst Q is a.0), a.1)
        | false ↦ λ h. (a.0, each-set t es v w h to a.1)
      ]) h

  put-of : (o : Option (K × X)) (k : K) (v : X) (rest less : List (K × X)) → IfSome o (λ e. k ≡ e.0) → P (k, v) → AllByRecursion P rest →
      AllByRecursion P less
      → AllByRecursion P (option_map_or (λ e. (e.0, v) ∷ rest) o ((k, v) ∷ less))
  put-of None k v rest less h p a b = (p, b)
  put-of (Some e) k v rest less h p a b = let Q : K → Type 0 = λ x. P (x, v) in (subst Q h p, a)

  same-found : (eq : K → K → Bool) → ((a b : K) → eq a b ≡ true → a ≡ b) → (k : K) (es : List (K × X)) →
      IfSome (lookup_entry (eq k) es) (λ e. k ≡ e.0)
  same-found eq ident k [] = tt
  same-found eq ident k (e ∷ es) = elim (cases_Bool (eq k e.0)) [
    | inl t ↦ rw t (ident k e.0 t)
    | inr f ↦ rw f (same-found eq ident k es)
  ]

  lookup-of : (eq : K → K → Bool) → ((a b : K) → eq a b ≡ true → a ≡ b) → (k : K) (es : List (K × X)) (v : X) → lookup (eq k) es ≡ Some v →
      AllByRecursion P es → P (k, v)
  lookup-of eq ident k [] v h a = cc
  lookup-of eq ident k (e ∷ es) v h a = elim (cases_Bool (eq k e.0)) [
    | inl t ↦
        let g : Some e.1 ≡ Some v = (let r : lookup (eq k) (e ∷ es) ≡ Some e.1 = rw t refl in sym r ∙ h) in
        let is : e.1 ≡ v = cc in
        let Q : K → Type 0 = λ x. P (x, v) in
        let R : X → Type 0 = λ x. P (e.0, x) in
        subst Q (sym (ident k e.0 t)) (subst R is a.0)
    | inr f ↦
        let r : lookup (eq k) (e ∷ es) ≡ lookup (eq k) es = rw f refl in
        lookup-of eq ident k es v (sym r ∙ h) a.1
  ]

  pub all-less : (es : List (K × X)) → All P es → All P (take (length es - 1) es)
  all-less es a = All-from_recursion P _ (each-take (length es - 1) es (recursion_from_All P es a))

  pub all-promoted : (t : K → Bool) (es : List (K × X)) → All P es → All P (promoted t es)
  all-promoted t es a = let r = recursion_from_All P es a in
      All-from_recursion P _ (front-of (lookup_entry t es) es (remove_entry t es) (each-found t es r) r (each-remove t es r))

  pub all-set : (t : K → Bool) (es : List (K × X)) (v w : X) → lookup t es ≡ Some v → ((k : K) → P (k, v) → P (k, w)) → All P es →
      All P (set_value t es w)
  all-set t es v w h to a = All-from_recursion P _ (each-set t es v w h to (recursion_from_All P es a))

  pub all-put : (eq : K → K → Bool) → ((a b : K) → eq a b ≡ true → a ≡ b) → (c : LruCache K X) (k : K) (v : X) → P (k, v) →
      All P c.entries → All P (put_entries eq c k v)
  all-put eq ident c k v p a =
      let r = recursion_from_All P c.entries a in
      All-from_recursion P _ (put-of (lookup_entry (eq k) c.entries) k v (remove_entry (eq k) c.entries) (take (c.cap - 1) c.entries)
      (same-found eq ident k c.entries) p (each-remove (eq k) c.entries r) (each-take (c.cap - 1) c.entries r))

  pub all-lookup : (eq : K → K → Bool) → ((a b : K) → eq a b ≡ true → a ≡ b) → (k : K) (es : List (K × X)) (v : X) →
      lookup (eq k) es ≡ Some v → All P es → P (k, v)
  all-lookup eq ident k es v h a = lookup-of eq ident k es v h (recursion_from_All P es a)
