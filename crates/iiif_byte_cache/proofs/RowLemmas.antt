-- a list of entries whose values are turned into others
use Rattle.std.proofs.Common.{◌≡◌, Bool, true, false, cond, List, [], ◌∷◌, map, option_map, is_some, Option, Some, None, refl, sym, ap, ◌∙◌}
use Rattle.std.specs.Map.{lookup, lookup_entry, remove_entry, set_value}
use Rattle.std.specs.Option.{option_map_or, option_or, option_copied}
use Rattle.std.proofs.Common.{Bor}
use Rattle.lru.specs.LruCache.{promoted}
use Rattle.lru.proofs.CallerLemmas.{Contains-lookup_entry}

module _ {K X Y : Type 0} (f : X → Y) (test : K → Bool) where
  abbrev pub turned : List (K × X) → List (K × Y)
  turned es = map (λ e. (e.0, f e.1)) es

  pub remove_entry-turned : (es : List (K × X)) → remove_entry test (turned es) ≡ turned (remove_entry test es)
  remove_entry-turned [] = refl
  remove_entry-turned (e ∷ es) = elim (test e.0) as
      (λ y. cond y (turned es) ((e.0, f e.1) ∷ remove_entry test (turned es)) ≡ turned (cond y es (e ∷ remove_entry test es))) [
        | true ↦ refl
        | false ↦ ap (λ l. (e.0, f e.1) ∷ l) (remove_entry-turned es)
      ]

  pub lookup_entry-turned : (es : List (K × X)) → lookup_entry test (turned es) ≡ option_map (λ e. (e.0, f e.1)) (lookup_entry test es)
  lookup_entry-turned [] = refl
  lookup_entry-turned (e ∷ es) = elim (test e.0) as
      (λ y. cond y (Some (e.0, f e.1)) (lookup_entry test (turned es)) ≡ option_map (λ e. (e.0, f e.1))
      (cond y (Some e) (lookup_entry test es))) [
        | true ↦ refl
        | false ↦ lookup_entry-turned es
      ]

  abbrev to_front : List (K × X) → Option (K × X) → List (K × X)
  to_front es o = option_map_or (λ e. e ∷ remove_entry test es) o es

  front : (es : List (K × X)) (o : Option (K × X)) →
      option_map_or (λ e. e ∷ remove_entry test (turned es)) (option_map (λ e. (e.0, f e.1)) o) (turned es) ≡ turned (to_front es o)
  front es None = refl
  front es (Some e) = ap (λ l. (e.0, f e.1) ∷ l) (remove_entry-turned es)

  pub promoted-turned : (es : List (K × X)) → promoted test (turned es) ≡ turned (promoted test es)
  promoted-turned es = rw (lookup_entry-turned es) (front es (lookup_entry test es))

  -- a value that turns into the same one changes nothing
  pub set_value-turned : (es : List (K × X)) (v w : X) → lookup test es ≡ Some v → f v ≡ f w → turned (set_value test es w) ≡ turned es
  set_value-turned [] v w h same = refl
  set_value-turned (e ∷ es) v w h same = (elim (test e.0) as
      (λ y. cond y (Some e.1) (lookup test es) ≡ Some v → turned (cond y ((e.0, w) ∷ es) (e ∷ set_value test es w)) ≡ turned (e ∷ es)) [
        | true ↦ λ h. let is : e.1 ≡ v = cc in let to : f w ≡ f e.1 = cc in ap (λ x. (e.0, x) ∷ turned es) to
        | false ↦ λ h. ap (λ l. (e.0, f e.1) ∷ l) (set_value-turned es v w h same)
      ]) h

module _ {K X : Type 0} (test : K → Bool) where
  pub lookup-entry : (es : List (K × X)) → option_map (λ e. e.1) (lookup_entry test es) ≡ lookup test es
  lookup-entry [] = refl
  lookup-entry (e ∷ es) = elim (test e.0) as (λ y.
      option_map (λ f. f.1) (cond y (Some e) (lookup_entry test es)) ≡ cond y (Some e.1) (lookup test es)) [
        | true ↦ refl
        | false ↦ lookup-entry es
      ]

  at_front : (es : List (K × X)) (o : Option (K × X)) → lookup_entry test es ≡ o →
      lookup test (option_map_or (λ e. e ∷ remove_entry test es) o es) ≡ option_map (λ e. e.1) o
  at_front es None h = sym (lookup-entry es) ∙ ap (option_map (λ e. e.1)) h
  at_front es (Some e) h = rw (Contains-lookup_entry test es e h).1 refl

  pub lookup-promoted : (es : List (K × X)) → lookup test (promoted test es) ≡ lookup test es
  lookup-promoted es = at_front es (lookup_entry test es) refl ∙ lookup-entry es

  missed : (es : List (K × X)) (o : Option (K × X)) → option_map (λ e. e.1) o ≡ None →
      option_map_or (λ e. e ∷ remove_entry test es) o es ≡ es
  missed es None h = refl
  missed es (Some e) h = cc

  none_there : (o : Option X) → is_some o ≡ false → o ≡ None
  none_there None h = refl
  none_there (Some x) h = cc

  -- where the key isn't there, nothing goes to the front
  pub promoted-absent : (es : List (K × X)) → is_some (lookup test es) ≡ false → promoted test es ≡ es
  promoted-absent es h = missed es (lookup_entry test es) (lookup-entry es ∙ none_there (lookup test es) h)

  pub promoted-missed : (es : List (K × X)) → lookup test es ≡ None → promoted test es ≡ es
  promoted-missed es h = missed es (lookup_entry test es) (lookup-entry es ∙ h)

module _ {K X Y : Type 0} (f : X → Y) (test : K → Bool) where
  pub lookup-turned : (es : List (K × X)) → lookup test (map (λ e. (e.0, f e.1)) es) ≡ option_map f (lookup test es)
  lookup-turned [] = refl
  lookup-turned (e ∷ es) = elim (test e.0) as (λ y.
      cond y (Some (f e.1)) (lookup test (map (λ e. (e.0, f e.1)) es)) ≡ option_map f (cond y (Some e.1) (lookup test es))) [
        | true ↦ refl
        | false ↦ lookup-turned es
      ]

  same_is_some : (o : Option X) → is_some (option_map f o) ≡ is_some o
  same_is_some None = refl
  same_is_some (Some x) = refl

  pub is_some-turned : (es : List (K × X)) → is_some (lookup test (map (λ e. (e.0, f e.1)) es)) ≡ is_some (lookup test es)
  is_some-turned es = ap is_some (lookup-turned es) ∙ same_is_some (lookup test es)

-- the part of an entry that is lent
pub lent : {X Y : Type 0} (f : X → Y) (o : Option (Bor X)) → option_map (λ s. f s.now) o ≡ option_map f (option_copied o)
lent f None = refl
lent f (Some x) = refl

pub first_of_two : {X : Type 0} (o p : Option X) → is_some o ≡ true → o ≡ option_or o p
first_of_two None p h = cc
first_of_two (Some x) p h = refl

pub second_of_two : {X : Type 0} (o p : Option X) → is_some o ≡ false → p ≡ option_or o p
second_of_two None p h = refl
second_of_two (Some x) p h = cc

-- a list of entries has the keys of its rows
pub keys-turned : {K X Y : Type 0} (f : X → Y) (es : List (K × X)) →
    map (λ (r : K × Y). r.0) (map (λ e. (e.0, f e.1)) es) ≡ map (λ e. e.0) es
keys-turned f [] = refl
keys-turned f (e ∷ es) = ap (λ l. e.0 ∷ l) (keys-turned f es)
