-- Which list a put goes to.
use Rattle.std.proofs.Common.{◌≡◌, Bool, true, false, not, ◌&&◌, ◌||◌, Option, Some, None, refl, sym, ap, ◌∙◌, is_some, option_map}
use Rattle.std.specs.Option.{IfNone, option_or}
use Rattle.std.specs.Prelude.{if◌then◌else◌}
use Rattle.std.specs.Map.{lookup}
use Rattle.iiif_tables.specs.Cache.{Kept, Cache, added, replaced, added_to, placed}
use Rattle.iiif_byte_cache.specs.Rows.{pushed}
use Rattle.iiif_byte_cache.specs.View.{side}

module _ {K V : Type 0} (eq : K → K → Bool) (k : K) (e : Kept V) (c : Cache K V) where
  by_cases : (a b h : Bool) → (if a then record c { main = replaced eq k e c.main } else if b then record c { hot = replaced eq k e c.hot }
      else added_to eq k (side h) e c)
      ≡ (if not a && (h || b)
      then record c { hot = if b then replaced eq k e c.hot else added c.room (k, e) c.hot }
      else record c { main = if a then replaced eq k e c.main else added c.room (k, e) c.main })
  by_cases true b h = refl
  by_cases false true true = refl
  by_cases false true false = refl
  by_cases false false true = refl
  by_cases false false false = refl

  -- a put goes to hot where main hasn't the key and it is for hot, or hot has the key
  pub goes : (h : Bool) → placed eq k (side h) e c
      ≡ (if not (is_some (lookup (eq k) c.main)) && (h || is_some (lookup (eq k) c.hot))
      then record c { hot = pushed eq c.room k e c.hot }
      else record c { main = pushed eq c.room k e c.main })
  unfolding placed pushed
  goes h = by_cases (is_some (lookup (eq k) c.main)) (is_some (lookup (eq k) c.hot)) h

  pub goes_to_hot : (h : Bool) → (not (is_some (lookup (eq k) c.main)) && (h || is_some (lookup (eq k) c.hot))) ≡ true →
      placed eq k (side h) e c ≡ record c { hot = pushed eq c.room k e c.hot }
  goes_to_hot h is = goes h ∙ rw is refl

  pub goes_to_main : (h : Bool) → (not (is_some (lookup (eq k) c.main)) && (h || is_some (lookup (eq k) c.hot))) ≡ false →
      placed eq k (side h) e c ≡ record c { main = pushed eq c.room k e c.main }
  goes_to_main h is = goes h ∙ rw is refl

-- a test that would make something false true is false
pub not_there : (b : Bool) → (b ≡ true → false ≡ true) → b ≡ false
not_there true h = sym (h refl)
not_there false h = refl

-- the same test, by what its parts are
pub test_is : (a b c d h r : Bool) → a ≡ b → c ≡ d → (not a && (h || c)) ≡ r → (not b && (h || d)) ≡ r
test_is a b c d h r p q is = cc

-- an entry that goes to hot isn't in main
pub main_absent : (a b h c : Bool) → a ≡ b → (not a && (h || c)) ≡ true → b ≡ false
main_absent true b h c p t = cc
main_absent false b h c p t = sym p

-- an entry that goes to main, and isn't there, isn't in hot
pub hot_absent : (a b c d h : Bool) → a ≡ b → c ≡ d → (not a && (h || c)) ≡ false → b ≡ false → d ≡ false
hot_absent true b c d h p q t n = cc
hot_absent false b c d true p q t n = cc
hot_absent false b c d false p q t n = sym q ∙ t

pub neither_there : {X : Type 0} (o p : Option X) → is_some o ≡ false → is_some p ≡ false → is_some (option_or o p) ≡ false
neither_there None p h i = i
neither_there (Some x) p h i = h

pub if_none : {X : Type 0} {P : Type 0} (o : Option X) → (o ≡ None → P) → IfNone o P
if_none None h = h refl
if_none (Some x) h = tt

pub none_of : {X Y : Type 0} (f : X → Y) (o : Option X) → o ≡ None → option_map f o ≡ None
none_of f o h = ap (option_map f) h
