-- Entering a table, and looking again under the same lock.
use Rattle.std.proofs.Common.{◌≡◌, ℕ, ◌+◌, Bool, true, false, Option, Some, None, IsSome, if◌then◌else◌, ap, refl, subst, sym}
use Rattle.iiif_tables.specs.Cache.{Kept, kept_for}
use Rattle.iiif_tables.specs.Flights.{Flight, Table, again, enter, has_ticket, led, looking, met}
use Rattle.iiif_tables.specs.declared.table.Class.{Class}

met_led : {V : Type 0} (kept : Option (Kept V)) (flight : Option Flight) (next n : ℕ) → met kept flight next ≡ led n → kept ≡ None
met_led None flight next n h = refl
met_led (Some e) flight next n h = cc

either : {A : Type 0} (b : Bool) (x : A) → (if b then x else x) ≡ x
either true x = refl
either false x = refl

module _ {K V : Type 0} (eq : K → K → Bool) (class : Class) (k : K) (t : Table K V) (n : ℕ) where
  -- Behind a call that leads, nothing is kept for its key.
  pub enter_led_kept : (enter eq class k t).0 ≡ led n → kept_for eq k (enter eq class k t).1.cache ≡ None
  unfolding enter
  enter_led_kept h = let e = met_led (kept_for eq k t.cache) (t.flights class k) (t.book.leads + 1) n h in rw h e

  -- Where nothing is kept, a look again finds nothing.
  pub again_none : kept_for eq k t.cache ≡ None → (again eq class k n t).0 ≡ None
  unfolding again
  again_none h = rw h (ap (λ (p : Option V × Table K V). p.0) (either (has_ticket n (t.flights class k)) (None, t)))

  -- The same of a key that is equal, in a table that is.
  pub led_keeps_nothing : (k' : K) (u : Table K V) → (enter eq class k t).0 ≡ led n → u ≡ (enter eq class k t).1 → k' ≡ k →
      kept_for eq k' u.cache ≡ None
  led_keeps_nothing k' u h same key =
      subst (λ (q : K). kept_for eq q u.cache ≡ None) (sym key)
      (subst (λ (v : Table K V). kept_for eq k v.cache ≡ None) (sym same) (enter_led_kept h))

  looked_nothing : (b : Bool) (o : Option (Kept V)) → (if b then looking eq class k n o t else (None, t)).0 ≡ None
      → (if b then looking eq class k n o t else (None, t)).1 ≡ t
  looked_nothing false o h = refl
  looked_nothing true None h = refl
  looked_nothing true (Some e) h = cc

  -- A look again that finds nothing changes nothing.
  pub again_nothing : (again eq class k n t).0 ≡ None → (again eq class k n t).1 ≡ t
  unfolding again
  again_nothing h = looked_nothing (has_ticket n (t.flights class k)) (kept_for eq k t.cache) h

-- A value that is found is something.
pub found_none : {A : Type 0} (x : A) (o : Option A) → Some x ≡ o → o ≡ None → ⊥
found_none x o e n = cc

pub none_is_some : {A : Type 0} (o : Option A) → o ≡ None → IsSome o → ⊥
none_is_some None h s = cc
none_is_some (Some x) h s = cc
