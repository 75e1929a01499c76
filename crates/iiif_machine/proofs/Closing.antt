-- The open flights of a table, after one of them is closed.
use Rattle.std.proofs.Common.{◌≡◌, ℕ, zero, suc, ◌<◌, Bool, true, false, cond, List, [], ◌∷◌, length, Option, Some, None, refl, sym, ap}
use Rattle.std.proofs.Common.{subst, ◌∙◌, get_or, is_some, arith}
use Rattle.std.specs.Prelude.{position, not, ◌&&◌, if◌then◌else◌}
use Rattle.std.specs.List.{remove}
use Rattle.std.proofs.lemmas.Option.{none-some}
use Rattle.std.proofs.lemmas.List.Quantifiers.{position-Some}
use Rattle.std.proofs.lemmas.Bool.{and_parts}
use mathlib.Core.Path.{fun_ext}
use Rattle.iiif_tables.specs.Flights as tables
use Rattle.iiif_tables.specs.declared.table.Class.{Class}
use Rattle.iiif_tables.specs.declared.table.Class.TheVariants.{Wide, Local}
use Rattle.iiif_machine.specs.declared.keys.Key.{Key}
use Rattle.iiif_machine.specs.Keys.{key_eq}
use Rattle.iiif_machine.proofs.KeyParts.{same_key}
use Rattle.iiif_machine.proofs.KeyParts.{key_same}
use Rattle.iiif_machine.specs.declared.table.OpenFlight.{OpenFlight}
use Rattle.iiif_machine.specs.Open.{is_named, seen, flight_in, are_once}
use Rattle.iiif_machine.proofs.Opening.{is_none}

pub same_one : (a b : Class) → tables.same_class a b ≡ true → a ≡ b
same_one Wide Wide h = refl
same_one Local Local h = refl
same_one Wide Local h = absurd cc
same_one Local Wide h = absurd cc

-- a flight that is named so has this class and key
named : (c : Class) (k : Key) (f : OpenFlight) → is_named c k f ≡ true → (f.class ≡ c) × (f.key ≡ k)
named c k f h = let p = and_parts (tables.same_class f.class c) (key_eq f.key k) h in (same_one f.class c p.0, same_key f.key k p.1)

none_under : (g : OpenFlight) (fs : List OpenFlight) (c : Class) (k : Key) → are_once (g ∷ fs) ≡ true → is_named c k g ≡ true →
    flight_in fs c k ≡ None
none_under g fs c k once pass =
    let p = and_parts (not (is_some (flight_in fs g.class g.key))) (are_once fs) once in
    let n = named c k g pass in
    subst (λ x. flight_in fs x k ≡ None) n.0 (subst (λ x. flight_in fs g.class x ≡ None) n.1 (is_none (flight_in fs g.class g.key) p.0))

under : (g : OpenFlight) (fs : List OpenFlight) → are_once (g ∷ fs) ≡ true → are_once fs ≡ true
under g fs once = (and_parts (not (is_some (flight_in fs g.class g.key))) (are_once fs) once).1

-- the first flight of a class and a key stands at this place
pub record First (c : Class) (k : Key) (fs : List OpenFlight) (i : ℕ) : Type 0 where
  pub within : i < length fs
  pub pass : (d : OpenFlight) → is_named c k (get_or fs i d) ≡ true
  pub before : (d : OpenFlight) (j : ℕ) → j < i → is_named c k (get_or fs j d) ≡ false

pub first_under : (c : Class) (k : Key) (g : OpenFlight) (fs : List OpenFlight) (i : ℕ) → First c k (g ∷ fs) (suc i) → First c k fs i
first_under c k g fs i p = record {
  within = omega (arith, p.within);
  pass = p.pass;
  before = λ d j less.
      p.before d (suc j) (omega (arith, less));
}

pub first_is : (c : Class) (k : Key) (fs : List OpenFlight) (i : ℕ) → position (is_named c k) fs ≡ Some i → First c k fs i
first_is c k [] i h = absurd (none-some i h)
first_is c k (g ∷ fs) i h = record {
  within = (position-Some (is_named c k) (g ∷ fs) i g h).0;
  pass = λ d. (position-Some (is_named c k) (g ∷ fs) i d h).1;
  before = λ d. (position-Some (is_named c k) (g ∷ fs) i d h).2;
}

none_left : (c : Class) (k : Key) (fs : List OpenFlight) (i : ℕ) → First c k fs i → are_once fs ≡ true → flight_in (remove fs i) c k ≡ None
none_left c k [] i p once = absurd (omega (arith, p.within))
none_left c k (g ∷ fs) zero p once = none_under g fs c k once (p.pass g)
none_left c k (g ∷ fs) (suc i) p once =
    ap (λ b. if b then Some (seen g) else flight_in (remove fs i) c k) (p.before g zero (omega arith))
    ∙ none_left c k fs i (first_under c k g fs i p) (under g fs once)

abbrev pub Apart : Class → Key → Class → Key → Type 0
Apart c k d q = (tables.same_class c d && key_eq k q) ≡ false

class_same : (c : Class) → tables.same_class c c ≡ true
class_same Wide = refl
class_same Local = refl

pub not_both : (c d : Class) (k q : Key) (g : OpenFlight) → Apart c k d q → is_named c k g ≡ true → (b : Bool) → is_named d q g ≡ b →
    b ≡ false
not_both c d k q g apart pass false h = refl
not_both c d k q g apart pass true h =
    let m = named c k g pass in
    let n = named d q g h in
    let cd : c ≡ d = sym m.0 ∙ n.0 in
    let kq : k ≡ q = sym m.1 ∙ n.1 in
    sym (subst (λ x. (tables.same_class c x && key_eq k q) ≡ true) cd
    (subst (λ x. (tables.same_class c c && key_eq k x) ≡ true) kq (ap (λ b. b && key_eq k k) (class_same c) ∙ key_same k))) ∙ apart

others_stay : (c d : Class) (k q : Key) (fs : List OpenFlight) (i : ℕ) → First c k fs i → Apart c k d q →
    flight_in (remove fs i) d q ≡ flight_in fs d q
others_stay c d k q [] i p apart = absurd (omega (arith, p.within))
others_stay c d k q (g ∷ fs) zero p apart = sym
    (ap (λ b. if b then Some (seen g) else flight_in fs d q) (not_both c d k q g apart (p.pass g) (is_named d q g) refl))
others_stay c d k q (g ∷ fs) (suc i) p apart =
    ap (λ x. if is_named d q g then Some (seen g) else x) (others_stay c d k q fs i (first_under c k g fs i p) apart)

choose : (c d : Class) (k q : Key) (fs : List OpenFlight) →
    cond (tables.same_class c d && key_eq k q) None (flight_in fs d q) ≡ tables.with_flight key_eq c k None (flight_in fs) d q
choose Wide Wide k q fs = refl
choose Local Local k q fs = refl
choose Wide Local k q fs = refl
choose Local Wide k q fs = refl

at_each : (c d : Class) (k q : Key) (fs : List OpenFlight) (i : ℕ) → First c k fs i → are_once fs ≡ true → (b : Bool) →
    (tables.same_class c d && key_eq k q) ≡ b →
    flight_in (remove fs i) d q ≡ cond b None (flight_in fs d q)
at_each c d k q fs i p once false e = others_stay c d k q fs i p e
at_each c d k q fs i p once true e =
    let s = and_parts (tables.same_class c d) (key_eq k q) e in
    subst (λ x. flight_in (remove fs i) x q ≡ None) (same_one c d s.0)
    (subst (λ x. flight_in (remove fs i) c x ≡ None) (same_key k q s.1) (none_left c k fs i p once))

pub closed : (c : Class) (k : Key) (fs : List OpenFlight) (i : ℕ) → position (is_named c k) fs ≡ Some i → are_once fs ≡ true →
    flight_in (remove fs i) ≡ tables.with_flight key_eq c k None (flight_in fs)
closed c k fs i h once =
    fun_ext (λ d. fun_ext (λ q. at_each c d k q fs i (first_is c k fs i h) once (tables.same_class c d && key_eq k q) refl ∙
    choose c d k q fs))

still_none : (d : Class) (q : Key) (fs : List OpenFlight) (i : ℕ) → flight_in fs d q ≡ None → flight_in (remove fs i) d q ≡ None
still_none d q [] zero h = refl
still_none d q [] (suc i) h = refl
still_none d q (g ∷ fs) zero h = (elim (is_named d q g) as
    (λ b. (if b then Some (seen g) else flight_in fs d q) ≡ None → flight_in fs d q ≡ None) [
      | true ↦ λ e. absurd (none-some (seen g) (sym e))
      | false ↦ λ e. e
    ]) h
still_none d q (g ∷ fs) (suc i) h = (elim (is_named d q g) as
    (λ b. (if b then Some (seen g) else flight_in fs d q) ≡ None → (if b then Some (seen g) else flight_in (remove fs i) d q) ≡ None) [
      | true ↦ λ e. e
      | false ↦ λ e. still_none d q fs i e
    ]) h

pub once_less : (fs : List OpenFlight) (i : ℕ) → are_once fs ≡ true → are_once (remove fs i) ≡ true
once_less [] zero h = refl
once_less [] (suc i) h = refl
once_less (g ∷ fs) zero h = under g fs h
once_less (g ∷ fs) (suc i) h =
    let p = and_parts (not (is_some (flight_in fs g.class g.key))) (are_once fs) h in
    ap (λ (y : Option tables.Flight). not (is_some y) && are_once (remove fs i))
    (still_none g.class g.key fs i (is_none (flight_in fs g.class g.key) p.0))
    ∙ once_less fs i p.1

pub there : (c : Class) (k : Key) (fs : List OpenFlight) (i : ℕ) → position (is_named c k) fs ≡ Some i → i < length fs
there c k fs i h = (first_is c k fs i h).within
