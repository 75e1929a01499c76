-- The open flights of a table, after one more is open.
use Rattle.std.proofs.Common.{◌≡◌, ℕ, zero, suc, ◌+◌, ◌<◌, ◌≤◌, Bool, true, false, cond, List, [], ◌∷◌, ◌++◌, length, Option, Some, None}
use Rattle.std.proofs.Common.{refl, sym, ap, subst, ◌∙◌, get_or, is_some, arith, length-append}
use Rattle.std.specs.Prelude.{slice_get, position, not, ◌&&◌, if◌then◌else◌}
use Rattle.std.specs.List.{position_or_len}
use Rattle.std.specs.Option.{option_or}
use Rattle.std.proofs.lemmas.Option.{none-some, get_or_from_slice_get, slice_get-get_or, same_Some}
use Rattle.std.proofs.lemmas.List.Quantifiers.{position-Some}
use Rattle.std.proofs.lemmas.List.Sums.{fails_before_first}
use Rattle.std.proofs.lemmas.Bool.{ltb-false, and_parts}
use mathlib.Core.Path.{fun_ext}
use Rattle.iiif_tables.specs.Cache.{Cache, Kept, kept_for}
use Rattle.iiif_tables.specs.Flights as tables
use Rattle.iiif_tables.specs.declared.table.Book.{Book}
use Rattle.iiif_tables.specs.declared.table.Class.{Class}
use Rattle.iiif_tables.specs.declared.table.Class.TheVariants.{Wide, Local}
use Rattle.iiif_machine.specs.declared.keys.Key.{Key}
use Rattle.iiif_machine.specs.declared.keys.Value.{Value}
use Rattle.iiif_machine.specs.Keys.{key_eq}
use Rattle.iiif_machine.specs.Tables.{Table}
use Rattle.iiif_machine.proofs.KeyParts.{same_key}
use Rattle.iiif_machine.proofs.KeyParts.{key_same}
use Rattle.iiif_machine.specs.declared.table.OpenFlight.{OpenFlight}
use Rattle.iiif_machine.specs.Open.{is_named, seen, flight_in, are_once}
use Rattle.iiif_machine.proofs.Mixed.{past}

abbrev Maybe : Type 0
Maybe = Option tables.Flight

or_none : (x : Maybe) → option_or x None ≡ x
or_none None = refl
or_none (Some f) = refl

flight_more : (fs : List OpenFlight) (f : OpenFlight) (c : Class) (k : Key) →
    flight_in (fs ++ f ∷ []) c k ≡ option_or (flight_in fs c k) (flight_in (f ∷ []) c k)
flight_more [] f c k = refl
flight_more (g ∷ fs) f c k = elim (is_named c k g) as
    (λ b. (if b then Some (seen g) else flight_in (fs ++ f ∷ []) c k) ≡ option_or (if b then Some (seen g) else flight_in fs c k)
    (flight_in (f ∷ []) c k)) [
      | true ↦ refl
      | false ↦ flight_more fs f c k
    ]

by_key : (c : Class) (k q : Key) (fs : List OpenFlight) (x : tables.Flight) → flight_in fs c k ≡ None →
    option_or (flight_in fs c q) (if key_eq k q then Some x else None) ≡ cond (key_eq k q) (Some x) (flight_in fs c q)
by_key c k q fs x none = (elim (key_eq k q) as
    (λ b. key_eq k q ≡ b → option_or (flight_in fs c q) (if b then Some x else None) ≡ cond b (Some x) (flight_in fs c q)) [
      | true ↦ λ e. ap (λ (y : Maybe). option_or y (Some x)) (ap (flight_in fs c) (sym (same_key k q e)) ∙ none)
      | false ↦ λ e. or_none (flight_in fs c q)
    ]) refl

by_class : (a c : Class) (k q : Key) (fs : List OpenFlight) (x : tables.Flight) → flight_in fs a k ≡ None →
    option_or (flight_in fs c q) (if tables.same_class a c && key_eq k q then Some x else None) ≡ tables.with_flight key_eq a k (Some x)
    (flight_in fs) c q
by_class Wide Wide k q fs x none = by_key Wide k q fs x none
by_class Local Local k q fs x none = by_key Local k q fs x none
by_class Wide Local k q fs x none = or_none (flight_in fs Local q)
by_class Local Wide k q fs x none = or_none (flight_in fs Wide q)

pub opened : (fs : List OpenFlight) (f : OpenFlight) → flight_in fs f.class f.key ≡ None →
    flight_in (fs ++ f ∷ []) ≡ tables.with_flight key_eq f.class f.key (Some (seen f)) (flight_in fs)
opened fs f none = fun_ext (λ c. fun_ext (λ q. flight_more fs f c q ∙ by_class f.class c f.key q fs (seen f) none))

key_sym : (a b : Key) → key_eq a b ≡ key_eq b a
key_sym a b = (elim (key_eq a b) as (λ x. key_eq a b ≡ x → x ≡ key_eq b a) [
  | true ↦ λ e. sym (subst (λ y. key_eq y a ≡ true) (same_key a b e) (key_same a))
  | false ↦ λ e. (elim (key_eq b a) as (λ y. key_eq b a ≡ y → false ≡ y) [
    | true ↦ λ h. sym e ∙ subst (λ z. key_eq z b ≡ true) (same_key b a h) (key_same b)
    | false ↦ λ h. refl
  ]) refl
]) refl

named_sym : (f g : OpenFlight) → is_named f.class f.key g ≡ is_named g.class g.key f
named_sym f g = by f.class g.class
  where
    by : (a b : Class) → (tables.same_class b a && key_eq g.key f.key) ≡ (tables.same_class a b && key_eq f.key g.key)
    by Wide Wide = key_sym g.key f.key
    by Local Local = key_sym g.key f.key
    by Wide Local = refl
    by Local Wide = refl

pub is_none : (x : Maybe) → not (is_some x) ≡ true → x ≡ None
is_none None h = refl
is_none (Some f) h = absurd cc

not_named : (b : Bool) (x : tables.Flight) (y : Maybe) → (if b then Some x else y) ≡ None → (b ≡ false) × (y ≡ None)
not_named true x y h = absurd (none-some x (sym h))
not_named false x y h = (refl, h)

pub once_more : (fs : List OpenFlight) (f : OpenFlight) → are_once fs ≡ true → flight_in fs f.class f.key ≡ None →
    are_once (fs ++ f ∷ []) ≡ true
once_more [] f h none = refl
once_more (g ∷ fs) f h none =
    let p = and_parts (not (is_some (flight_in fs g.class g.key))) (are_once fs) h in
    let q = not_named (is_named f.class f.key g) (seen g) (flight_in fs f.class f.key) none in
    let away : is_named g.class g.key f ≡ false = sym (named_sym f g) ∙ q.0 in
    let gone : flight_in (fs ++ f ∷ []) g.class g.key ≡ None =
    flight_more fs f g.class g.key
    ∙ ap (λ (y : Maybe). option_or y (flight_in (f ∷ []) g.class g.key)) (is_none (flight_in fs g.class g.key) p.0)
    ∙ ap (λ b. if b then Some (seen f) else None) away in
    ap (λ (y : Maybe). not (is_some y) && are_once (fs ++ f ∷ [])) gone ∙ once_more fs f p.1 q.1

flight_at : (c : Class) (k : Key) (fs : List OpenFlight) (i : ℕ) (f : OpenFlight) → slice_get fs i ≡ Some f → is_named c k f ≡ true →
    ((j : ℕ) → j < i → is_named c k (get_or fs j f) ≡ false) → flight_in fs c k ≡ Some (seen f)
flight_at c k [] i f at pass h = absurd (none-some f at)
flight_at c k (g ∷ fs) zero f at pass h =
    let same : g ≡ f = same_Some g f at in
    ap (λ (x : OpenFlight). if is_named c k x then Some (seen x) else flight_in fs c k) same ∙
    ap (λ b. if b then Some (seen f) else flight_in fs c k) pass
flight_at c k (g ∷ fs) (suc i) f at pass h =
    ap (λ b. if b then Some (seen g) else flight_in fs c k) (h zero (omega arith))
    ∙ flight_at c k fs i f at pass (λ j less. h (suc j) (omega arith))

pub flight_found : (c : Class) (k : Key) (fs : List OpenFlight) (i : ℕ) (e d : OpenFlight) → position (is_named c k) fs ≡ Some i →
    e ≡ get_or fs i d → flight_in fs c k ≡ Some (seen e)
flight_found c k [] i e d h is = absurd (none-some i h)
flight_found c k (g ∷ fs) i e d h is =
    let p = position-Some (is_named c k) (g ∷ fs) i g h in
    let f : OpenFlight = get_or (g ∷ fs) i g in
    let q = position-Some (is_named c k) (g ∷ fs) i f h in
    let at : slice_get (g ∷ fs) i ≡ Some f = slice_get-get_or (g ∷ fs) i g p.0 in
    flight_at c k (g ∷ fs) i f at p.1 q.2 ∙ ap (λ (x : OpenFlight). Some (seen x)) (sym (is ∙ get_or_from_slice_get (g ∷ fs) i f d at))

all_fail : (c : Class) (k : Key) (fs : List OpenFlight) →
    ((j : ℕ) (d : OpenFlight) → j < length fs → is_named c k (get_or fs j d) ≡ false) → flight_in fs c k ≡ None
all_fail c k [] h = refl
all_fail c k (g ∷ fs) h =
    ap (λ b. if b then Some (seen g) else flight_in fs c k) (h zero g (omega arith)) ∙
    all_fail c k fs (λ j d less. h (suc j) d (omega arith))

pub flight_missing : (c : Class) (k : Key) (fs : List OpenFlight) → position (is_named c k) fs ≡ None → flight_in fs c k ≡ None
flight_missing c k fs h =
    let out : length fs ≤ position_or_len (is_named c k) fs = ltb-false _ _ (past _ _ h) in
    all_fail c k fs (λ j d less. fails_before_first (is_named c k) fs j d (omega arith))

-- what a call meets decides what it does
pub enter_met : (c : Class) (k : Key) (t : Table) (x : Option (Kept Value)) (y : Maybe) → kept_for key_eq k t.cache ≡ x →
    t.flights c k ≡ y →
    tables.enter key_eq c k t ≡ (tables.met x y (t.book.leads + 1), tables.entering key_eq c k (tables.met x y (t.book.leads + 1)) t)
unfolding tables.enter
enter_met c k t x y p q =
    ap (λ (z : Option (Kept Value)). (
      tables.met z (t.flights c k) (t.book.leads + 1),
      tables.entering key_eq c k (tables.met z (t.flights c k) (t.book.leads + 1)) t,
    )) p
    ∙ ap (λ (z : Maybe). (tables.met x z (t.book.leads + 1), tables.entering key_eq c k (tables.met x z (t.book.leads + 1)) t)) q

abbrev table_made : Cache Key Value → (Class → Key → Maybe) → ℕ → Book → Table
table_made ca fl n b = record { cache = ca; flights = fl; in_flight = n; book = b }

abbrev row : Class → ℕ → Key → OpenFlight
row c n k = record { key = k; class = c; ticket = n; found = false }

pub led_by : (ca : Cache Key Value) (b : Book) (fs new : List OpenFlight) (c : Class) (k copy : Key) (n : ℕ) → flight_in fs c k ≡ None →
    copy ≡ k → new ≡ fs ++ row c n copy ∷ [] →
    table_made ca (tables.with_flight key_eq c k (Some (seen (row c n k))) (flight_in fs)) (length fs + 1) b ≡ table_made ca (flight_in new)
    (length new) b
led_by ca b fs new c k copy n none same is =
    let f = row c n k in
    let one : length fs + 1 ≡ length (fs ++ f ∷ []) = omega (arith, length-append fs (f ∷ [])) in
    ap (λ (x : Class → Key → Maybe). table_made ca x (length fs + 1) b) (sym (opened fs f none))
    ∙ ap (λ m. table_made ca (flight_in (fs ++ f ∷ [])) m b) one
    ∙ ap (λ (l : List OpenFlight). table_made ca (flight_in l) (length l) b) (sym (is ∙ ap (λ x. fs ++ row c n x ∷ []) same))

pub once_by : (fs new : List OpenFlight) (c : Class) (k copy : Key) (n : ℕ) → are_once fs ≡ true → flight_in fs c k ≡ None → copy ≡ k →
    new ≡ fs ++ row c n copy ∷ [] → are_once new ≡ true
once_by fs new c k copy n once none same is = ap are_once (is ∙ ap (λ x. fs ++ row c n x ∷ []) same) ∙ once_more fs (row c n k) once none

abbrev pub led_with : ℕ → Table → tables.Entered Value × Table
led_with n t = (tables.led n, t)

abbrev pub hit_with : Kept Value → Table → Cache Key Value → tables.Entered Value × Table
hit_with e t ca = (tables.hit e, record t { cache = ca; book = record t.book { gets = t.book.gets + 1; hits = t.book.hits + 1 } })
