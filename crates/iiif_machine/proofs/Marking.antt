-- The open flights of a table, after the leader of one of them has found its value.
use Rattle.std.proofs.Common.{◌≡◌, ℕ, zero, suc, Bool, true, false, cond, List, [], ◌∷◌, Option, Some, None, refl, sym, ap, subst, ◌∙◌}
use Rattle.std.proofs.Common.{is_some, arith}
use Rattle.std.specs.Prelude.{slice_get, slice_set, position, not, ◌&&◌, ◌==◌, if◌then◌else◌}
use Rattle.std.proofs.lemmas.Option.{none-some, same_Some}
use Rattle.std.proofs.lemmas.Bool.{and_parts}
use mathlib.Core.Path.{fun_ext}
use Rattle.iiif_tables.specs.Cache.{Cache, Kept, kept_for}
use Rattle.iiif_tables.specs.Flights as tables
use Rattle.iiif_tables.specs.declared.table.Book.{Book}
use Rattle.iiif_tables.specs.declared.table.Class.{Class}
use Rattle.iiif_tables.specs.declared.table.Class.TheVariants.{Wide, Local}
use Rattle.iiif_machine.specs.declared.keys.Key.{Key}
use Rattle.iiif_machine.specs.declared.keys.Value.{Value}
use Rattle.iiif_machine.specs.Keys.{key_eq}
use Rattle.iiif_machine.proofs.KeyParts.{same_key}
use Rattle.iiif_machine.specs.Tables.{Table}
use Rattle.iiif_machine.specs.declared.table.OpenFlight.{OpenFlight}
use Rattle.iiif_machine.specs.Open.{is_named, seen, flight_in, are_once}
use Rattle.iiif_machine.proofs.Closing.{same_one, First, first_under, first_is, Apart, not_both}

abbrev pub as_found : OpenFlight → OpenFlight
as_found f = record { key = f.key; class = f.class; ticket = f.ticket; found = true }

mark_here : (c : Class) (k : Key) (fs : List OpenFlight) (i : ℕ) (f : OpenFlight) → First c k fs i → slice_get fs i ≡ Some f →
    flight_in (slice_set fs i (as_found f)) c k ≡ Some (seen (as_found f))
mark_here c k [] i f p at = absurd (none-some f at)
mark_here c k (g ∷ fs) zero f p at =
    let same = same_Some g f at in
    ap (λ b. if b then Some (seen (as_found f)) else flight_in fs c k) (ap (is_named c k) (sym same) ∙ p.pass g)
mark_here c k (g ∷ fs) (suc i) f p at =
    ap (λ b. if b then Some (seen g) else flight_in (slice_set fs i (as_found f)) c k) (p.before g zero (omega arith))
    ∙ mark_here c k fs i f (first_under c k g fs i p) at

others_kept : (c d : Class) (k q : Key) (fs : List OpenFlight) (i : ℕ) (f : OpenFlight) → First c k fs i → slice_get fs i ≡ Some f →
    Apart c k d q →
    flight_in (slice_set fs i (as_found f)) d q ≡ flight_in fs d q
others_kept c d k q [] i f p at apart = absurd (none-some f at)
others_kept c d k q (g ∷ fs) zero f p at apart =
    let same = same_Some g f at in
    let far = not_both c d k q g apart (p.pass g) (is_named d q g) refl in
    ap (λ b. if b then Some (seen (as_found f)) else flight_in fs d q) (ap (is_named d q) (sym same) ∙ far)
    ∙ sym (ap (λ b. if b then Some (seen g) else flight_in fs d q) far)
others_kept c d k q (g ∷ fs) (suc i) f p at apart =
    ap (λ x. if is_named d q g then Some (seen g) else x) (others_kept c d k q fs i f (first_under c k g fs i p) at apart)

choose : (c d : Class) (k q : Key) (fs : List OpenFlight) (x : tables.Flight) →
    cond (tables.same_class c d && key_eq k q) (Some x) (flight_in fs d q) ≡ tables.with_flight key_eq c k (Some x) (flight_in fs) d q
choose Wide Wide k q fs x = refl
choose Local Local k q fs x = refl
choose Wide Local k q fs x = refl
choose Local Wide k q fs x = refl

at_each : (c d : Class) (k q : Key) (fs : List OpenFlight) (i : ℕ) (f : OpenFlight) → First c k fs i → slice_get fs i ≡ Some f →
    (b : Bool) → (tables.same_class c d && key_eq k q) ≡ b →
    flight_in (slice_set fs i (as_found f)) d q ≡ cond b (Some (seen (as_found f))) (flight_in fs d q)
at_each c d k q fs i f p at false e = others_kept c d k q fs i f p at e
at_each c d k q fs i f p at true e =
    let s = and_parts (tables.same_class c d) (key_eq k q) e in
    let new = slice_set fs i (as_found f) in
    subst (λ x. flight_in new x q ≡ Some (seen (as_found f))) (same_one c d s.0)
    (subst (λ x. flight_in new c x ≡ Some (seen (as_found f))) (same_key k q s.1) (mark_here c k fs i f p at))

pub marked : (c : Class) (k : Key) (fs : List OpenFlight) (i : ℕ) (f : OpenFlight) → position (is_named c k) fs ≡ Some i →
    slice_get fs i ≡ Some f →
    flight_in (slice_set fs i (as_found f)) ≡ tables.with_flight key_eq c k (Some (seen (as_found f))) (flight_in fs)
marked c k fs i f h at =
    fun_ext (λ d. fun_ext (λ q. at_each c d k q fs i f (first_is c k fs i h) at (tables.same_class c d && key_eq k q) refl ∙
    choose c d k q fs (seen (as_found f))))

there_too : (d : Class) (q : Key) (fs : List OpenFlight) (i : ℕ) (f : OpenFlight) → slice_get fs i ≡ Some f →
    is_some (flight_in (slice_set fs i (as_found f)) d q) ≡ is_some (flight_in fs d q)
there_too d q [] i f at = absurd (none-some f at)
there_too d q (g ∷ fs) zero f at =
    let same = same_Some g f at in
    subst (λ x. is_some (if is_named d q x then Some (seen (as_found x)) else flight_in fs d q) ≡ is_some
    (if is_named d q g then Some (seen g) else flight_in fs d q)) same
    (elim (is_named d q g) as (λ b. is_some (if b then Some (seen (as_found g)) else flight_in fs d q) ≡ is_some
    (if b then Some (seen g) else flight_in fs d q)) [
      | true ↦ refl
      | false ↦ refl
    ])
there_too d q (g ∷ fs) (suc i) f at = elim (is_named d q g)
    as (λ b. is_some (if b then Some (seen g) else flight_in (slice_set fs i (as_found f)) d q) ≡ is_some
    (if b then Some (seen g) else flight_in fs d q)) [
      | true ↦ refl
      | false ↦ there_too d q fs i f at
    ]

pub once_marked : (fs : List OpenFlight) (i : ℕ) (f : OpenFlight) → slice_get fs i ≡ Some f →
    are_once (slice_set fs i (as_found f)) ≡ are_once fs
once_marked [] i f at = absurd (none-some f at)
once_marked (g ∷ fs) zero f at =
    let same = same_Some g f at in
    subst (λ x. (not (is_some (flight_in fs x.class x.key)) && are_once fs) ≡ (not (is_some (flight_in fs g.class g.key)) && are_once fs))
    same refl
once_marked (g ∷ fs) (suc i) f at =
    ap (λ b. not b && are_once (slice_set fs i (as_found f))) (there_too g.class g.key fs i f at)
    ∙ ap (λ b. not (is_some (flight_in fs g.class g.key)) && b) (once_marked fs i f at)

-- what the leader of a flight finds, by what stands in the table

abbrev Maybe : Type 0
Maybe = Option tables.Flight

abbrev answer_by : Class → Key → ℕ → Table → Option (Kept Value) → Bool → Option Value × Table
answer_by c k n t x b = if b then tables.looking key_eq c k n x t else (None, t)

pub again_missing : (c : Class) (k : Key) (n : ℕ) (t : Table) → t.flights c k ≡ None → tables.again key_eq c k n t ≡ (None, t)
unfolding tables.again
again_missing c k n t e = ap (λ (f : Maybe). answer_by c k n t (kept_for key_eq k t.cache) (tables.has_ticket n f)) e

pub again_other : (c : Class) (k : Key) (n : ℕ) (t : Table) (f : tables.Flight) → t.flights c k ≡ Some f → (f.ticket == n) ≡ false →
    tables.again key_eq c k n t ≡ (None, t)
unfolding tables.again
again_other c k n t f e other =
    ap (λ (f : Maybe). answer_by c k n t (kept_for key_eq k t.cache) (tables.has_ticket n f)) e ∙
    ap (answer_by c k n t (kept_for key_eq k t.cache)) other

pub again_by : (c : Class) (k : Key) (n : ℕ) (t : Table) (f : tables.Flight) (x : Option (Kept Value)) → t.flights c k ≡ Some f →
    (f.ticket == n) ≡ true →
    kept_for key_eq k t.cache ≡ x → tables.again key_eq c k n t ≡ tables.looking key_eq c k n x t
unfolding tables.again
again_by c k n t f x e own kept =
    ap (λ (f : Maybe). answer_by c k n t (kept_for key_eq k t.cache) (tables.has_ticket n f)) e ∙
    ap (answer_by c k n t (kept_for key_eq k t.cache)) own
    ∙ ap (λ (y : Option (Kept Value)). tables.looking key_eq c k n y t) kept

abbrev made : Value → Cache Key Value → (Class → Key → Maybe) → ℕ → Book → Option Value × Table
made v cache flights in_flight book = (Some v, record { cache = cache; flights = flights; in_flight = in_flight; book = book })

-- what was found, and the table after it, by its parts
pub found_by : (v : Value) (u : Table) (cache : Cache Key Value) (flights : Class → Key → Maybe) (in_flight : ℕ) (book : Book) →
    u.cache ≡ cache → u.flights ≡ flights → u.in_flight ≡ in_flight → u.book ≡ book → made v cache flights in_flight book ≡ (Some v, u)
found_by v u cache flights in_flight book a b c d =
    ap (λ (x : Cache Key Value). made v x flights in_flight book) (sym a)
    ∙ ap (λ (x : Class → Key → Maybe). made v u.cache x in_flight book) (sym b)
    ∙ ap (λ (x : ℕ). made v u.cache u.flights x book) (sym c)
    ∙ ap (λ (x : Book). made v u.cache u.flights u.in_flight x) (sym d)
