-- Which flights are open in a table, after each change.
use Rattle.std.proofs.Common.{◌≡◌, ℕ, ◌+◌, List, Bool, true, false, Option, Some, None, ◌⊎◌, inl, inr, refl, sym, ap, subst, ◌∙◌, ⊎_elim}
use Rattle.std.proofs.Common.{if◌then◌else◌}
use Rattle.std.specs.Prelude.{cond, nat_eq}
use Rattle.std.proofs.lemmas.Option.{none-some, same_Some}
use Rattle.std.proofs.lemmas.Bool.{eqb-true}
use Rattle.iiif_tables.specs.Cache.{Kept, kept_for}
use Rattle.iiif_tables.specs.Flights as tables
use Rattle.iiif_machine.specs.Keys.{key_eq, entry_size}
use Rattle.iiif_machine.specs.Types.{Key, Value}
use Rattle.iiif_machine.specs.Tables.{Class, Wide, Local, Place, Outcome, Table, Entered, joins, leads, met, value_of, enter, again, land}
use Rattle.iiif_machine.specs.Tables.{evicted, emptied, IsOpen}
use Rattle.iiif_machine.proofs.Words.{TableLaws}
use Rattle.iiif_machine.proofs.KeyParts.{same_key, eq_same, key_same}
use Rattle.iiif_machine.proofs.Tabled.{enter_found, enter_holds, again_found, again_holds, land_holds, evicted_holds, emptied_holds}

abbrev Flights : Type 0
Flights = Class → Key → Option tables.Flight

here : (c : Class) (k : Key) (x : Option tables.Flight) (fs : Flights) → tables.with_flight key_eq c k x fs c k ≡ x
here Wide k x fs = ap (λ b. cond b x (fs Wide k)) (key_same k)
here Local k x fs = ap (λ b. cond b x (fs Local k)) (key_same k)

other_key : (k q : Key) (x y : Option tables.Flight) → (k ≡ q → ⊥) → cond (key_eq k q) x y ≡ y
other_key k q x y apart = (elim (key_eq k q) as (λ b. key_eq k q ≡ b → cond b x y ≡ y) [
  | true ↦ λ e. absurd (apart (same_key k q e))
  | false ↦ λ e. refl
]) refl

away : (c d : Class) (k q : Key) (x : Option tables.Flight) (fs : Flights) → (k ≡ q → c ≡ d → ⊥) →
    tables.with_flight key_eq c k x fs d q ≡ fs d q
away Wide Wide k q x fs apart = other_key k q x (fs Wide q) (λ e. apart e refl)
away Local Local k q x fs apart = other_key k q x (fs Local q) (λ e. apart e refl)
away Wide Local k q x fs apart = refl
away Local Wide k q x fs apart = refl

leads_same : (a b : ℕ) → leads a ≡ leads b → a ≡ b
leads_same a b e = cc

-- Enter

new_by : (t : Table) (k : Key) (c : Class) (a n : ℕ) (x : Option (Kept Value)) (f : Option tables.Flight) → t.flights c k ≡ f →
    met (tables.met x f a) ≡ leads n → t.flights c k ≡ None
new_by t k c a n (Some e) f is h = absurd cc
new_by t k c a n None (Some f) is h = absurd cc
new_by t k c a n None None is h = is

leads_new : (t t' : Table) (k : Key) (c : Class) (m n : ℕ) → enter t k c ≡ (leads n, t') → ¬ (IsOpen t k c m)
unfolding enter tables.enter IsOpen
leads_new t t' k c m n h o =
    let none = new_by t k c (t.book.leads + 1) n (kept_for key_eq k t.cache) (t.flights c k) refl (ap (λ (x : Entered × Table). x.0) h) in
    none-some o.0 (sym none ∙ o.1)

open_by : (t : Table) (k : Key) (c : Class) (a n : ℕ) (x : Option (Kept Value)) (f : Option tables.Flight) →
    met (tables.met x f a) ≡ leads n →
    IsOpen (tables.entering key_eq c k (tables.met x f a) t) k c n
unfolding IsOpen
open_by t k c a n (Some e) f h = absurd cc
open_by t k c a n None (Some f) h = absurd cc
open_by t k c a n None None h = (
  record { ticket = a; found = false },
  here c k (Some (record { ticket = a; found = false })) t.flights,
  leads_same a n h,
)

leads_open : (t t' : Table) (k : Key) (c : Class) (n : ℕ) → enter t k c ≡ (leads n, t') → IsOpen t' k c n
unfolding enter tables.enter
leads_open t t' k c n h =
    subst (λ (u : Table). IsOpen u k c n) (ap (λ (x : Entered × Table). x.1) h)
    (open_by t k c (t.book.leads + 1) n (kept_for key_eq k t.cache) (t.flights c k) (ap (λ (x : Entered × Table). x.0) h))

stay_by : (t : Table) (k q : Key) (c d : Class) (a n : ℕ) (x : Option (Kept Value)) (f : Option tables.Flight) → t.flights c k ≡ f →
    IsOpen t q d n →
    IsOpen (tables.entering key_eq c k (tables.met x f a) t) q d n
unfolding IsOpen
stay_by t k q c d a n (Some e) f is o = o
stay_by t k q c d a n None (Some f) is o = o
stay_by t k q c d a n None None is o = (
  o.0,
  away c d k q (Some (record { ticket = a; found = false })) t.flights
      (λ e g. none-some o.0 (sym is ∙ ap (λ x. t.flights c x) e ∙ ap (λ x. t.flights x q) g ∙ o.1)) ∙ o.1,
  o.2,
)

enter_open : (t : Table) (k q : Key) (c d : Class) (n : ℕ) → IsOpen t q d n → IsOpen (enter t k c).1 q d n
unfolding enter tables.enter
enter_open t k q c d n o = stay_by t k q c d (t.book.leads + 1) n (kept_for key_eq k t.cache) (t.flights c k) refl o

-- Again

ticket_is : (n : ℕ) (f : tables.Flight) (x : Option tables.Flight) → x ≡ Some f → tables.has_ticket n x ≡ true → f.ticket ≡ n
ticket_is n f None e h = absurd (none-some f e)
ticket_is n f (Some g) e h = ap (λ (z : tables.Flight). z.ticket) (same_Some f g (sym e)) ∙ eqb-true g.ticket n h

same_or_not : (c d : Class) (k q : Key) → ((k ≡ q) × (c ≡ d)) ⊎ (k ≡ q → c ≡ d → ⊥)
same_or_not c d k q = (elim (key_eq k q) as (λ b. key_eq k q ≡ b → ((k ≡ q) × (c ≡ d)) ⊎ (k ≡ q → c ≡ d → ⊥)) [
  | true ↦ λ e. classes c d (same_key k q e)
  | false ↦ λ e. inr (λ same _. not_both k q e same)
]) refl
  where
    classes : (c d : Class) → k ≡ q → ((k ≡ q) × (c ≡ d)) ⊎ (k ≡ q → c ≡ d → ⊥)
    classes Wide Wide e = inl (e, refl)
    classes Local Local e = inl (e, refl)
    classes Wide Local e = inr (λ _ f. cc)
    classes Local Wide e = inr (λ _ f. cc)

    not_both : (k q : Key) → key_eq k q ≡ false → k ≡ q → ⊥
    not_both k q e same = let yes : key_eq k q ≡ true = subst (λ x. key_eq k x ≡ true) same (key_same k) in cc

looking_open : (t : Table) (k q : Key) (c d : Class) (m n : ℕ) (x : Option (Kept Value)) → tables.has_ticket m (t.flights c k) ≡ true →
    IsOpen t q d n → IsOpen (tables.looking key_eq c k m x t).1 q d n
unfolding IsOpen
looking_open t k q c d m n None has o = o
looking_open t k q c d m n (Some e) has o =
    let f : tables.Flight = record { ticket = m; found = true } in
    ⊎_elim
    (λ (s : (k ≡ q) × (c ≡ d)).
    let at : t.flights c k ≡ Some o.0 = ap (λ x. t.flights c x) s.0 ∙ ap (λ x. t.flights x q) s.1 ∙ o.1 in
    let ticket : o.0.ticket ≡ m = ticket_is m o.0 (t.flights c k) at has in (
      f,
      subst (λ x. tables.with_flight key_eq c k (Some f) t.flights d x ≡ Some f) s.0
          (subst (λ x. tables.with_flight key_eq c k (Some f) t.flights x k ≡ Some f) s.1 (here c k (Some f) t.flights)),
      sym ticket ∙ o.2,
    ))
    (λ (s : k ≡ q → c ≡ d → ⊥). (o.0, away c d k q (Some f) t.flights s ∙ o.1, o.2))
    (same_or_not c d k q)

again_open : (t : Table) (k q : Key) (c d : Class) (m n : ℕ) → IsOpen t q d n → IsOpen (again t k c m).1 q d n
unfolding again tables.again
again_open t k q c d m n o = (elim (tables.has_ticket m (t.flights c k)) as
    (λ b. tables.has_ticket m (t.flights c k) ≡ b →
    IsOpen (if b then tables.looking key_eq c k m (kept_for key_eq k t.cache) t else (None, t)).1 q d n) [
      | true ↦ λ e. looking_open t k q c d m n (kept_for key_eq k t.cache) e o
      | false ↦ λ e. o
    ]) refl

-- Land, Evict

land_open : (t : Table) (k q : Key) (c d : Class) (m n : ℕ) (o : Outcome) (p : Place) (kept : Bool) → (k ≡ q → c ≡ d → ⊥) → IsOpen t q d n →
    IsOpen (land t k c m o p kept) q d n
unfolding land tables.land IsOpen
land_open t k q c d m n o p kept apart h = elim (tables.has_ticket m (t.flights c k)) as
    (λ b. (f : tables.Flight) × ((if b then tables.landing key_eq entry_size kept c k m (value_of o) p
    (tables.counting (tables.is_found (t.flights c k)) (value_of o) p t.book) t else t).flights d q ≡ Some f) × (f.ticket ≡ n)) [
      | true ↦ (h.0, away c d k q None t.flights apart ∙ h.1, h.2)
      | false ↦ h
    ]

evicted_open : (t : Table) (ks : List Key) (q : Key) (d : Class) (n : ℕ) → IsOpen t q d n → IsOpen (evicted t ks) q d n
unfolding evicted IsOpen
evicted_open t ks q d n o = o

pub table_laws : TableLaws
table_laws = record {
  found = enter_found;
  enter_holds = enter_holds;
  again_found = again_found;
  again_holds = again_holds;
  land_holds = land_holds;
  evicted_holds = evicted_holds;
  emptied_holds = emptied_holds;
  leads_new = leads_new;
  leads_open = leads_open;
  enter_open = enter_open;
  again_open = again_open;
  land_open = land_open;
  evicted_open = evicted_open;
}

-- and no other is

was_by : (t : Table) (k q : Key) (c d : Class) (a m : ℕ) (x : Option (Kept Value)) (f : Option tables.Flight) →
    IsOpen (tables.entering key_eq c k (tables.met x f a) t) q d m →
    IsOpen t q d m ⊎ ((k ≡ q) × (c ≡ d) × (met (tables.met x f a) ≡ leads a))
unfolding IsOpen
was_by t k q c d a m (Some e) f o = inl o
was_by t k q c d a m None (Some f) o = inl o
was_by t k q c d a m None None o = ⊎_elim
    (λ (s : (k ≡ q) × (c ≡ d)). inr (s.0, s.1, refl))
    (λ (s : k ≡ q → c ≡ d → ⊥). inl (o.0, sym (away c d k q (Some (record { ticket = a; found = false })) t.flights s) ∙ o.1, o.2))
    (same_or_not c d k q)

-- a call that enters opens no flight but the one that it leads
pub enter_only : (t t' : Table) (k q : Key) (c d : Class) (m : ℕ) (x : Entered) → enter t k c ≡ (x, t') → IsOpen t' q d m → IsOpen t q d m ⊎
    ((k ≡ q) × (c ≡ d) × (x ≡ leads (t.book.leads + 1)))
unfolding enter tables.enter
enter_only t t' k q c d m x h o =
    let back = subst (λ (u : Table). IsOpen u q d m) (sym (ap (λ (x : Entered × Table). x.1) h)) o in
    ⊎_elim
    (λ (s : IsOpen t q d m). inl s)
    (λ (s : (k ≡ q) × (c ≡ d) × (met (tables.met (kept_for key_eq k t.cache) (t.flights c k) (t.book.leads + 1)) ≡ leads
    (t.book.leads + 1))).
    inr (s.0, s.1, sym (ap (λ (x : Entered × Table). x.0) h) ∙ s.2))
    (was_by t k q c d (t.book.leads + 1) m (kept_for key_eq k t.cache) (t.flights c k) back)

joined_by : (t : Table) (k : Key) (c : Class) (a : ℕ) (x : Option (Kept Value)) (f : Option tables.Flight) → t.flights c k ≡ f →
    met (tables.met x f a) ≡ joins → (n : ℕ) × IsOpen t k c n
unfolding IsOpen
joined_by t k c a (Some e) f is h = absurd cc
joined_by t k c a None (Some f) is h = (f.ticket, (f, is, refl))
joined_by t k c a None None is h = absurd cc

-- a call joins only a flight that is open
pub joins_open : (t t' : Table) (k : Key) (c : Class) → enter t k c ≡ (joins, t') → (n : ℕ) × IsOpen t k c n
unfolding enter tables.enter
joins_open t t' k c h = joined_by t k c (t.book.leads + 1) (kept_for key_eq k t.cache) (t.flights c k) refl
    (ap (λ (x : Entered × Table). x.0) h)

looking_was : (t : Table) (k q : Key) (c d : Class) (m n : ℕ) (x : Option (Kept Value)) (g : tables.Flight) → t.flights c k ≡ Some g →
    g.ticket ≡ m →
    IsOpen (tables.looking key_eq c k m x t).1 q d n → IsOpen t q d n
unfolding IsOpen
looking_was t k q c d m n None g at has o = o
looking_was t k q c d m n (Some e) g at has o =
    let f : tables.Flight = record { ticket = m; found = true } in
    ⊎_elim
    (λ (s : (k ≡ q) × (c ≡ d)).
    let now : tables.with_flight key_eq c k (Some f) t.flights d q ≡ Some f =
    subst (λ x. tables.with_flight key_eq c k (Some f) t.flights d x ≡ Some f) s.0
    (subst (λ x. tables.with_flight key_eq c k (Some f) t.flights x k ≡ Some f) s.1 (here c k (Some f) t.flights)) in
    let same : f ≡ o.0 = same_Some f o.0 (sym now ∙ o.1) in
    (g, ap (λ x. t.flights x q) (sym s.1) ∙ ap (λ x. t.flights c x) (sym s.0) ∙ at, has ∙ ap (λ (z : tables.Flight). z.ticket) same ∙ o.2))
    (λ (s : k ≡ q → c ≡ d → ⊥). (o.0, sym (away c d k q (Some f) t.flights s) ∙ o.1, o.2))
    (same_or_not c d k q)

ticket_there : (n : ℕ) (x : Option tables.Flight) → tables.has_ticket n x ≡ true → (g : tables.Flight) × (x ≡ Some g) × (g.ticket ≡ n)
ticket_there n None h = absurd cc
ticket_there n (Some g) h = (g, refl, eqb-true g.ticket n h)

pub again_only : (t : Table) (k q : Key) (c d : Class) (m n : ℕ) → IsOpen (again t k c m).1 q d n → IsOpen t q d n
unfolding again tables.again
again_only t k q c d m n o = (elim (tables.has_ticket m (t.flights c k)) as
    (λ b. tables.has_ticket m (t.flights c k) ≡ b →
    IsOpen (if b then tables.looking key_eq c k m (kept_for key_eq k t.cache) t else (None, t)).1 q d n → IsOpen t q d n) [
      | true ↦ λ e h. let g = ticket_there m (t.flights c k) e in looking_was t k q c d m n (kept_for key_eq k t.cache) g.0 g.1 g.2 h
      | false ↦ λ e h. h
    ]) refl o

has_it : (n : ℕ) (x : Option tables.Flight) (g : tables.Flight) → x ≡ Some g → g.ticket ≡ n → tables.has_ticket n x ≡ true
has_it n None g e h = absurd (none-some g e)
has_it n (Some f) g e h = subst (λ m. nat_eq m n ≡ true) (sym (ap (λ (z : tables.Flight). z.ticket) (same_Some f g e) ∙ h)) (eq_same n)

-- the flight that lands is closed, and the others that are open were
pub land_only : (t : Table) (k q : Key) (c d : Class) (m n : ℕ) (o : Outcome) (p : Place) (kept : Bool) → IsOpen t k c m →
    IsOpen (land t k c m o p kept) q d n →
    IsOpen t q d n × (k ≡ q → c ≡ d → ⊥)
unfolding land tables.land IsOpen
land_only t k q c d m n o p kept lead h =
    let b' = tables.counting (tables.is_found (t.flights c k)) (value_of o) p t.book in
    let made = tables.landing key_eq entry_size kept c k m (value_of o) p b' t in
    let closed : (if tables.has_ticket m (t.flights c k) then made else t) ≡ made =
    ap (λ b. if b then made else t) (has_it m (t.flights c k) lead.0 lead.1 lead.2) in
    let at : tables.with_flight key_eq c k None t.flights d q ≡ Some h.0 = ap (λ (u : Table). u.flights d q) (sym closed) ∙ h.1 in
    let apart : k ≡ q → c ≡ d → ⊥ = λ e f.
    (let none : tables.with_flight key_eq c k None t.flights d q ≡ None =
    subst (λ x. tables.with_flight key_eq c k None t.flights d x ≡ None) e
    (subst (λ x. tables.with_flight key_eq c k None t.flights x k ≡ None) f (here c k None t.flights)) in
    none-some h.0 (sym none ∙ at)) in
    ((h.0, sym (away c d k q None t.flights apart) ∙ at, h.2), apart)

pub evicted_only : (t : Table) (ks : List Key) (q : Key) (d : Class) (n : ℕ) → IsOpen (evicted t ks) q d n → IsOpen t q d n
unfolding evicted IsOpen
evicted_only t ks q d n o = o

pub emptied_only : (t : Table) (q : Key) (d : Class) (n : ℕ) → IsOpen (emptied t) q d n → ⊥
unfolding emptied IsOpen
emptied_only t q d n o = none-some o.0 o.1
