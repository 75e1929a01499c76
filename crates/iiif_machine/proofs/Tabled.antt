-- The laws of tables, of their definitions.
use Rattle.std.proofs.Common.{◌≡◌, ℕ, zero, suc, ◌+◌, ◌-◌, List, [], ◌∷◌, Bool, true, false, Option, Some, None, Ok, Err, ◌⊎◌, inl, inr}
use Rattle.std.proofs.Common.{length, take, fold, refl, sym, ap, subst, ◌∙◌, ⊎_elim, is_some, if◌then◌else◌}
use Rattle.std.specs.Prelude.{cond, ◌==◌, ◌%◌, nat_lt}
use Rattle.std.specs.Option.{option_map_or, option_or}
use Rattle.std.specs.Map.{lookup, lookup_entry, remove_entry}
use Rattle.std.proofs.lemmas.Option.{none-some, same_Some}
use Rattle.iiif_tables.specs.Cache.{Kept, Cache, Side, main_side, hot_side, kept_for, touch, to_front, without, placed, replaced, added_to}
use Rattle.iiif_tables.specs.Cache.{but_oldest, hot_is_large, evict, evict_at_most, shrink, is_too_big, put}
use Rattle.iiif_tables.specs.Flights as tables
use Rattle.iiif_machine.specs.Keys.{key_eq, entry_size}
use Rattle.iiif_machine.specs.Types.{Key, Value}
use Rattle.iiif_machine.specs.Tables.{Class, Place, Nowhere, Main, Peer, Outcome, Table, Entered, finds, met, value_of, enter, again, land}
use Rattle.iiif_machine.specs.Tables.{evicted, emptied, Lists, Holds}
use Rattle.iiif_machine.specs.Sound.{Each}
use Rattle.iiif_machine.proofs.Lists.{each_nil, each_cons}
use Rattle.iiif_machine.proofs.KeyParts.{same_key}
use Rattle.iiif_machine.proofs.Lists.{each_tail}

abbrev Row : Type 0
Row = Key × Kept Value

abbrev AllKept : (Row → Type 0) → Cache Key Value → Type 0
AllKept P c = Each P c.main × Each P c.hot

-- the entries after a change are entries before it, or the one that was put

each_remove : (P : Row → Type 0) (test : Key → Bool) (es : List Row) → Each P es → Each P (remove_entry test es)
each_remove P test [] h = h
each_remove P test (e ∷ es) h = elim (test e.0) as (λ b. Each P (cond b es (e ∷ remove_entry test es))) [
  | true ↦ each_tail P e es h
  | false ↦ each_cons P e (remove_entry test es) (h zero e refl) (each_remove P test es (each_tail P e es h))
]

each_take : (P : Row → Type 0) (n : ℕ) (es : List Row) → Each P es → Each P (take n es)
each_take P zero es h = each_nil P
each_take P (suc n) [] h = each_nil P
each_take P (suc n) (e ∷ es) h = each_cons P e (take n es) (h zero e refl) (each_take P n es (each_tail P e es h))

entry_is : (P : Row → Type 0) (test : Key → Bool) (es : List Row) (e : Row) → Each P es → lookup_entry test es ≡ Some e → P e
entry_is P test [] e h found = absurd (none-some e found)
entry_is P test (x ∷ es) e h found = (elim (test x.0) as (λ b. cond b (Some x) (lookup_entry test es) ≡ Some e → P e) [
  | true ↦ λ f. subst P (same_Some x e f) (h zero x refl)
  | false ↦ λ f. entry_is P test es e (each_tail P x es h) f
]) found

front_by : (P : Row → Type 0) (k : Key) (es : List Row) (x : Option Row) → lookup_entry (key_eq k) es ≡ x → Each P es →
    Each P (option_map_or (λ e. e ∷ remove_entry (key_eq k) es) x es)
front_by P k es None e h = h
front_by P k es (Some x) e h = each_cons P x (remove_entry (key_eq k) es) (entry_is P (key_eq k) es x h e) (each_remove P (key_eq k) es h)

front_kept : (P : Row → Type 0) (k : Key) (es : List Row) → Each P es → Each P (to_front key_eq k es)
front_kept P k es h = front_by P k es (lookup_entry (key_eq k) es) refl h

touch_kept : (P : Row → Type 0) (k : Key) (c : Cache Key Value) → AllKept P c → AllKept P (touch key_eq k c)
unfolding touch
touch_kept P k c h = elim (is_some (lookup (key_eq k) c.main)) as
    (λ b. AllKept P (if b then record c { main = to_front key_eq k c.main } else record c { hot = to_front key_eq k c.hot })) [
      | true ↦ (front_kept P k c.main h.0, h.1)
      | false ↦ (h.0, front_kept P k c.hot h.1)
    ]

without_kept : (P : Row → Type 0) (k : Key) (c : Cache Key Value) → AllKept P c → AllKept P (without key_eq k c)
unfolding without
without_kept P k c h = (each_remove P (key_eq k) c.main h.0, each_remove P (key_eq k) c.hot h.1)

replaced_kept : (P : Row → Type 0) (k : Key) (e : Kept Value) (es : List Row) → P (k, e) → Each P es → Each P (replaced key_eq k e es)
replaced_kept P k e es p h = each_cons P (k, e) (remove_entry (key_eq k) es) p (each_remove P (key_eq k) es h)

added_kept : (P : Row → Type 0) (side : Side) (k : Key) (e : Kept Value) (c : Cache Key Value) → P (k, e) → AllKept P c →
    AllKept P (added_to key_eq k side e c)
added_kept P main_side k e c p h = (each_cons P (k, e) _ p (each_take P (c.room - 1) c.main h.0), h.1)
added_kept P hot_side k e c p h = (h.0, each_cons P (k, e) _ p (each_take P (c.room - 1) c.hot h.1))

placed_kept : (P : Row → Type 0) (side : Side) (k : Key) (e : Kept Value) (c : Cache Key Value) → P (k, e) → AllKept P c →
    AllKept P (placed key_eq k side e c)
unfolding placed
placed_kept P side k e c p h = elim (is_some (lookup (key_eq k) c.main)) as
    (λ b. AllKept P (if b then record c { main = replaced key_eq k e c.main } else if is_some (lookup (key_eq k) c.hot) then record c
    { hot = replaced key_eq k e c.hot } else added_to key_eq k side e c)) [
      | true ↦ (replaced_kept P k e c.main p h.0, h.1)
      | false ↦ elim (is_some (lookup (key_eq k) c.hot)) as
          (λ b. AllKept P (if b then record c { hot = replaced key_eq k e c.hot } else added_to key_eq k side e c)) [
            | true ↦ (h.0, replaced_kept P k e c.hot p h.1)
            | false ↦ added_kept P side k e c p h
          ]
    ]

evict_kept : (P : Row → Type 0) (c : Cache Key Value) → AllKept P c → AllKept P (evict entry_size c)
unfolding evict
evict_kept P c h = elim (hot_is_large entry_size c) as
    (λ b. AllKept P (if b then record c { hot = but_oldest c.hot } else record c { main = but_oldest c.main })) [
      | true ↦ (h.0, each_take P (length c.hot - 1) c.hot h.1)
      | false ↦ (each_take P (length c.main - 1) c.main h.0, h.1)
    ]

evicting_kept : (P : Row → Type 0) (n : ℕ) (c : Cache Key Value) → AllKept P c → AllKept P (evict_at_most entry_size n c)
unfolding evict_at_most
evicting_kept P zero c h = h
evicting_kept P (suc n) c h = elim (nat_lt c.limit _) as
    (λ b. AllKept P (if b then evict_at_most entry_size n (evict entry_size c) else c)) [
      | true ↦ evicting_kept P n (evict entry_size c) (evict_kept P c h)
      | false ↦ h
    ]

put_kept : (P : Row → Type 0) (side : Side) (k : Key) (e : Kept Value) (c : Cache Key Value) → P (k, e) → AllKept P c →
    AllKept P (put entry_size key_eq side k e c)
unfolding put
put_kept P side k e c p h = elim (is_too_big entry_size k e.value c) as
    (λ b. AllKept P (if b then c else shrink entry_size (placed key_eq k side e c))) [
      | true ↦ h
      | false ↦ evicting_kept P _ (placed key_eq k side e c) (placed_kept P side k e c p h)
    ]

storing_kept : (P : Row → Type 0) (place : Place) (peer : ℕ) (k : Key) (e : Kept Value) (c : Cache Key Value) → P (k, e) → AllKept P c →
    AllKept P (tables.storing key_eq entry_size place peer k e c)
storing_kept P Nowhere peer k e c p h = h
storing_kept P Main peer k e c p h = put_kept P main_side k e c p h
storing_kept P Peer peer k e c p h = elim (peer % 10 == 0) as (λ b. AllKept P (if b then put entry_size key_eq hot_side k e c else c)) [
  | true ↦ put_kept P hot_side k e c p h
  | false ↦ h
]

keeping_kept : (P : Row → Type 0) (place : Place) (peer : ℕ) (k : Key) (n : ℕ) (x : Option Value) (c : Cache Key Value) →
    ((v : Value) → x ≡ Some v → P (k, record { value = v; ticket = n })) →
    AllKept P c → AllKept P (tables.keeping key_eq entry_size place peer k n x c)
keeping_kept P place peer k n None c p h = h
keeping_kept P place peer k n (Some v) c p h = storing_kept P place peer k (record { value = v; ticket = n }) c (p v refl) h

-- what holds of all that is kept holds of what the table holds
rows_of : (Q : Key → Value → Type 0) (t : Table) → AllKept (λ e. Q e.0 e.1.value) t.cache → (k : Key) (v : Value) → Holds t k v → Q k v
unfolding Holds
rows_of Q t h k v has = ⊎_elim
    (λ (a : Lists t.cache.main k v). h.0 a.0 (k, record { value = v; ticket = a.1 }) a.2)
    (λ (a : Lists t.cache.hot k v). h.1 a.0 (k, record { value = v; ticket = a.1 }) a.2)
    has

all_held : (t : Table) → AllKept (λ e. Holds t e.0 e.1.value) t.cache
unfolding Holds
all_held t = (λ i x at. inl (i, x.1.ticket, at), λ i x at. inr (i, x.1.ticket, at))

-- what a look-up finds is there

lookup_is : (Q : Key → Value → Type 0) (k : Key) (es : List Row) (e : Kept Value) → Each (λ x. Q x.0 x.1.value) es →
    lookup (key_eq k) es ≡ Some e → Q k e.value
lookup_is Q k [] e h found = absurd (none-some e found)
lookup_is Q k (x ∷ es) e h found = (elim (key_eq k x.0) as
    (λ b. key_eq k x.0 ≡ b → cond b (Some x.1) (lookup (key_eq k) es) ≡ Some e → Q k e.value) [
      | true ↦ λ same f. subst (λ (y : Kept Value). Q k y.value) (same_Some x.1 e f)
          (subst (λ q. Q q x.1.value) (sym (same_key k x.0 same)) (h zero x refl))
      | false ↦ λ same f. lookup_is Q k es e (each_tail _ x es h) f
    ]) refl found

either_is : (Q : Key → Value → Type 0) (k : Key) (c : Cache Key Value) (x : Option (Kept Value)) (e : Kept Value) →
    lookup (key_eq k) c.main ≡ x → AllKept (λ y. Q y.0 y.1.value) c →
    option_or x (lookup (key_eq k) c.hot) ≡ Some e → Q k e.value
either_is Q k c None e is h found = lookup_is Q k c.hot e h.1 found
either_is Q k c (Some y) e is h found = lookup_is Q k c.main e h.0 (is ∙ found)

kept_is : (t : Table) (k : Key) (e : Kept Value) → kept_for key_eq k t.cache ≡ Some e → Holds t k e.value
kept_is t k e found = either_is (Holds t) k t.cache (lookup (key_eq k) t.cache.main) e refl (all_held t) found

-- Enter

found_by : (t : Table) (k : Key) (v : Value) (x : Option (Kept Value)) (f : Option tables.Flight) (n : ℕ) → kept_for key_eq k t.cache ≡ x →
    met (tables.met x f n) ≡ finds v → Holds t k v
found_by t k v (Some e) f n is h = subst (Holds t k) (found_same e.value v h) (kept_is t k e is)
  where
    found_same : (a b : Value) → finds a ≡ finds b → a ≡ b
    found_same a b e = cc
found_by t k v None (Some f) n is h = absurd cc
found_by t k v None None n is h = absurd cc

pub enter_found : (t t' : Table) (k : Key) (c : Class) (v : Value) → enter t k c ≡ (finds v, t') → Holds t k v
unfolding enter tables.enter
enter_found t t' k c v h = found_by t k v (kept_for key_eq k t.cache) (t.flights c k) (t.book.leads + 1) refl
    (ap (λ (x : Entered × Table). x.0) h)

entering_kept : (P : Row → Type 0) (t : Table) (k : Key) (c : Class) (x : tables.Entered Value) → AllKept P t.cache →
    AllKept P (tables.entering key_eq c k x t).cache
entering_kept P t k c (tables.hit e) h = touch_kept P k t.cache h
entering_kept P t k c (tables.joined n) h = h
entering_kept P t k c (tables.led n) h = h

pub enter_holds : (t : Table) (k q : Key) (c : Class) (v : Value) → Holds (enter t k c).1 q v → Holds t q v
unfolding enter tables.enter
enter_holds t k q c v has = rows_of (Holds t) (enter t k c).1
    (entering_kept (λ e. Holds t e.0 e.1.value) t k c (tables.meets key_eq c k t) (all_held t)) q v has

-- Again

looking_kept : (P : Row → Type 0) (t : Table) (k : Key) (c : Class) (n : ℕ) (x : Option (Kept Value)) → AllKept P t.cache →
    AllKept P (tables.looking key_eq c k n x t).1.cache
looking_kept P t k c n None h = h
looking_kept P t k c n (Some e) h = touch_kept P k t.cache h

again_kept : (P : Row → Type 0) (t : Table) (k : Key) (c : Class) (n : ℕ) → AllKept P t.cache → AllKept P (again t k c n).1.cache
unfolding again tables.again
again_kept P t k c n h = elim (tables.has_ticket n (t.flights c k)) as
    (λ b. AllKept P (if b then tables.looking key_eq c k n (kept_for key_eq k t.cache) t else (None, t)).1.cache) [
      | true ↦ looking_kept P t k c n (kept_for key_eq k t.cache) h
      | false ↦ h
    ]

pub again_holds : (t : Table) (k q : Key) (c : Class) (n : ℕ) (v : Value) → Holds (again t k c n).1 q v → Holds t q v
again_holds t k q c n v has = rows_of (Holds t) (again t k c n).1 (again_kept (λ e. Holds t e.0 e.1.value) t k c n (all_held t)) q v has

looking_found : (t : Table) (k : Key) (c : Class) (n : ℕ) (v : Value) (x : Option (Kept Value)) → kept_for key_eq k t.cache ≡ x →
    (tables.looking key_eq c k n x t).0 ≡ Some v → Holds t k v
looking_found t k c n v None is h = absurd (none-some v h)
looking_found t k c n v (Some e) is h = subst (Holds t k) (same_Some e.value v h) (kept_is t k e is)

pub again_found : (t t' : Table) (k : Key) (c : Class) (n : ℕ) (v : Value) → again t k c n ≡ (Some v, t') → Holds t k v
unfolding again tables.again
again_found t t' k c n v h = (elim (tables.has_ticket n (t.flights c k)) as
    (λ b. (if b then tables.looking key_eq c k n (kept_for key_eq k t.cache) t else (None, t)).0 ≡ Some v → Holds t k v) [
      | true ↦ λ f. looking_found t k c n v (kept_for key_eq k t.cache) refl f
      | false ↦ λ f. absurd (none-some v f)
    ]) (ap (λ (x : (Option Value) × Table). x.0) h)

-- Land

valued : (o : Outcome) (v : Value) → value_of o ≡ Some v → o ≡ Ok v
valued (Ok u) v h = ap Ok (same_Some u v h)
valued (Err f) v h = absurd (none-some v h)

pub land_holds : (t : Table) (k q : Key) (c : Class) (n : ℕ) (o : Outcome) (p : Place) (kept : Bool) (v : Value) →
    Holds (land t k c n o p kept) q v → Holds t q v ⊎ ((q ≡ k) × (o ≡ Ok v))
unfolding land tables.land
land_holds t k q c n o p kept v has =
    let Q = λ (x : Key) (u : Value). Holds t x u ⊎ ((x ≡ k) × (o ≡ Ok u)) in
    let P = λ (e : Row). Q e.0 e.1.value in
    let all : AllKept P t.cache = (λ i x at. inl ((all_held t).0 i x at), λ i x at. inl ((all_held t).1 i x at)) in
    let b' = tables.counting (tables.is_found (t.flights c k)) (value_of o) p t.book in
    rows_of Q (land t k c n o p kept) (elim (tables.has_ticket n (t.flights c k)) as
    (λ b. AllKept P (if b then tables.landing key_eq entry_size kept c k n (value_of o) p b' t else t).cache) [
      | true ↦ elim kept as (λ b. AllKept P (if b then tables.keeping key_eq entry_size p b'.peer k n (value_of o) t.cache else t.cache)) [
        | true ↦ keeping_kept P p b'.peer k n (value_of o) t.cache (λ u e. inr (refl, valued o u e)) all
        | false ↦ all
      ]
      | false ↦ all
    ]) q v has

-- Evict, Stop

evicting : (P : Row → Type 0) (ks : List Key) (c : Cache Key Value) → AllKept P c → AllKept P (fold (λ c k. without key_eq k c) c ks)
evicting P [] c h = h
evicting P (k ∷ ks) c h = evicting P ks (without key_eq k c) (without_kept P k c h)

pub evicted_holds : (t : Table) (ks : List Key) (q : Key) (v : Value) → Holds (evicted t ks) q v → Holds t q v
unfolding evicted
evicted_holds t ks q v has = rows_of (Holds t) (evicted t ks) (evicting (λ e. Holds t e.0 e.1.value) ks t.cache (all_held t)) q v has

pub emptied_holds : (t : Table) (q : Key) (v : Value) → ¬ (Holds (emptied t) q v)
unfolding emptied
emptied_holds t q v has = rows_of (λ k u. ⊥) (emptied t) (each_nil _, each_nil _) q v has
