-- Which flights stand in the tables of nodes.
use Rattle.std.proofs.Common.{◌≡◌, ℕ, zero, suc, List, [], ◌∷◌, ◌++◌, map, length, Bool, true, false, Some, ◌⊎◌, inl, inr, refl, sym, ap}
use Rattle.std.proofs.Common.{subst, ◌∙◌, ⊎_elim, if◌then◌else◌}
use Rattle.std.specs.Prelude.{slice_get, slice_set}
use Rattle.std.proofs.lemmas.Option.{none-some, same_Some}
use Rattle.iiif_machine.specs.Keys.{is_tile}
use Rattle.iiif_machine.specs.Types.{Key}
use Rattle.iiif_machine.specs.Tables.{Table, IsOpen}
use Rattle.iiif_machine.specs.Rows.{Node, Lead, Flight, Stage, New, Looked, Asking, Fallback, Parts, Ready, Ended}
use Rattle.iiif_machine.specs.Worlds.{World, table_at, put_table, resumed, resumed_stage}
use Rattle.iiif_machine.specs.Steps.{is_open}
use Rattle.iiif_machine.specs.Sound.{IsRegistered, IsSameCall, IsApart}
use Rattle.iiif_machine.proofs.Learning.{get_mapped}

-- what stands in a list after one is replaced
pub set_cases : {A : Type 0} (xs : List A) (i j : ℕ) (x y : A) → slice_get (slice_set xs i y) j ≡ Some x → ((j ≡ i) × (x ≡ y)) ⊎
    (slice_get xs j ≡ Some x)
set_cases [] i j x y h = absurd (none-some x h)
set_cases (z ∷ xs) zero zero x y h = inl (refl, sym (same_Some y x h))
set_cases (z ∷ xs) zero (suc j) x y h = inr h
set_cases (z ∷ xs) (suc i) zero x y h = inr h
set_cases (z ∷ xs) (suc i) (suc j) x y h = ⊎_elim (λ (e : (j ≡ i) × (x ≡ y)). inl (ap suc e.0, e.1))
    (λ (e : slice_get xs j ≡ Some x). inr e) (set_cases xs i j x y h)

pub set_found : {A : Type 0} (xs : List A) (i j : ℕ) (x y : A) → slice_get xs j ≡ Some x →
    ((j ≡ i) × (slice_get (slice_set xs i y) j ≡ Some y)) ⊎ (slice_get (slice_set xs i y) j ≡ Some x)
set_found [] i j x y h = absurd (none-some x h)
set_found (z ∷ xs) zero zero x y h = inl (refl, refl)
set_found (z ∷ xs) zero (suc j) x y h = inr h
set_found (z ∷ xs) (suc i) zero x y h = inr h
set_found (z ∷ xs) (suc i) (suc j) x y h =
    ⊎_elim (λ (e : (j ≡ i) × (slice_get (slice_set xs i y) j ≡ Some y)). inl (ap suc e.0, e.1))
    (λ (e : slice_get (slice_set xs i y) j ≡ Some x). inr e) (set_found xs i j x y h)

pub end_cases : {A : Type 0} (xs : List A) (j : ℕ) (x y : A) → slice_get (xs ++ y ∷ []) j ≡ Some x → ((j ≡ length xs) × (x ≡ y)) ⊎
    (slice_get xs j ≡ Some x)
end_cases [] zero x y h = inl (refl, sym (same_Some y x h))
end_cases [] (suc j) x y h = absurd (none-some x h)
end_cases (z ∷ xs) zero x y h = inr h
end_cases (z ∷ xs) (suc j) x y h = ⊎_elim (λ (e : (j ≡ length xs) × (x ≡ y)). inl (ap suc e.0, e.1))
    (λ (e : slice_get xs j ≡ Some x). inr e) (end_cases xs j x y h)

-- an open flight of ys was an open flight of xs
abbrev pub OpenFrom : List Flight → List Flight → Type 0
OpenFrom xs ys = (g : ℕ) (y : Flight) → slice_get ys g ≡ Some y → is_open y.stage ≡ true →
    (x : Flight) × (slice_get xs g ≡ Some x) × (is_open x.stage ≡ true) × (x.lead ≡ y.lead)

pub from_same : (xs : List Flight) → OpenFrom xs xs
from_same xs g y at o = (y, at, o, refl)

pub from_set : (xs : List Flight) (f : ℕ) (l : Lead) (old new : Stage) → slice_get xs f ≡ Some (record { lead = l; stage = old }) →
    is_open old ≡ true →
    OpenFrom xs (slice_set xs f (record { lead = l; stage = new }))
from_set xs f l old new there was g y at o =
    ⊎_elim
    (λ (e : (g ≡ f) × (y ≡ record { lead = l; stage = new })).
    (record { lead = l; stage = old }, ap (slice_get xs) e.0 ∙ there, was, sym (ap (λ (z : Flight). z.lead) e.1)))
    (λ (e : slice_get xs g ≡ Some y). (y, e, o, refl))
    (set_cases xs f g y (record { lead = l; stage = new }) at)

was_open : (w : World) (x : Stage) → is_open (resumed_stage w x) ≡ true → is_open x ≡ true
was_open w New o = refl
was_open w Looked o = refl
was_open w Asking o = refl
was_open w (Fallback c) o = refl
was_open w (Parts cs) o = refl
was_open w (Ready x p) o = refl
was_open w (Ended x) o = o

pub from_resumed : (w : World) (xs : List Flight) → OpenFrom xs (map (resumed w) xs)
from_resumed w xs g y at o =
    let x = get_mapped (resumed w) xs g y at in
    (x.0, x.1, was_open w x.0.stage (subst (λ (z : Flight). is_open z.stage ≡ true) (sym x.2) o), ap (λ (z : Flight). z.lead) x.2)

same_call_by : (a b c d : Lead) → c ≡ a → d ≡ b → IsSameCall a b → IsSameCall c d
same_call_by a b c d e f h = subst (λ x. IsSameCall x d) (sym e) (subst (λ x. IsSameCall a x) (sym f) h)

pub apart_by : (w v : World) → OpenFrom w.flights v.flights →
    ((g : ℕ) (y : Flight) → slice_get v.flights g ≡ Some y → is_open y.stage ≡ true → IsRegistered w.nodes y.lead →
    IsRegistered v.nodes y.lead) → IsApart w → IsApart v
apart_by w v from regs h = record {
  registered = λ g y at o.
      let x = from g y at o in
      regs g y at o (subst (IsRegistered w.nodes) x.3 (h.registered g x.0 x.1 x.2));
  apart = λ f g y z at there o p same.
      let x = from f y at o in
      let u = from g z there p in
      h.apart f g x.0 u.0 x.1 u.1 x.2 u.2 (same_call_by y.lead z.lead x.0.lead u.0.lead x.3 u.3 same);
}

put_at : (n : Node) (t : Table) (b c : Bool) (P : Table → Type 0) → (P (if b then n.tiles else n.sums) → P t) →
    P (if c then n.tiles else n.sums) →
    P (if c then (if b then record n { tiles = t } else record n { sums = t }).tiles else
    (if b then record n { tiles = t } else record n { sums = t }).sums)
put_at n t true true P f h = f h
put_at n t true false P f h = h
put_at n t false true P f h = h
put_at n t false false P f h = f h

-- a table is put back in which this flight is open if it was
pub registered_put : (nodes : List Node) (i : ℕ) (n : Node) (k : Key) (t : Table) (l : Lead) → slice_get nodes i ≡ Some n →
    (l.node ≡ i → IsOpen (table_at n k) l.key l.class l.ticket → IsOpen t l.key l.class l.ticket) →
    IsRegistered nodes l → IsRegistered (slice_set nodes i (put_table n k t)) l
registered_put nodes i n k t l there keeps reg =
    ⊎_elim
    (λ (e : (l.node ≡ i) × (slice_get (slice_set nodes i (put_table n k t)) l.node ≡ Some (put_table n k t))).
    let same : reg.0 ≡ n = same_Some reg.0 n (sym reg.1 ∙ ap (slice_get nodes) e.0 ∙ there) in
    let open_in : IsOpen (table_at n l.key) l.key l.class l.ticket =
    subst (λ (m : Node). IsOpen (table_at m l.key) l.key l.class l.ticket) same reg.2 in
    (put_table n k t, e.1, put_at n t (is_tile k) (is_tile l.key) (λ u. IsOpen u l.key l.class l.ticket) (keeps e.0) open_in))
    (λ (e : slice_get (slice_set nodes i (put_table n k t)) l.node ≡ Some reg.0). (reg.0, e, reg.2))
    (set_found nodes i l.node reg.0 (put_table n k t) reg.1)
