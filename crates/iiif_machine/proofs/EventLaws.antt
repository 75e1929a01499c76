-- What single events change, and what they leave.
use Rattle.std.proofs.Common.{◌≡◌, ℕ, List, [], ◌∷◌, ◌++◌, map, Bool, true, false, Some, None, Ok, Err, refl, sym, ap, subst, ◌∙◌, ⊎_elim}
use Rattle.std.proofs.Common.{if◌then◌else◌}
use Rattle.std.specs.Prelude.{slice_get, slice_set, ◌==◌}
use Rattle.std.proofs.lemmas.Option.{none-some, same_Some}
use Rattle.std.proofs.lemmas.Bool.{eqb-false}
use Rattle.iiif_tables.specs.Cache.{Cache}
use Rattle.iiif_tables.specs.Flights as tables
use Rattle.iiif_machine.specs.Keys.{is_tile, key_eq}
use Rattle.iiif_machine.specs.Types.{Key, Value, ReadFault, Resolved}
use Rattle.iiif_machine.specs.Tables.{Class, Table, Outcome, Place, Peer, land, emptied, Holds}
use Rattle.iiif_machine.specs.Rows.{Node, Call, Lead, Stage, New, Looked, Asking, Fallback, Parts, Ready, Ended, Flight, Reply, Progress}
use Rattle.iiif_machine.specs.Rows.{Waiting, Answered, Dropped, RequestRow, Gone}
use Rattle.iiif_machine.specs.Worlds.{World, table_at, put_table, or_fault, collected}
use Rattle.iiif_machine.specs.Steps.{is_open, stage_taken, after_take, after_land, stage_stopped, flight_stopped, call_stopped}
use Rattle.iiif_machine.specs.Steps.{progress_stopped, request_stopped, after_stop, step}
use Rattle.iiif_machine.specs.Promises.{FirstFaultCounts, NotKeptStays, NoFaultIsTaken, HasStopped, StopTakesAll, caches}
use Rattle.iiif_machine.proofs.Lists.{map_set}
use Rattle.iiif_machine.proofs.Learning.{bind_inv, get_mapped}
use Rattle.iiif_machine.proofs.Registers.{set_cases}
use Rattle.iiif_machine.proofs.Apart.{set_there}
use Rattle.iiif_machine.proofs.Tabled.{emptied_holds}

values_count : (values : List Value) → collected (map (λ v. Ok v) values) ≡ Ok values
values_count [] = refl
values_count (v ∷ values) = ap (or_fault (Ok v)) (values_count values)

fault_counts : (values : List Value) (f : ReadFault) (rest : List Outcome) → collected (map (λ v. Ok v) values ++ Err f ∷ rest) ≡ Err f
fault_counts [] f rest = refl
fault_counts (v ∷ values) f rest = ap (or_fault (Ok v)) (fault_counts values f rest)

pub first_fault_counts : FirstFaultCounts
first_fault_counts values = (values_count values, fault_counts values)

-- Land

abbrev caches_of : Node → Cache Key Value × Cache Key Value
caches_of n = (n.tiles.cache, n.sums.cache)

land_leaves : (t : Table) (k : Key) (c : Class) (m : ℕ) (o : Outcome) (p : Place) → (land t k c m o p false).cache ≡ t.cache
unfolding land tables.land
land_leaves t k c m o p = by (tables.has_ticket m (t.flights c k)) t _ refl
  where
    by : (b : Bool) (t u : Table) → u.cache ≡ t.cache → (if b then u else t).cache ≡ t.cache
    by true t u e = e
    by false t u e = refl

put_leaves : (n : Node) (t : Table) (b : Bool) → t.cache ≡ (if b then n.tiles else n.sums).cache →
    caches_of (if b then record n { tiles = t } else record n { sums = t }) ≡ caches_of n
put_leaves n t true e = ap (λ (c : Cache Key Value). (c, n.sums.cache)) e
put_leaves n t false e = ap (λ (c : Cache Key Value). (n.tiles.cache, c)) e

landing_leaves : (w v : World) (f : ℕ) (l : Lead) (n : Node) (s : Stage) → slice_get w.nodes l.node ≡ Some n →
    after_land w f l n false s ≡ Some v → caches v ≡ caches w
landing_leaves w v f l n (Ready o p) at h =
    let t = land (table_at n l.key) l.key l.class l.ticket o p false in
    ap caches (sym (same_Some _ v h))
    ∙ map_set caches_of w.nodes l.node n (put_table n l.key t) at
    (put_leaves n t (is_tile l.key) (land_leaves (table_at n l.key) l.key l.class l.ticket o p))
landing_leaves w v f l n New at h = absurd (none-some v h)
landing_leaves w v f l n Looked at h = absurd (none-some v h)
landing_leaves w v f l n Asking at h = absurd (none-some v h)
landing_leaves w v f l n (Fallback c) at h = absurd (none-some v h)
landing_leaves w v f l n (Parts cs) at h = absurd (none-some v h)
landing_leaves w v f l n (Ended o) at h = absurd (none-some v h)

pub not_kept_stays : NotKeptStays
unfolding step
not_kept_stays w v f h =
    let fl = bind_inv (slice_get w.flights f) _ v h in
    let n = bind_inv (slice_get w.nodes fl.0.lead.node) _ v fl.2 in
    landing_leaves w v f fl.0.lead n.0 fl.0.stage n.1 n.2

-- Take

abbrev failed : Lead → ReadFault → Place → Flight
failed l e p = record { lead = l; stage = Ready (Err e) p }

-- a flight that goes on alone has no fault yet
alone_has_none : (e : ReadFault) (p : Place) → Fallback None ≡ Ready (Err e) p → ⊥
alone_has_none e p h = cc

no_fault : (k q : Key) (o : Outcome) (e : ReadFault) (p : Place) → stage_taken k q o ≡ Ready (Err e) p → ⊥
no_fault k q (Err f) e p h = alone_has_none e p h
no_fault k q (Ok v) e p h = by (key_eq q k) h
  where
    by : (b : Bool) → (if b then Ready (Ok v) Peer else Fallback None) ≡ Ready (Err e) p → ⊥
    by true h = cc
    by false h = alone_has_none e p h

taking_gives : (w v : World) (f g : ℕ) (m : Lead) (r : Reply) (s : Stage) (l : Lead) (e : ReadFault) (p : Place) →
    after_take w f m r s ≡ Some v →
    slice_get v.flights g ≡ Some (failed l e p) → slice_get w.flights g ≡ Some (failed l e p)
taking_gives w v f g m r Asking l e p h at =
    let new : Flight = record { lead = m; stage = stage_taken m.key r.key r.outcome } in
    let there : slice_get (slice_set w.flights f new) g ≡ Some (failed l e p) =
    ap (λ (x : World). slice_get x.flights g) (same_Some _ v h) ∙ at in
    ⊎_elim
    (λ (x : (g ≡ f) × (failed l e p ≡ new)). absurd (no_fault m.key r.key r.outcome e p (ap (λ (z : Flight). z.stage) (sym x.1))))
    (λ (x : slice_get w.flights g ≡ Some (failed l e p)). x)
    (set_cases w.flights f g (failed l e p) new there)
taking_gives w v f g m r (Ended o) l e p h at = ap (λ (x : World). slice_get x.flights g) (same_Some w v h) ∙ at
taking_gives w v f g m r New l e p h at = absurd (none-some v h)
taking_gives w v f g m r Looked l e p h at = absurd (none-some v h)
taking_gives w v f g m r (Fallback c) l e p h at = absurd (none-some v h)
taking_gives w v f g m r (Parts cs) l e p h at = absurd (none-some v h)
taking_gives w v f g m r (Ready o q) l e p h at = absurd (none-some v h)

pub no_fault_is_taken : NoFaultIsTaken
unfolding step
no_fault_is_taken w v f r g l e p h at =
    let fl = bind_inv (slice_get w.flights f) _ v h in
    let reply = bind_inv (slice_get w.replies r) _ v fl.2 in
    taking_gives w v f g fl.0.lead reply.0 fl.0.stage l e p reply.2 at

-- Stop

closed : (s : Stage) → is_open (stage_stopped s) ≡ false
closed (Ended o) = refl
closed New = refl
closed Looked = refl
closed Asking = refl
closed (Fallback c) = refl
closed (Parts cs) = refl
closed (Ready o p) = refl

not_waiting : (x : Progress) (r : Resolved) (cs : List ℕ) → progress_stopped x ≡ Waiting r cs → ⊥
not_waiting (Waiting s ds) r cs h = cc
not_waiting (Answered a) r cs h = cc
not_waiting Dropped r cs h = cc

-- the row of this node is changed, and another's isn't of this node
call_by : (i : ℕ) (c : Call) (b : Bool) → (c.caller.node == i) ≡ b →
    (if b then record { caller = c.caller; state = Gone } else c).caller.node ≡ i →
    (if b then record { caller = c.caller; state = Gone } else c).state ≡ Gone
call_by i c true e own = refl
call_by i c false e own = absurd (eqb-false c.caller.node i e own)

flight_by : (i : ℕ) (fl : Flight) (b : Bool) → (fl.lead.node == i) ≡ b →
    (if b then record { lead = fl.lead; stage = stage_stopped fl.stage } else fl).lead.node ≡ i →
    is_open (if b then record { lead = fl.lead; stage = stage_stopped fl.stage } else fl).stage ≡ false
flight_by i fl true e own = closed fl.stage
flight_by i fl false e own = absurd (eqb-false fl.lead.node i e own)

request_by : (i : ℕ) (q : RequestRow) (b : Bool) (r : Resolved) (cs : List ℕ) → (q.info.node == i) ≡ b →
    (if b then record { info = q.info; progress = progress_stopped q.progress } else q).info.node ≡ i →
    (if b then record { info = q.info; progress = progress_stopped q.progress } else q).progress ≡ Waiting r cs → ⊥
request_by i q true r cs e own h = not_waiting q.progress r cs h
request_by i q false r cs e own h = absurd (eqb-false q.info.node i e own)

here : {A : Type 0} (xs : List A) (i : ℕ) (x y n : A) → slice_get xs i ≡ Some x → slice_get (slice_set xs i y) i ≡ Some n → y ≡ n
here xs i x y n at h = same_Some y n (sym (set_there xs i x y at) ∙ h)

has_stopped : (w : World) (i : ℕ) (n : Node) → slice_get w.nodes i ≡ Some n → HasStopped i (after_stop w i n)
has_stopped w i n at = record {
  calls = λ j c there own.
      let old = get_mapped (call_stopped i) w.calls j c there in
      subst (λ (x : Call). x.state ≡ Gone) old.2
      (call_by i old.0 (old.0.caller.node == i) refl (subst (λ (x : Call). x.caller.node ≡ i) (sym old.2) own));
  flights = λ j fl there own.
      let old = get_mapped (flight_stopped i) w.flights j fl there in
      subst (λ (x : Flight). is_open x.stage ≡ false) old.2
      (flight_by i old.0 (old.0.lead.node == i) refl (subst (λ (x : Flight). x.lead.node ≡ i) (sym old.2) own));
  requests = λ j q there own r cs h.
      let old = get_mapped (request_stopped i) w.requests j q there in
      request_by i old.0 (old.0.info.node == i) r cs refl (subst (λ (x : RequestRow). x.info.node ≡ i) (sym old.2) own)
      (subst (λ (x : RequestRow). x.progress ≡ Waiting r cs) (sym old.2) h);
  tables = λ m k v there.
      let same = here w.nodes i n (record n { tiles = emptied n.tiles; sums = emptied n.sums }) m at there in (
        λ h. emptied_holds n.tiles k v (subst (λ (x : Node). Holds x.tiles k v) (sym same) h),
        λ h. emptied_holds n.sums k v (subst (λ (x : Node). Holds x.sums k v) (sym same) h),
      );
}

pub stop_takes_all : StopTakesAll
unfolding step
stop_takes_all w v i h =
    let n = bind_inv (slice_get w.nodes i) _ v h in
    subst (HasStopped i) (same_Some _ v n.2) (has_stopped w i n.0 n.1)
