-- No two open flights are of one node, key and class.
use Rattle.std.proofs.Common.{◌≡◌, ℕ, zero, suc, List, [], ◌∷◌, map, length, Bool, true, false, Option, Some, None, Result, Ok, Err, refl}
use Rattle.std.proofs.Common.{sym, ap, subst, ◌∙◌, ⊎_elim, if◌then◌else◌}
use Rattle.std.specs.Prelude.{slice_get, slice_set, position, ◌==◌}
use Rattle.std.proofs.lemmas.Option.{none-some, same_Some}
use Rattle.std.proofs.lemmas.Bool.{eqb-false}
use Rattle.iiif_machine.specs.Keys.{is_tile, parts_of}
use Rattle.iiif_machine.specs.Plans.{resolved}
use Rattle.iiif_machine.specs.Types.{Key, Resolved, Refusal, Picture, ReadFault}
use Rattle.iiif_machine.specs.Worlds.{owner_of}
use Rattle.std.specs.Str.{bytes_eq}
use Rattle.iiif_machine.specs.Tables.{Class, Wide, Local, Table, Outcome, IsOpen, Entered, finds, joins, leads, enter, again, land, emptied}
use Rattle.iiif_machine.proofs.Words.{TableLaws}
use Rattle.iiif_machine.specs.Rows.{Node, Purpose, ForRequest, ForPart, ForFallback, ForAsk, Caller, CallState, Fresh, Hit, In, Gone, Call}
use Rattle.iiif_machine.specs.Rows.{Lead, Stage, New, Looked, Asking, Fallback, Parts, Ready, Ended, Flight, Reply, RequestInfo}
use Rattle.iiif_machine.specs.Worlds.{World, ◌>>=◌, version_shown, version_at, speaker, table_at, put_table, with_node, with_stage}
use Rattle.iiif_machine.specs.Worlds.{with_state, with_flight, with_ask, with_reply, learned, decided, collected, outcome_from}
use Rattle.iiif_machine.specs.Worlds.{settled, known_by}
use Rattle.iiif_machine.specs.Steps.{Want, Enter, Again, AskPeer, Serve, Take, Lose, GoLocal, Load, SourceFault, Land, Evict, Stop}
use Rattle.iiif_machine.specs.Steps.{after_want, is_open, is_open_for, lead_of, after_meeting, after_enter, stage_found, after_again}
use Rattle.iiif_machine.specs.Steps.{after_ask_peer, after_reply, stage_taken, after_take, after_lose, after_go_local, after_begin}
use Rattle.iiif_machine.specs.Steps.{after_load, after_fault, after_land, node_without, stage_stopped, flight_stopped, after_stop, step}
use Rattle.iiif_machine.specs.declared.events.Event.TheVariants as event
use Rattle.iiif_machine.specs.Sound.{IsRegistered, IsSameCall, IsApart}
use Rattle.iiif_machine.specs.Promises.{After}
use Rattle.iiif_machine.specs.Promises.{OneOutcome}
use Rattle.iiif_machine.proofs.Words.{StepsStayApart}
use Rattle.iiif_machine.proofs.Learning.{get_mapped, after_bind}
use Rattle.iiif_machine.proofs.Registers.{set_found, end_cases, OpenFrom, from_same, from_set, from_resumed, apart_by, registered_put}

-- the same flights and nodes
apart_same : (w v : World) → v.flights ≡ w.flights → v.nodes ≡ w.nodes → IsApart w → IsApart v
apart_same w v e d h =
    apart_by w v (subst (λ xs. OpenFrom w.flights xs) (sym e) (from_same w.flights))
    (λ g y at o reg. subst (λ ns. IsRegistered ns y.lead) (sym d) reg) h

-- a stage after another, which was open
apart_stage : (w v : World) (f : ℕ) (l : Lead) (old new : Stage) → slice_get w.flights f ≡ Some (record { lead = l; stage = old }) →
    is_open old ≡ true →
    v.flights ≡ slice_set w.flights f (record { lead = l; stage = new }) → v.nodes ≡ w.nodes → IsApart w → IsApart v
apart_stage w v f l old new at was e d h =
    apart_by w v (subst (λ xs. OpenFrom w.flights xs) (sym e) (from_set w.flights f l old new at was))
    (λ g y there o reg. subst (λ ns. IsRegistered ns y.lead) (sym d) reg) h

apart_settled : (w : World) → IsApart w → IsApart (settled w)
apart_settled w h = apart_by w (settled w) (from_resumed w w.flights) (λ g y at o reg. reg) h

-- another table of a node, in which all open flights are open
apart_table : (w v : World) (i : ℕ) (n : Node) (k : Key) (t : Table) → slice_get w.nodes i ≡ Some n → v.flights ≡ w.flights →
    v.nodes ≡ slice_set w.nodes i (put_table n k t) →
    ((q : Key) (d : Class) (m : ℕ) → IsOpen (table_at n k) q d m → IsOpen t q d m) → IsApart w → IsApart v
apart_table w v i n k t there e d keeps h =
    apart_by w v (subst (λ xs. OpenFrom w.flights xs) (sym e) (from_same w.flights))
    (λ g y at o reg. subst (λ ns. IsRegistered ns y.lead) (sym d)
    (registered_put w.nodes i n k t y.lead there (λ _. keeps y.lead.key y.lead.class y.lead.ticket) reg)) h

-- a new flight, which no open one is like

apart_add : (w : World) (l : Lead) → IsApart w → IsRegistered w.nodes l →
    ((g : ℕ) (y : Flight) → slice_get w.flights g ≡ Some y → is_open y.stage ≡ true → ¬ (IsSameCall y.lead l)) →
    IsApart (with_flight w l)
apart_add w l h reg new =
    let made : Flight = record { lead = l; stage = New } in
    record {
      registered = λ g y at o. ⊎_elim
          (λ (e : (g ≡ length w.flights) × (y ≡ made)). subst (λ (z : Flight). IsRegistered w.nodes z.lead) (sym e.1) reg)
          (λ (e : slice_get w.flights g ≡ Some y). h.registered g y e o)
          (end_cases w.flights g y made at);
      apart = λ f g x y at there o p same. ⊎_elim
          (λ (e : (f ≡ length w.flights) × (x ≡ made)). ⊎_elim
          (λ (d : (g ≡ length w.flights) × (y ≡ made)). e.0 ∙ sym d.0)
          (λ (d : slice_get w.flights g ≡ Some y).
          let s : IsSameCall l y.lead = subst (λ (z : Flight). IsSameCall z.lead y.lead) e.1 same in
          absurd (new g y d p (record { node = sym s.node; key = sym s.key; class = sym s.class })))
          (end_cases w.flights g y made there))
          (λ (e : slice_get w.flights f ≡ Some x). ⊎_elim
          (λ (d : (g ≡ length w.flights) × (y ≡ made)). absurd (new f x e o (subst (λ (z : Flight). IsSameCall x.lead z.lead) d.1 same)))
          (λ (d : slice_get w.flights g ≡ Some y). h.apart f g x y e d o p same)
          (end_cases w.flights g y made there))
          (end_cases w.flights f x made at);
    }

-- Enter

put_registers : (s : Class × ℕ) (n : Node) (t : Table) (k : Key) → IsOpen t k s.0 s.1 → IsOpen (table_at (put_table n k t) k) k s.0 s.1
put_registers s n t k h = put_by n t (is_tile k) h
  where
    put_by : (n : Node) (t : Table) (b : Bool) → IsOpen t k s.0 s.1 →
        IsOpen (if b then (if b then record n { tiles = t } else record n { sums = t }).tiles else
        (if b then record n { tiles = t } else record n { sums = t }).sums) k s.0 s.1
    put_by n t true h = h
    put_by n t false h = h

pub set_there : {A : Type 0} (xs : List A) (i : ℕ) (x y : A) → slice_get xs i ≡ Some x → slice_get (slice_set xs i y) i ≡ Some y
set_there [] i x y h = absurd (none-some x h)
set_there (z ∷ xs) zero x y h = refl
set_there (z ∷ xs) (suc i) x y h = set_there xs i x y h

entered_apart : (w : World) (c : ℕ) (who : Caller) (n : Node) (x : Entered) (t : Table) → TableLaws → IsApart w →
    slice_get w.nodes who.node ≡ Some n → enter (table_at n who.key) who.key who.class ≡ (x, t) →
    After IsApart (after_meeting w c who n (x, t))
entered_apart w c who n x t tables h there e = go x e
  where
    keeps : (x : Entered) → enter (table_at n who.key) who.key who.class ≡ (x, t) → (q : Key) (d : Class) (m : ℕ) →
        IsOpen (table_at n who.key) q d m → IsOpen t q d m
    keeps x e q d m o = subst (λ (p : Entered × Table). IsOpen p.1 q d m) e
        (tables.enter_open (table_at n who.key) who.key q who.class d m o)

    v1 : World
    v1 = with_node w who.node (put_table n who.key t)

    h1 : (x : Entered) → enter (table_at n who.key) who.key who.class ≡ (x, t) → IsApart (with_node w who.node (put_table n who.key t))
    h1 x e = apart_table w (with_node w who.node (put_table n who.key t)) who.node n who.key t there refl refl (keeps x e) h

    go : (x : Entered) → enter (table_at n who.key) who.key who.class ≡ (x, t) → After IsApart (after_meeting w c who n (x, t))
    go (finds v) e =
        let v1 = with_node w who.node (put_table n who.key t) in
        apart_settled (with_state v1 c who (Hit v)) (apart_same v1 (with_state v1 c who (Hit v)) refl refl (h1 (finds v) e))
    go joins e =
        let v1 = with_node w who.node (put_table n who.key t) in
        after_bind IsApart (position (is_open_for who) w.flights) (λ f. Some (with_state v1 c who (In f)))
        (λ f _. apart_same v1 (with_state v1 c who (In f)) refl refl (h1 joins e))
    go (leads m) e =
        let v1 = with_node w who.node (put_table n who.key t) in
        let l = lead_of who m in
        let reg : IsRegistered v1.nodes l = (
          put_table n who.key t,
          set_there w.nodes who.node n (put_table n who.key t) there,
          put_registers (who.class, m) n t who.key (tables.leads_open (table_at n who.key) t who.key who.class m e),
        ) in
        let new = λ (g : ℕ) (y : Flight) (at : slice_get w.flights g ≡ Some y) (o : is_open y.stage ≡ true) (same : IsSameCall y.lead l).
        (let r = h.registered g y at o in
        let node : r.0 ≡ n = same_Some r.0 n (sym r.1 ∙ ap (slice_get w.nodes) same.node ∙ there) in
        let in_n : IsOpen (table_at n y.lead.key) y.lead.key y.lead.class y.lead.ticket =
        subst (λ (m : Node). IsOpen (table_at m y.lead.key) y.lead.key y.lead.class y.lead.ticket) node r.2 in
        let by_key : IsOpen (table_at n who.key) who.key y.lead.class y.lead.ticket =
        subst (λ q. IsOpen (table_at n q) q y.lead.class y.lead.ticket) same.key in_n in
        let by_class : IsOpen (table_at n who.key) who.key who.class y.lead.ticket =
        subst (λ d. IsOpen (table_at n who.key) who.key d y.lead.ticket) same.class by_key in
        tables.leads_new (table_at n who.key) t who.key who.class y.lead.ticket m e by_class) in
        let h2 = apart_add v1 l (h1 (leads m) e) reg new in
        apart_same (with_flight v1 l) (with_state (with_flight v1 l) c who (In (length w.flights))) refl refl h2

entering_apart : (w : World) (c : ℕ) (who : Caller) (n : Node) (x : CallState) → TableLaws → IsApart w →
    slice_get w.nodes who.node ≡ Some n → After IsApart (after_enter w c who n x)
entering_apart w c who n Fresh tables h there =
    let r = enter (table_at n who.key) who.key who.class in
    entered_apart w c who n r.0 r.1 tables h there refl
entering_apart w c who n (Hit v) tables h there = tt
entering_apart w c who n (In f) tables h there = tt
entering_apart w c who n Gone tables h there = tt

-- Again

looking_apart : (w : World) (f : ℕ) (l : Lead) (n : Node) (x : Stage) → TableLaws → IsApart w →
    slice_get w.flights f ≡ Some (record { lead = l; stage = x }) →
    slice_get w.nodes l.node ≡ Some n → After IsApart (after_again w f l n x)
looking_apart w f l n New tables h at there =
    let r = again (table_at n l.key) l.key l.class l.ticket in
    let v1 = with_node w l.node (put_table n l.key r.1) in
    let h1 = apart_table w v1 l.node n l.key r.1 there refl refl
    (λ q d m o. tables.again_open (table_at n l.key) l.key q l.class d l.ticket m o) h in
    apart_stage v1 (with_stage v1 f l (stage_found r.0)) f l New (stage_found r.0) at refl refl refl h1
looking_apart w f l n Looked tables h at there = tt
looking_apart w f l n Asking tables h at there = tt
looking_apart w f l n (Fallback c) tables h at there = tt
looking_apart w f l n (Parts cs) tables h at there = tt
looking_apart w f l n (Ready o p) tables h at there = tt
looking_apart w f l n (Ended o) tables h at there = tt

-- AskPeer, Reply, Take, Lose, GoLocal, Load, SourceFault: no table changes, and only open flights go on

asking_apart : (w : World) (f : ℕ) (l : Lead) (n : Node) (c : Class) (x : Stage) → IsApart w →
    slice_get w.flights f ≡ Some (record { lead = l; stage = x }) → After IsApart (after_ask_peer w f l n c x)
asking_apart w f l n Wide Looked h at =
    after_bind IsApart (position (λ m. bytes_eq m.name (owner_of n l.key)) w.nodes)
    (λ o. Some (with_ask (with_stage w f l Asking) (record { node = o; key = l.key; flight = f; version = version_at w.scene l.key })))
    (λ o _. apart_stage w _ f l Looked Asking at refl refl refl h)
asking_apart w f l n Local x h at = tt
asking_apart w f l n Wide New h at = tt
asking_apart w f l n Wide Asking h at = tt
asking_apart w f l n Wide (Fallback c) h at = tt
asking_apart w f l n Wide (Parts cs) h at = tt
asking_apart w f l n Wide (Ready o p) h at = tt
asking_apart w f l n Wide (Ended o) h at = tt

replying_apart : (w : World) (c : ℕ) (who : Caller) (x : Purpose) → IsApart w → After IsApart (after_reply w c who x)
replying_apart w c who (ForAsk a) h = after_bind IsApart (learned w c) (λ o. Some (with_reply w (record { key = who.key; outcome = o })))
    (λ o _. apart_same w _ refl refl h)
replying_apart w c who (ForRequest r) h = tt
replying_apart w c who (ForPart f) h = tt
replying_apart w c who (ForFallback f) h = tt

taking_apart : (w : World) (f : ℕ) (l : Lead) (r : Reply) (x : Stage) → IsApart w →
    slice_get w.flights f ≡ Some (record { lead = l; stage = x }) → After IsApart (after_take w f l r x)
taking_apart w f l r Asking h at = apart_stage w (with_stage w f l (stage_taken l.key r.key r.outcome)) f l Asking
    (stage_taken l.key r.key r.outcome) at refl refl refl h
taking_apart w f l r (Ended o) h at = h
taking_apart w f l r New h at = tt
taking_apart w f l r Looked h at = tt
taking_apart w f l r (Fallback c) h at = tt
taking_apart w f l r (Parts cs) h at = tt
taking_apart w f l r (Ready o p) h at = tt

losing_apart : (w : World) (f : ℕ) (l : Lead) (x : Stage) → IsApart w → slice_get w.flights f ≡ Some (record { lead = l; stage = x }) →
    After IsApart (after_lose w f l x)
losing_apart w f l Asking h at = apart_stage w (with_stage w f l (Fallback None)) f l Asking (Fallback None) at refl refl refl h
losing_apart w f l x h at = tt

going_local_apart : (w : World) (f : ℕ) (l : Lead) (x : Stage) → IsApart w → slice_get w.flights f ≡ Some (record { lead = l; stage = x }) →
    After IsApart (after_go_local w f l x)
going_local_apart w f l (Fallback None) h at = apart_stage w _ f l (Fallback None) (Fallback (Some (length w.calls))) at refl refl refl h
going_local_apart w f l (Fallback (Some c)) h at = tt
going_local_apart w f l New h at = tt
going_local_apart w f l Looked h at = tt
going_local_apart w f l Asking h at = tt
going_local_apart w f l (Parts cs) h at = tt
going_local_apart w f l (Ready o p) h at = tt
going_local_apart w f l (Ended o) h at = tt

begun_apart : (w : World) (f : ℕ) (l : Lead) (n : Node) (x : Option (List Key)) → IsApart w →
    slice_get w.flights f ≡ Some (record { lead = l; stage = Looked }) → IsApart (after_begin w f l n x)
begun_apart w f l n None h at = apart_stage w (after_begin w f l n None) f l Looked _ at refl refl refl h
begun_apart w f l n (Some ks) h at = apart_stage w (after_begin w f l n (Some ks)) f l Looked _ at refl refl refl h

loading_apart : (w : World) (f : ℕ) (l : Lead) (n : Node) (c : Class) (x : Stage) → IsApart w →
    slice_get w.flights f ≡ Some (record { lead = l; stage = x }) → After IsApart (after_load w f l n c x)
loading_apart w f l n Local Looked h at = begun_apart w f l n (parts_of l.key) h at
loading_apart w f l n Local (Parts cs) h at =
    after_bind IsApart (decided w cs) (λ os. Some (with_stage w f l (Ready (outcome_from w.scene l.key (collected os)) _)))
    (λ os _. apart_stage w _ f l (Parts cs) _ at refl refl refl h)
loading_apart w f l n Wide x h at = tt
loading_apart w f l n Local New h at = tt
loading_apart w f l n Local Asking h at = tt
loading_apart w f l n Local (Fallback c) h at = tt
loading_apart w f l n Local (Ready o p) h at = tt
loading_apart w f l n Local (Ended o) h at = tt

failing_apart : (w : World) (f : ℕ) (l : Lead) (e : ReadFault) (c : Class) (y : Option (List Key)) (x : Stage) → IsApart w →
    slice_get w.flights f ≡ Some (record { lead = l; stage = x }) → After IsApart (after_fault w f l e c y x)
failing_apart w f l e Local None Looked h at = apart_stage w _ f l Looked _ at refl refl refl h
failing_apart w f l e Wide y x h at = tt
failing_apart w f l e Local (Some ks) x h at = tt
failing_apart w f l e Local None New h at = tt
failing_apart w f l e Local None Asking h at = tt
failing_apart w f l e Local None (Fallback c) h at = tt
failing_apart w f l e Local None (Parts cs) h at = tt
failing_apart w f l e Local None (Ready o p) h at = tt
failing_apart w f l e Local None (Ended o) h at = tt

-- Land

landing_apart : (w : World) (f : ℕ) (l : Lead) (n : Node) (kept : Bool) (x : Stage) → TableLaws → IsApart w →
    slice_get w.flights f ≡ Some (record { lead = l; stage = x }) →
    slice_get w.nodes l.node ≡ Some n → After IsApart (after_land w f l n kept x)
landing_apart w f l n kept (Ready o p) tables h at there =
    let t = table_at n l.key in
    let u = land t l.key l.class l.ticket o p kept in
    let v1 = with_stage w f l (Ended (Some o)) in
    let h1 = apart_stage w v1 f l (Ready o p) (Ended (Some o)) at refl refl refl h in
    let v2 = with_stage (with_node w l.node (put_table n l.key u)) f l (Ended (Some o)) in
    let h2 : IsApart v2 = apart_by v1 v2 (from_same v1.flights)
    (λ g y there_y o_y reg.
    let old = from_set w.flights f l (Ready o p) (Ended (Some o)) at refl g y there_y o_y in
    registered_put w.nodes l.node n l.key u y.lead there
    (λ node. tables.land_open t l.key y.lead.key l.class y.lead.class l.ticket y.lead.ticket o p kept
    (λ k c.
    let same : IsSameCall old.0.lead l = subst (λ (z : Lead). IsSameCall z l) (sym old.3)
    (record { node = node; key = sym k; class = sym c }) in
    let is_f : g ≡ f = h.apart g f old.0 (record { lead = l; stage = Ready o p }) old.1 at old.2 refl same in
    not_open w.flights f g l o y at is_f there_y o_y))
    reg) h1 in
    apart_settled v2 h2
  where
    not_open : (xs : List Flight) (f g : ℕ) (l : Lead) (o : Outcome) (y : Flight) {old : Flight} → slice_get xs f ≡ Some old → g ≡ f →
        slice_get (slice_set xs f (record { lead = l; stage = Ended (Some o) })) g ≡ Some y → is_open y.stage ≡ true → ⊥
    not_open xs f g l o y {old} at e there is =
        let made : Flight = record { lead = l; stage = Ended (Some o) } in
        let here = set_there xs f old made at in
        let same : made ≡ y = same_Some made y (sym here ∙ ap (slice_get (slice_set xs f made)) (sym e) ∙ there) in
        let closed : is_open y.stage ≡ false = ap (λ (z : Flight). is_open z.stage) (sym same) in
        cc
landing_apart w f l n kept New tables h at there = tt
landing_apart w f l n kept Looked tables h at there = tt
landing_apart w f l n kept Asking tables h at there = tt
landing_apart w f l n kept (Fallback c) tables h at there = tt
landing_apart w f l n kept (Parts cs) tables h at there = tt
landing_apart w f l n kept (Ended o) tables h at there = tt

-- Evict

evicted_apart : (w : World) (i : ℕ) (n : Node) (ks : List Key) → TableLaws → IsApart w → slice_get w.nodes i ≡ Some n →
    IsApart (with_node w i (node_without n ks))
evicted_apart w i n ks tables h there =
    apart_by w (with_node w i (node_without n ks)) (from_same w.flights) (λ g y at o reg.
    ⊎_elim
    (λ (e : (y.lead.node ≡ i) × (slice_get (slice_set w.nodes i (node_without n ks)) y.lead.node ≡ Some (node_without n ks))).
    let same : reg.0 ≡ n = same_Some reg.0 n (sym reg.1 ∙ ap (slice_get w.nodes) e.0 ∙ there) in
    let open_in : IsOpen (table_at n y.lead.key) y.lead.key y.lead.class y.lead.ticket =
    subst (λ (m : Node). IsOpen (table_at m y.lead.key) y.lead.key y.lead.class y.lead.ticket) same reg.2 in
    (node_without n ks, e.1, lost_by n ks (is_tile y.lead.key) y.lead tables open_in))
    (λ (e : slice_get (slice_set w.nodes i (node_without n ks)) y.lead.node ≡ Some reg.0). (reg.0, e, reg.2))
    (set_found w.nodes i y.lead.node reg.0 (node_without n ks) reg.1)) h
  where
    lost_by : (n : Node) (ks : List Key) (b : Bool) (l : Lead) → TableLaws → IsOpen (if b then n.tiles else n.sums) l.key l.class l.ticket →
        IsOpen (if b then (node_without n ks).tiles else (node_without n ks).sums) l.key l.class l.ticket
    lost_by n ks true l tables o = tables.evicted_open n.tiles ks l.key l.class l.ticket o
    lost_by n ks false l tables o = tables.evicted_open n.sums ks l.key l.class l.ticket o

-- Stop

ended_closed : (x : Stage) → is_open (stage_stopped x) ≡ true → ⊥
ended_closed (Ended o) h = cc
ended_closed New h = cc
ended_closed Looked h = cc
ended_closed Asking h = cc
ended_closed (Fallback c) h = cc
ended_closed (Parts cs) h = cc
ended_closed (Ready o p) h = cc

-- an open flight is of another node
halted_cases : (x : Flight) (b : Bool) → is_open (if b then record { lead = x.lead; stage = stage_stopped x.stage } else x).stage ≡ true →
    (b ≡ false) × ((if b then record { lead = x.lead; stage = stage_stopped x.stage } else x) ≡ x)
halted_cases x true h = absurd (ended_closed x.stage h)
halted_cases x false h = (refl, refl)

from_halted : (i : ℕ) (xs : List Flight) (g : ℕ) (y : Flight) → slice_get (map (flight_stopped i) xs) g ≡ Some y → is_open y.stage ≡ true →
    (slice_get xs g ≡ Some y) × ((y.lead.node == i) ≡ false)
from_halted i xs g y at o =
    let x = get_mapped (flight_stopped i) xs g y at in
    let is = halted_cases x.0 (x.0.lead.node == i) (subst (λ (z : Flight). is_open z.stage ≡ true) (sym x.2) o) in
    let same : y ≡ x.0 = sym x.2 ∙ is.1 in
    (x.1 ∙ ap Some (sym same), subst (λ (z : Flight). (z.lead.node == i) ≡ false) (sym same) is.0)

stopped_apart : (w : World) (i : ℕ) (n : Node) → IsApart w → IsApart (after_stop w i n)
stopped_apart w i n h =
    let empty : Node = record n { tiles = emptied n.tiles; sums = emptied n.sums } in
    apart_by w (after_stop w i n)
    (λ g y at o. (let x = from_halted i w.flights g y at o in (y, x.0, o, refl)))
    (λ g y at o reg.
    let x = from_halted i w.flights g y at o in
    ⊎_elim
    (λ (e : (y.lead.node ≡ i) × (slice_get (slice_set w.nodes i empty) y.lead.node ≡ Some empty)). absurd (eqb-false y.lead.node i x.1 e.0))
    (λ (e : slice_get (slice_set w.nodes i empty) y.lead.node ≡ Some reg.0). (reg.0, e, reg.2))
    (set_found w.nodes i y.lead.node reg.0 empty reg.1)) h

wanted_apart : (w : World) (n : Node) (p : Picture) (q : RequestInfo) (x : Result Resolved Refusal) → IsApart w →
    IsApart (after_want w n p q x)
wanted_apart w n p q (Err e) h = apart_same w _ refl refl h
wanted_apart w n p q (Ok r) h = apart_same w _ refl refl h

pub step_apart : StepsStayApart
unfolding step
step_apart w (Want node name request) laws tables h =
    after_bind IsApart (slice_get w.nodes node) _
    (λ n at. after_bind IsApart (w.scene.shows name) _ (λ p shown. after_bind IsApart (speaker n (version_shown p)) _ (λ m speaks.
    wanted_apart w n p (record { node = node; name = name; request = request }) (resolved w.scene p request) h)))
step_apart w (Enter c) laws tables h =
    after_bind IsApart (slice_get w.calls c) _
    (λ call at. after_bind IsApart (slice_get w.nodes call.caller.node) _
    (λ n there. entering_apart w c call.caller n call.state tables h there))
step_apart w (Again f) laws tables h =
    after_bind IsApart (slice_get w.flights f) _
    (λ fl at. after_bind IsApart (slice_get w.nodes fl.lead.node) _ (λ n there. looking_apart w f fl.lead n fl.stage tables h at there))
step_apart w (AskPeer f) laws tables h =
    after_bind IsApart (slice_get w.flights f) _
    (λ fl at. after_bind IsApart (slice_get w.nodes fl.lead.node) _ (λ n there. asking_apart w f fl.lead n fl.lead.class fl.stage h at))
step_apart w (Serve a) laws tables h = after_bind IsApart (slice_get w.asks a) _
    (λ q at. after_bind IsApart (slice_get w.nodes q.node) _
    (λ n there. after_bind IsApart (speaker n q.version) _ (λ m speaks. apart_same w _ refl refl h)))
step_apart w (event.Reply c) laws tables h = after_bind IsApart (slice_get w.calls c) _
    (λ call at. replying_apart w c call.caller call.caller.purpose h)
step_apart w (Take f r) laws tables h =
    after_bind IsApart (slice_get w.flights f) _
    (λ fl at. after_bind IsApart (slice_get w.replies r) _ (λ reply there. taking_apart w f fl.lead reply fl.stage h at))
step_apart w (Lose f) laws tables h = after_bind IsApart (slice_get w.flights f) _ (λ fl at. losing_apart w f fl.lead fl.stage h at)
step_apart w (GoLocal f) laws tables h = after_bind IsApart (slice_get w.flights f) _ (λ fl at. going_local_apart w f fl.lead fl.stage h at)
step_apart w (Load f) laws tables h =
    after_bind IsApart (slice_get w.flights f) _
    (λ fl at. after_bind IsApart (slice_get w.nodes fl.lead.node) _
    (λ n there. loading_apart w f fl.lead n fl.lead.class fl.stage h at))
step_apart w (SourceFault f e) laws tables h =
    after_bind IsApart (slice_get w.flights f) _ (λ fl at. failing_apart w f fl.lead e fl.lead.class (parts_of fl.lead.key) fl.stage h at)
step_apart w (Land f kept) laws tables h =
    after_bind IsApart (slice_get w.flights f) _
    (λ fl at. after_bind IsApart (slice_get w.nodes fl.lead.node) _
    (λ n there. landing_apart w f fl.lead n kept fl.stage tables h at there))
step_apart w (Evict node keys) laws tables h =
    after_bind IsApart (slice_get w.nodes node) _ (λ n at. evicted_apart w node n keys.items tables h at)
step_apart w (Stop node) laws tables h = after_bind IsApart (slice_get w.nodes node) _ (λ n at. stopped_apart w node n h)

pub one_outcome : OneOutcome
one_outcome w c d f who that at there =
    ap (λ (x : Option Call). x >>= (λ call. known_by w.flights call.state)) at
    ∙ ap (λ (x : Option Call). x >>= (λ call. known_by w.flights call.state)) (sym there)
