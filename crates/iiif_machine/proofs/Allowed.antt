-- An event is allowed exactly where the table of events says so.
use Rattle.std.proofs.Common.{◌≡◌, ℕ, List, ◌⊎◌, inl, inr, Option, Some, None, refl, ap, subst, ◌∙◌, ⊎_elim}
use Rattle.std.specs.Prelude.{Bool, true, false, ◌≤◌, nat_lt, if◌then◌else◌, slice_get, position}
use Rattle.std.specs.Str.{bytes_eq}
use Rattle.std.proofs.lemmas.Option.{none-some}
use Rattle.std.proofs.lemmas.Bool.{ltb-false, le-ltb}
use Rattle.iiif_machine.specs.Keys.{parts_of}
use Rattle.iiif_machine.proofs.Lists.{get_map}
use Rattle.iiif_machine.specs.Types.{Key, ReadFault}
use Rattle.iiif_machine.specs.Tables.{Class, Wide, Local, Outcome, Place, enter}
use Rattle.iiif_machine.specs.Rows.{Node, Purpose, ForRequest, ForPart, ForFallback, ForAsk, Caller, CallState, Fresh, Hit, In, Gone, Call}
use Rattle.iiif_machine.specs.Rows.{Lead, Stage, New, Looked, Asking, Fallback, Parts, Ready, Ended, Flight, Reply}
use Rattle.iiif_machine.specs.Worlds.{World, ◌>>=◌, version_shown, version_at, speaker, owner_of, table_at, with_stage, with_ask}
use Rattle.iiif_machine.specs.Worlds.{with_reply, learned, decided, collected, outcome_from}
use Rattle.iiif_machine.specs.Steps.{Event, Want, Enter, Again, AskPeer, Serve, Take, Lose, GoLocal, Load, SourceFault, Land, Evict, Stop}
use Rattle.iiif_machine.specs.Steps.{after_enter, after_again, after_ask_peer, after_reply, after_take, after_lose, after_go_local}
use Rattle.iiif_machine.specs.Steps.{after_load, after_fault, after_land, step}
use Rattle.iiif_machine.specs.declared.events.Event.TheVariants as event
use Rattle.iiif_machine.specs.Sound.{caller_of, lead_in, card_of, cards, IsThere, IsSound}
use Rattle.iiif_machine.specs.Promises.{IsAt, IsOfClassAt, IsAllowed, AllowedExactly}
use Rattle.iiif_machine.proofs.Learning.{bind_inv, get_mapped}
use Rattle.iiif_machine.proofs.Listed.{entered_there}
use Rattle.iiif_machine.proofs.RingOwners.{owner_there}

abbrev Goes : Option World → Type 0
Goes x = (v : World) × (x ≡ Some v)

goes : {A : Type 0} (x : Option A) (f : A → Option World) (a : A) → x ≡ Some a → Goes (f a) → Goes (x >>= f)
goes x f a e h = (h.0, ap (λ y. y >>= f) e ∙ h.1)

no_world : (v : World) {P : Type 0} → None ≡ Some v → P
no_world v h = absurd (none-some v h)

node_there : (w : World) (i : ℕ) → IsThere (cards w) i → (n : Node) × (slice_get w.nodes i ≡ Some n)
node_there w i h = let n = get_mapped card_of w.nodes i h.0 h.1 in (n.0, n.1)

lead_node : (w : World) (f : ℕ) (fl : Flight) → IsSound w → slice_get w.flights f ≡ Some fl → (n : Node) ×
    (slice_get w.nodes fl.lead.node ≡ Some n)
lead_node w f fl h at = node_there w fl.lead.node (h.placed.leads f fl.lead (get_map lead_in w.flights f fl at))

call_node : (w : World) (c : ℕ) (call : Call) → IsSound w → slice_get w.calls c ≡ Some call → (n : Node) ×
    (slice_get w.nodes call.caller.node ≡ Some n)
call_node w c call h at = node_there w call.caller.node (h.placed.callers c call.caller (get_map caller_of w.calls c call at))

-- a node speaks the versions up to its own, and no other

speaks : (n : Node) (v : ℕ) → v ≤ n.version → speaker n v ≡ Some n
speaks n v h = ap (λ b. if b then None else Some n) (le-ltb n.version v h)

only_speakers : (n m : Node) (v : ℕ) → speaker n v ≡ Some m → v ≤ n.version
only_speakers n m v h = by (nat_lt n.version v) refl h
  where
    by : (b : Bool) → nat_lt n.version v ≡ b → (if b then None else Some n) ≡ Some m → v ≤ n.version
    by true e h = absurd (none-some m h)
    by false e h = ltb-false n.version v e

-- what is allowed

enters : (w : World) (c : ℕ) (who : Caller) (n : Node) → IsSound w → slice_get w.nodes who.node ≡ Some n →
    Goes (after_enter w c who n Fresh)
enters w c who n h there =
    let r = enter (table_at n who.key) who.key who.class in
    entered_there w c who n r.0 r.1 h.listed there refl

asks : (w : World) (f : ℕ) (l : Lead) (n : Node) (c : Class) → c ≡ Wide → IsSound w → slice_get w.nodes l.node ≡ Some n →
    Goes (after_ask_peer w f l n c Looked)
asks w f l n Wide e h there =
    let o = owner_there w l.node n l.key h.placed there in
    goes (position (λ m. bytes_eq m.name (owner_of n l.key)) w.nodes)
    (λ o. Some (with_ask (with_stage w f l Asking) (record { node = o; key = l.key; flight = f; version = version_at w.scene l.key })))
    o.0 o.1
    (with_ask (with_stage w f l Asking) (record { node = o.0; key = l.key; flight = f; version = version_at w.scene l.key }), refl)
asks w f l n Local e h there = absurd cc

replies : (w : World) (c : ℕ) (who : Caller) (a : ℕ) (p : Purpose) (o : Outcome) → p ≡ ForAsk a → learned w c ≡ Some o →
    Goes (after_reply w c who p)
replies w c who a (ForAsk b) o e h =
    goes (learned w c) (λ o. Some (with_reply w (record { key = who.key; outcome = o }))) o h
    (with_reply w (record { key = who.key; outcome = o }), refl)
replies w c who a (ForRequest r) o e h = absurd cc
replies w c who a (ForPart f) o e h = absurd cc
replies w c who a (ForFallback f) o e h = absurd cc

loads : (w : World) (f : ℕ) (l : Lead) (n : Node) (c : Class) → c ≡ Local → Goes (after_load w f l n c Looked)
loads w f l n Local e = (_, refl)
loads w f l n Wide e = absurd cc

merges : (w : World) (f : ℕ) (l : Lead) (n : Node) (c : Class) (cs : List ℕ) (os : List Outcome) → c ≡ Local → decided w cs ≡ Some os →
    Goes (after_load w f l n c (Parts cs))
merges w f l n Local cs os e h =
    goes (decided w cs) (λ os. Some (with_stage w f l (Ready (outcome_from w.scene l.key (collected os)) _))) os h (_, refl)
merges w f l n Wide cs os e h = absurd cc

fails : (w : World) (f : ℕ) (l : Lead) (e : ReadFault) (c : Class) (ks : Option (List Key)) → c ≡ Local → ks ≡ None →
    Goes (after_fault w f l e c ks Looked)
fails w f l e Local None p q = (_, refl)
fails w f l e Local (Some ks) p q = absurd cc
fails w f l e Wide ks p q = absurd cc

pub allowed_goes : (w : World) (e : Event) → IsSound w → IsAllowed w e → Goes (step w e)
unfolding step
allowed_goes w (Want i name q) h a =
    let n = a.2.0 in
    goes (slice_get w.nodes i) _ n a.2.1 (goes (w.scene.shows name) _ a.0 a.1
    (goes (speaker n (version_shown a.0)) _ n (speaks n (version_shown a.0) a.2.2) (_, refl)))
allowed_goes w (Enter c) h a =
    let call : Call = record { caller = a.0; state = Fresh } in
    let n = call_node w c call h a.1 in
    goes (slice_get w.calls c) _ call a.1 (goes (slice_get w.nodes a.0.node) _ n.0 n.1 (enters w c a.0 n.0 h n.1))
allowed_goes w (Again f) h a =
    let fl : Flight = record { lead = a.0; stage = New } in
    let n = lead_node w f fl h a.1 in
    goes (slice_get w.flights f) _ fl a.1 (goes (slice_get w.nodes a.0.node) _ n.0 n.1 (_, refl))
allowed_goes w (AskPeer f) h a =
    let fl : Flight = record { lead = a.0; stage = Looked } in
    let n = lead_node w f fl h a.1 in
    goes (slice_get w.flights f) _ fl a.1 (goes (slice_get w.nodes a.0.node) _ n.0 n.1 (asks w f a.0 n.0 a.0.class a.2 h n.1))
allowed_goes w (Serve i) h a =
    let n = a.2.0 in
    goes (slice_get w.asks i) _ a.0 a.1 (goes (slice_get w.nodes a.0.node) _ n a.2.1
    (goes (speaker n a.0.version) _ n (speaks n a.0.version a.2.2) (_, refl)))
allowed_goes w (event.Reply c) h a = goes (slice_get w.calls c) _ a.0 a.1
    (replies w c a.0.caller a.2.0 a.0.caller.purpose a.3.0 a.2.1 a.3.1)
allowed_goes w (Take f r) h a =
    ⊎_elim
    (λ (b : IsAt w f Asking). goes (slice_get w.flights f) _ (record { lead = b.0; stage = Asking }) b.1
    (goes (slice_get w.replies r) _ a.1.0 a.1.1 (_, refl)))
    (λ (b : (o : Option Outcome) × IsAt w f (Ended o)).
    goes (slice_get w.flights f) _ (record { lead = b.1.0; stage = Ended b.0 }) b.1.1
    (goes (slice_get w.replies r) _ a.1.0 a.1.1 (_, refl))) a.0
allowed_goes w (Lose f) h a = goes (slice_get w.flights f) _ (record { lead = a.0; stage = Asking }) a.1 (_, refl)
allowed_goes w (GoLocal f) h a = goes (slice_get w.flights f) _ (record { lead = a.0; stage = Fallback None }) a.1 (_, refl)
allowed_goes w (Load f) h a =
    ⊎_elim
    (λ (b : IsOfClassAt w f Local Looked).
    let fl : Flight = record { lead = b.0; stage = Looked } in
    let n = lead_node w f fl h b.1 in
    goes (slice_get w.flights f) _ fl b.1 (goes (slice_get w.nodes b.0.node) _ n.0 n.1 (loads w f b.0 n.0 b.0.class b.2)))
    (λ (b : (cs : List ℕ) × IsOfClassAt w f Local (Parts cs) × ((os : List Outcome) × (decided w cs ≡ Some os))).
    let l = b.1.0 in
    let fl : Flight = record { lead = l; stage = Parts b.0 } in
    let n = lead_node w f fl h b.1.1 in
    goes (slice_get w.flights f) _ fl b.1.1 (goes (slice_get w.nodes l.node) _ n.0 n.1 (merges w f l n.0 l.class b.0 b.2.0 b.1.2 b.2.1))) a
allowed_goes w (SourceFault f e) h a = goes (slice_get w.flights f) _ (record { lead = a.0; stage = Looked }) a.1
    (fails w f a.0 e a.0.class (parts_of a.0.key) a.2 a.3)
allowed_goes w (Land f kept) h a =
    let l = a.2.0 in
    let fl : Flight = record { lead = l; stage = Ready a.0 a.1 } in
    let n = lead_node w f fl h a.2.1 in
    goes (slice_get w.flights f) _ fl a.2.1 (goes (slice_get w.nodes l.node) _ n.0 n.1 (_, refl))
allowed_goes w (Evict i keys) h a = goes (slice_get w.nodes i) _ a.0 a.1 (_, refl)
allowed_goes w (Stop i) h a = goes (slice_get w.nodes i) _ a.0 a.1 (_, refl)

-- and what goes is allowed

only_fresh : (w : World) (c : ℕ) (who : Caller) (n : Node) (s : CallState) (v : World) → after_enter w c who n s ≡ Some v → s ≡ Fresh
only_fresh w c who n Fresh v h = refl
only_fresh w c who n (Hit x) v h = no_world v h
only_fresh w c who n (In f) v h = no_world v h
only_fresh w c who n Gone v h = no_world v h

only_new : (w : World) (f : ℕ) (l : Lead) (n : Node) (s : Stage) (v : World) → after_again w f l n s ≡ Some v → s ≡ New
only_new w f l n New v h = refl
only_new w f l n Looked v h = no_world v h
only_new w f l n Asking v h = no_world v h
only_new w f l n (Fallback c) v h = no_world v h
only_new w f l n (Parts cs) v h = no_world v h
only_new w f l n (Ready o p) v h = no_world v h
only_new w f l n (Ended o) v h = no_world v h

only_wide : (w : World) (f : ℕ) (l : Lead) (n : Node) (c : Class) (s : Stage) (v : World) → after_ask_peer w f l n c s ≡ Some v →
    (s ≡ Looked) × (c ≡ Wide)
only_wide w f l n Wide Looked v h = (refl, refl)
only_wide w f l n Local s v h = no_world v h
only_wide w f l n Wide New v h = no_world v h
only_wide w f l n Wide Asking v h = no_world v h
only_wide w f l n Wide (Fallback c) v h = no_world v h
only_wide w f l n Wide (Parts cs) v h = no_world v h
only_wide w f l n Wide (Ready o p) v h = no_world v h
only_wide w f l n Wide (Ended o) v h = no_world v h

only_served : (w : World) (c : ℕ) (who : Caller) (p : Purpose) (v : World) → after_reply w c who p ≡ Some v → ((a : ℕ) × (p ≡ ForAsk a)) ×
    ((o : Outcome) × (learned w c ≡ Some o))
only_served w c who (ForAsk a) v h =
    let o = bind_inv (learned w c) (λ o. Some (with_reply w (record { key = who.key; outcome = o }))) v h in
    ((a, refl), (o.0, o.1))
only_served w c who (ForRequest r) v h = no_world v h
only_served w c who (ForPart f) v h = no_world v h
only_served w c who (ForFallback f) v h = no_world v h

only_asking_or_ended : (w : World) (f : ℕ) (l : Lead) (r : Reply) (s : Stage) (v : World) → after_take w f l r s ≡ Some v → (s ≡ Asking) ⊎
    ((o : Option Outcome) × (s ≡ Ended o))
only_asking_or_ended w f l r Asking v h = inl refl
only_asking_or_ended w f l r (Ended o) v h = inr (o, refl)
only_asking_or_ended w f l r New v h = no_world v h
only_asking_or_ended w f l r Looked v h = no_world v h
only_asking_or_ended w f l r (Fallback c) v h = no_world v h
only_asking_or_ended w f l r (Parts cs) v h = no_world v h
only_asking_or_ended w f l r (Ready o p) v h = no_world v h

only_asking : (w : World) (f : ℕ) (l : Lead) (s : Stage) (v : World) → after_lose w f l s ≡ Some v → s ≡ Asking
only_asking w f l Asking v h = refl
only_asking w f l New v h = no_world v h
only_asking w f l Looked v h = no_world v h
only_asking w f l (Fallback c) v h = no_world v h
only_asking w f l (Parts cs) v h = no_world v h
only_asking w f l (Ready o p) v h = no_world v h
only_asking w f l (Ended o) v h = no_world v h

only_in_vain : (w : World) (f : ℕ) (l : Lead) (s : Stage) (v : World) → after_go_local w f l s ≡ Some v → s ≡ Fallback None
only_in_vain w f l (Fallback None) v h = refl
only_in_vain w f l (Fallback (Some c)) v h = no_world v h
only_in_vain w f l New v h = no_world v h
only_in_vain w f l Looked v h = no_world v h
only_in_vain w f l Asking v h = no_world v h
only_in_vain w f l (Parts cs) v h = no_world v h
only_in_vain w f l (Ready o p) v h = no_world v h
only_in_vain w f l (Ended o) v h = no_world v h

abbrev Loads : World → Class → Stage → Type 0
Loads w c s = ((s ≡ Looked) × (c ≡ Local)) ⊎ ((cs : List ℕ) × (s ≡ Parts cs) × (c ≡ Local) ×
    ((os : List Outcome) × (decided w cs ≡ Some os)))

only_loads : (w : World) (f : ℕ) (l : Lead) (n : Node) (c : Class) (s : Stage) (v : World) → after_load w f l n c s ≡ Some v → Loads w c s
only_loads w f l n Local Looked v h = inl (refl, refl)
only_loads w f l n Local (Parts cs) v h =
    let os = bind_inv (decided w cs) (λ os. Some (with_stage w f l (Ready (outcome_from w.scene l.key (collected os)) _))) v h in
    inr (cs, refl, refl, (os.0, os.1))
only_loads w f l n Wide s v h = no_world v h
only_loads w f l n Local New v h = no_world v h
only_loads w f l n Local Asking v h = no_world v h
only_loads w f l n Local (Fallback c) v h = no_world v h
only_loads w f l n Local (Ready o p) v h = no_world v h
only_loads w f l n Local (Ended o) v h = no_world v h

only_tiles : (w : World) (f : ℕ) (l : Lead) (e : ReadFault) (c : Class) (ks : Option (List Key)) (s : Stage) (v : World) →
    after_fault w f l e c ks s ≡ Some v →
    (s ≡ Looked) × (c ≡ Local) × (ks ≡ None)
only_tiles w f l e Local None Looked v h = (refl, refl, refl)
only_tiles w f l e Wide ks s v h = no_world v h
only_tiles w f l e Local (Some ks) s v h = no_world v h
only_tiles w f l e Local None New v h = no_world v h
only_tiles w f l e Local None Asking v h = no_world v h
only_tiles w f l e Local None (Fallback c) v h = no_world v h
only_tiles w f l e Local None (Parts cs) v h = no_world v h
only_tiles w f l e Local None (Ready o p) v h = no_world v h
only_tiles w f l e Local None (Ended o) v h = no_world v h

only_ready : (w : World) (f : ℕ) (l : Lead) (n : Node) (kept : _) (s : Stage) (v : World) → after_land w f l n kept s ≡ Some v →
    (o : Outcome) × (p : Place) × (s ≡ Ready o p)
only_ready w f l n kept (Ready o p) v h = (o, p, refl)
only_ready w f l n kept New v h = no_world v h
only_ready w f l n kept Looked v h = no_world v h
only_ready w f l n kept Asking v h = no_world v h
only_ready w f l n kept (Fallback c) v h = no_world v h
only_ready w f l n kept (Parts cs) v h = no_world v h
only_ready w f l n kept (Ended o) v h = no_world v h

at_stage : (w : World) (f : ℕ) (fl : Flight) (s : Stage) → slice_get w.flights f ≡ Some fl → fl.stage ≡ s →
    slice_get w.flights f ≡ Some (record { lead = fl.lead; stage = s })
at_stage w f fl s at e = subst (λ x. slice_get w.flights f ≡ Some (record { lead = fl.lead; stage = x })) e at

at_state : (w : World) (c : ℕ) (call : Call) (s : CallState) → slice_get w.calls c ≡ Some call → call.state ≡ s →
    slice_get w.calls c ≡ Some (record { caller = call.caller; state = s })
at_state w c call s at e = subst (λ x. slice_get w.calls c ≡ Some (record { caller = call.caller; state = x })) e at

pub goes_allowed : (w : World) (e : Event) (v : World) → step w e ≡ Some v → IsAllowed w e
unfolding step
goes_allowed w (Want i name q) v h =
    let n = bind_inv (slice_get w.nodes i) _ v h in
    let p = bind_inv (w.scene.shows name) _ v n.2 in
    let m = bind_inv (speaker n.0 (version_shown p.0)) _ v p.2 in
    (p.0, p.1, (n.0, n.1, only_speakers n.0 m.0 (version_shown p.0) m.1))
goes_allowed w (Enter c) v h =
    let call = bind_inv (slice_get w.calls c) _ v h in
    let n = bind_inv (slice_get w.nodes call.0.caller.node) _ v call.2 in
    (call.0.caller, at_state w c call.0 Fresh call.1 (only_fresh w c call.0.caller n.0 call.0.state v n.2))
goes_allowed w (Again f) v h =
    let fl = bind_inv (slice_get w.flights f) _ v h in
    let n = bind_inv (slice_get w.nodes fl.0.lead.node) _ v fl.2 in
    (fl.0.lead, at_stage w f fl.0 New fl.1 (only_new w f fl.0.lead n.0 fl.0.stage v n.2))
goes_allowed w (AskPeer f) v h =
    let fl = bind_inv (slice_get w.flights f) _ v h in
    let n = bind_inv (slice_get w.nodes fl.0.lead.node) _ v fl.2 in
    let is = only_wide w f fl.0.lead n.0 fl.0.lead.class fl.0.stage v n.2 in
    (fl.0.lead, at_stage w f fl.0 Looked fl.1 is.0, is.1)
goes_allowed w (Serve i) v h =
    let q = bind_inv (slice_get w.asks i) _ v h in
    let n = bind_inv (slice_get w.nodes q.0.node) _ v q.2 in
    let m = bind_inv (speaker n.0 q.0.version) _ v n.2 in
    (q.0, q.1, (n.0, n.1, only_speakers n.0 m.0 q.0.version m.1))
goes_allowed w (event.Reply c) v h =
    let call = bind_inv (slice_get w.calls c) _ v h in
    let is = only_served w c call.0.caller call.0.caller.purpose v call.2 in
    (call.0, call.1, is.0, is.1)
goes_allowed w (Take f r) v h =
    let fl = bind_inv (slice_get w.flights f) _ v h in
    let reply = bind_inv (slice_get w.replies r) _ v fl.2 in (
      ⊎_elim
          (λ (e : fl.0.stage ≡ Asking). inl (fl.0.lead, at_stage w f fl.0 Asking fl.1 e))
          (λ (e : (o : Option Outcome) × (fl.0.stage ≡ Ended o)). inr (e.0, (fl.0.lead, at_stage w f fl.0 (Ended e.0) fl.1 e.1)))
          (only_asking_or_ended w f fl.0.lead reply.0 fl.0.stage v reply.2),
      (reply.0, reply.1),
    )
goes_allowed w (Lose f) v h =
    let fl = bind_inv (slice_get w.flights f) _ v h in
    (fl.0.lead, at_stage w f fl.0 Asking fl.1 (only_asking w f fl.0.lead fl.0.stage v fl.2))
goes_allowed w (GoLocal f) v h =
    let fl = bind_inv (slice_get w.flights f) _ v h in
    (fl.0.lead, at_stage w f fl.0 (Fallback None) fl.1 (only_in_vain w f fl.0.lead fl.0.stage v fl.2))
goes_allowed w (Load f) v h =
    let fl = bind_inv (slice_get w.flights f) _ v h in
    let n = bind_inv (slice_get w.nodes fl.0.lead.node) _ v fl.2 in
    ⊎_elim
    (λ (e : (fl.0.stage ≡ Looked) × (fl.0.lead.class ≡ Local)). inl (fl.0.lead, at_stage w f fl.0 Looked fl.1 e.0, e.1))
    (λ (e : (cs : List ℕ) × (fl.0.stage ≡ Parts cs) × (fl.0.lead.class ≡ Local) × ((os : List Outcome) × (decided w cs ≡ Some os))).
    inr (e.0, (fl.0.lead, at_stage w f fl.0 (Parts e.0) fl.1 e.1, e.2), e.3))
    (only_loads w f fl.0.lead n.0 fl.0.lead.class fl.0.stage v n.2)
goes_allowed w (SourceFault f e) v h =
    let fl = bind_inv (slice_get w.flights f) _ v h in
    let is = only_tiles w f fl.0.lead e fl.0.lead.class (parts_of fl.0.lead.key) fl.0.stage v fl.2 in
    (fl.0.lead, at_stage w f fl.0 Looked fl.1 is.0, is.1, is.2)
goes_allowed w (Land f kept) v h =
    let fl = bind_inv (slice_get w.flights f) _ v h in
    let n = bind_inv (slice_get w.nodes fl.0.lead.node) _ v fl.2 in
    let is = only_ready w f fl.0.lead n.0 kept fl.0.stage v n.2 in
    (is.0, is.1, (fl.0.lead, at_stage w f fl.0 (Ready is.0 is.1) fl.1 is.2))
goes_allowed w (Evict i keys) v h = let n = bind_inv (slice_get w.nodes i) _ v h in (n.0, n.1)
goes_allowed w (Stop i) v h = let n = bind_inv (slice_get w.nodes i) _ v h in (n.0, n.1)

pub allowed_exactly : AllowedExactly
allowed_exactly w e h = (allowed_goes w e h, λ x. goes_allowed w e x.0 x.1)
