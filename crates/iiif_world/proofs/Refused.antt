-- Events that aren't allowed by the rows that they read; and what a read that fails comes to.
use Rattle.std.proofs.Common.{Vec, Global, ◌≡◌, ℕ, List, Bool, Option, Some, None, Err, refl, sym, ap, ◌∙◌}
use Rattle.std.specs.Prelude.{slice_get}
use Rattle.iiif_machine.specs.Keys.{name_of, parts_of}
use Rattle.iiif_machine.specs.declared.keys.Key.TheVariants as key
use Rattle.iiif_keys.specs.declared.keys.TileKey.{TileKey}
use Rattle.iiif_machine.specs.Types.{ReadFault}
use Rattle.iiif_machine.specs.declared.keys.Key.{Key}
use Rattle.iiif_machine.specs.Tables.{Class, Wide, Local, Outcome, Place, Main}
use Rattle.iiif_machine.specs.Rows.{Node}
use Rattle.iiif_machine.specs.declared.rows.Call.{Call}
use Rattle.iiif_machine.specs.declared.rows.Caller.{Caller}
use Rattle.iiif_machine.specs.declared.rows.CallState.{CallState}
use Rattle.iiif_machine.specs.declared.rows.Flight.{Flight}
use Rattle.iiif_machine.specs.declared.rows.Lead.{Lead}
use Rattle.iiif_machine.specs.declared.rows.Stage.{Stage}
use Rattle.iiif_machine.specs.declared.rows.CallState.TheVariants.{Fresh, Hit, In, Gone}
use Rattle.iiif_machine.specs.declared.rows.Stage.TheVariants.{New, Looked, Asking, Fallback, Parts, Ready, Ended}
use Rattle.iiif_machine.specs.declared.events.Event.TheVariants.{Enter, Again, AskPeer, SourceFault, Land, Evict, Stop}
use Rattle.iiif_machine.specs.Steps.{after_enter, after_again, after_ask_peer, after_fault, after_land, step}
use Rattle.iiif_machine.specs.Worlds.{World, ◌>>=◌, known_by, outcome_of, with_given, with_stage}
use Rattle.iiif_world.proofs.Stepped.{bind_by, bind_none}

-- what a call in a flight knows
not_ended : (s : Stage) → ((o : Option Outcome) → s ≡ Ended o → ⊥) → outcome_of s ≡ None
not_ended New a = refl
not_ended Looked a = refl
not_ended Asking a = refl
not_ended (Fallback c) a = refl
not_ended (Parts cs) a = refl
not_ended (Ready o p) a = refl
not_ended (Ended o) a = absurd (a o refl)

pub flight_gone : (fs : List Flight) (f : ℕ) → slice_get fs f ≡ None → known_by fs (In f) ≡ None
flight_gone fs f gone = bind_none (slice_get fs f) (λ (x : Flight). outcome_of x.stage) gone

pub flight_open : (fs : List Flight) (f : ℕ) (x : Flight) → slice_get fs f ≡ Some x → ((o : Option Outcome) → x.stage ≡ Ended o → ⊥) →
    known_by fs (In f) ≡ None
flight_open fs f x at a = bind_by (slice_get fs f) (λ (x : Flight). outcome_of x.stage) x at (not_ended x.stage a)

pub flight_ended : (fs : List Flight) (f : ℕ) (x : Flight) (o p : Option Outcome) → slice_get fs f ≡ Some x → x.stage ≡ Ended o → o ≡ p →
    known_by fs (In f) ≡ p
flight_ended fs f x o p at ended same = bind_by (slice_get fs f) (λ (x : Flight). outcome_of x.stage) x at (ap outcome_of ended ∙ same)

-- what of a row of a known stage, or state, stands there
pub lead_at : (fs : List Flight) (f : ℕ) (x : Flight) (s : Stage) → slice_get fs f ≡ Some x → x.stage ≡ s →
    slice_get fs f ≡ Some (record { lead = x.lead; stage = s })
lead_at fs f x s at is = at ∙ ap (λ (z : Stage). Some (record { lead = x.lead; stage = z })) is

pub caller_at : (cs : List Call) (c : ℕ) (x : Call) (s : CallState) → slice_get cs c ≡ Some x → x.state ≡ s →
    slice_get cs c ≡ Some (record { caller = x.caller; state = s })
caller_at cs c x s at is = at ∙ ap (λ (z : CallState). Some (record { caller = x.caller; state = z })) is

never : {A B : Type 0} (x : Option A) (f : A → Option B) → ((a : A) → f a ≡ None) → (x >>= f) ≡ None
never None f h = refl
never (Some a) f h = h a

pub enter_gone : (w : World) (c : ℕ) → slice_get w.calls c ≡ None → step w (Enter c) ≡ None
unfolding step
enter_gone w c gone = bind_none (slice_get w.calls c) _ gone

no_enter : (w : World) (c : ℕ) (who : Caller) (n : Node) (s : CallState) → (s ≡ Fresh → ⊥) → after_enter w c who n s ≡ None
no_enter w c who n Fresh a = absurd (a refl)
no_enter w c who n (Hit v) a = refl
no_enter w c who n (In f) a = refl
no_enter w c who n Gone a = refl

pub enter_other : (w : World) (c : ℕ) (x : Call) → slice_get w.calls c ≡ Some x → (x.state ≡ Fresh → ⊥) → step w (Enter c) ≡ None
unfolding step
enter_other w c x at a =
    bind_by (slice_get w.calls c) _ x at (never (slice_get w.nodes x.caller.node) (λ (n : Node). after_enter w c x.caller n x.state)
    (λ n. no_enter w c x.caller n x.state a))

pub again_gone : (w : World) (f : ℕ) → slice_get w.flights f ≡ None → step w (Again f) ≡ None
unfolding step
again_gone w f gone = bind_none (slice_get w.flights f) _ gone

no_again : (w : World) (f : ℕ) (l : Lead) (n : Node) (s : Stage) → (s ≡ New → ⊥) → after_again w f l n s ≡ None
no_again w f l n New a = absurd (a refl)
no_again w f l n Looked a = refl
no_again w f l n Asking a = refl
no_again w f l n (Fallback c) a = refl
no_again w f l n (Parts cs) a = refl
no_again w f l n (Ready o p) a = refl
no_again w f l n (Ended o) a = refl

pub again_other : (w : World) (f : ℕ) (x : Flight) → slice_get w.flights f ≡ Some x → (x.stage ≡ New → ⊥) → step w (Again f) ≡ None
unfolding step
again_other w f x at a =
    bind_by (slice_get w.flights f) _ x at (never (slice_get w.nodes x.lead.node) (λ (n : Node). after_again w f x.lead n x.stage)
    (λ n. no_again w f x.lead n x.stage a))

pub ask_gone : (w : World) (f : ℕ) → slice_get w.flights f ≡ None → step w (AskPeer f) ≡ None
unfolding step
ask_gone w f gone = bind_none (slice_get w.flights f) _ gone

no_ask : (w : World) (f : ℕ) (l : Lead) (n : Node) (c : Class) (s : Stage) → (s ≡ Looked → ⊥) → after_ask_peer w f l n c s ≡ None
no_ask w f l n Local s a = refl
no_ask w f l n Wide New a = refl
no_ask w f l n Wide Looked a = absurd (a refl)
no_ask w f l n Wide Asking a = refl
no_ask w f l n Wide (Fallback o) a = refl
no_ask w f l n Wide (Parts cs) a = refl
no_ask w f l n Wide (Ready o p) a = refl
no_ask w f l n Wide (Ended o) a = refl

not_wide : (w : World) (f : ℕ) (l : Lead) (n : Node) (c : Class) (s : Stage) → (c ≡ Wide → ⊥) → after_ask_peer w f l n c s ≡ None
not_wide w f l n Wide s a = absurd (a refl)
not_wide w f l n Local s a = refl

pub ask_other : (w : World) (f : ℕ) (x : Flight) → slice_get w.flights f ≡ Some x → (x.stage ≡ Looked → ⊥) → step w (AskPeer f) ≡ None
unfolding step
ask_other w f x at a =
    bind_by (slice_get w.flights f) _ x at
    (never (slice_get w.nodes x.lead.node) (λ (n : Node). after_ask_peer w f x.lead n x.lead.class x.stage)
    (λ n. no_ask w f x.lead n x.lead.class x.stage a))

pub ask_own : (w : World) (f : ℕ) (x : Flight) → slice_get w.flights f ≡ Some x → (x.lead.class ≡ Wide → ⊥) → step w (AskPeer f) ≡ None
unfolding step
ask_own w f x at a =
    bind_by (slice_get w.flights f) _ x at
    (never (slice_get w.nodes x.lead.node) (λ (n : Node). after_ask_peer w f x.lead n x.lead.class x.stage)
    (λ n. not_wide w f x.lead n x.lead.class x.stage a))

pub land_gone : (w : World) (f : ℕ) (kept : Bool) → slice_get w.flights f ≡ None → step w (Land f kept) ≡ None
unfolding step
land_gone w f kept gone = bind_none (slice_get w.flights f) _ gone

no_land : (w : World) (f : ℕ) (l : Lead) (n : Node) (kept : Bool) (s : Stage) → ((o : Outcome) (p : Place) → s ≡ Ready o p → ⊥) →
    after_land w f l n kept s ≡ None
no_land w f l n kept New a = refl
no_land w f l n kept Looked a = refl
no_land w f l n kept Asking a = refl
no_land w f l n kept (Fallback c) a = refl
no_land w f l n kept (Parts cs) a = refl
no_land w f l n kept (Ready o p) a = absurd (a o p refl)
no_land w f l n kept (Ended o) a = refl

pub land_other : (w : World) (f : ℕ) (kept : Bool) (x : Flight) → slice_get w.flights f ≡ Some x →
    ((o : Outcome) (p : Place) → x.stage ≡ Ready o p → ⊥) →
    step w (Land f kept) ≡ None
unfolding step
land_other w f kept x at a =
    bind_by (slice_get w.flights f) _ x at
    (never (slice_get w.nodes x.lead.node) (λ (n : Node). after_land w f x.lead n kept x.stage) (λ n. no_land w f x.lead n kept x.stage a))

pub evict_gone : (w : World) (i : ℕ) (ks : Vec Key Global) → slice_get w.nodes i ≡ None → step w (Evict i ks) ≡ None
unfolding step
evict_gone w i ks gone = bind_none (slice_get w.nodes i) _ gone

pub stop_gone : (w : World) (i : ℕ) → slice_get w.nodes i ≡ None → step w (Stop i) ≡ None
unfolding step
stop_gone w i gone = bind_none (slice_get w.nodes i) _ gone

pub fault_gone : (w : World) (f : ℕ) (e : ReadFault) → slice_get w.flights f ≡ None → step w (SourceFault f e) ≡ None
unfolding step
fault_gone w f e gone = bind_none (slice_get w.flights f) _ gone

fault_by : (w : World) (f : ℕ) (e : ReadFault) (x : Flight) (o : Option World) → slice_get w.flights f ≡ Some x →
    after_fault w f x.lead e x.lead.class (parts_of x.lead.key) x.stage ≡ o → step w (SourceFault f e) ≡ o
unfolding step
fault_by w f e x o at is = bind_by (slice_get w.flights f) _ x at is

not_looked : (w : World) (f : ℕ) (l : Lead) (e : ReadFault) (c : Class) (ks : Option (List Key)) (s : Stage) → (s ≡ Looked → ⊥) →
    after_fault w f l e c ks s ≡ None
not_looked w f l e Wide ks s a = refl
not_looked w f l e Local (Some ks) s a = refl
not_looked w f l e Local None New a = refl
not_looked w f l e Local None Looked a = absurd (a refl)
not_looked w f l e Local None Asking a = refl
not_looked w f l e Local None (Fallback o) a = refl
not_looked w f l e Local None (Parts cs) a = refl
not_looked w f l e Local None (Ready o p) a = refl
not_looked w f l e Local None (Ended o) a = refl

not_own : (w : World) (f : ℕ) (l : Lead) (e : ReadFault) (c : Class) (ks : Option (List Key)) (s : Stage) → (c ≡ Local → ⊥) →
    after_fault w f l e c ks s ≡ None
not_own w f l e Wide ks s a = refl
not_own w f l e Local ks s a = absurd (a refl)

not_tile : (w : World) (f : ℕ) (l : Lead) (e : ReadFault) (c : Class) (k : Key) (s : Stage) → ((t : TileKey) → k ≡ key.Tile t → ⊥) →
    after_fault w f l e c (parts_of k) s ≡ None
unfolding parts_of
not_tile w f l e c (key.Tile t) s a = absurd (a t refl)
not_tile w f l e Wide (key.Sum k) s a = refl
not_tile w f l e Local (key.Sum k) s a = refl

pub fault_other : (w : World) (f : ℕ) (e : ReadFault) (x : Flight) → slice_get w.flights f ≡ Some x → (x.stage ≡ Looked → ⊥) →
    step w (SourceFault f e) ≡ None
fault_other w f e x at a = fault_by w f e x None at (not_looked w f x.lead e x.lead.class (parts_of x.lead.key) x.stage a)

pub fault_wide : (w : World) (f : ℕ) (e : ReadFault) (x : Flight) → slice_get w.flights f ≡ Some x → (x.lead.class ≡ Local → ⊥) →
    step w (SourceFault f e) ≡ None
fault_wide w f e x at a = fault_by w f e x None at (not_own w f x.lead e x.lead.class (parts_of x.lead.key) x.stage a)

pub fault_sum : (w : World) (f : ℕ) (e : ReadFault) (x : Flight) → slice_get w.flights f ≡ Some x →
    ((t : TileKey) → x.lead.key ≡ key.Tile t → ⊥) → step w (SourceFault f e) ≡ None
fault_sum w f e x at a = fault_by w f e x None at (not_tile w f x.lead e x.lead.class x.lead.key x.stage a)

tile_parts : (k : Key) (t : TileKey) → k ≡ key.Tile t → parts_of k ≡ None
unfolding parts_of
tile_parts k t is = ap parts_of is

pub fault_is : (w : World) (f : ℕ) (e : ReadFault) (x : Flight) (t : TileKey) → slice_get w.flights f ≡ Some x → x.stage ≡ Looked →
    x.lead.class ≡ Local → x.lead.key ≡ key.Tile t →
    step w (SourceFault f e) ≡ Some (with_stage (with_given w (record { node = x.lead.node; name = name_of x.lead.key; fault = e })) f
    x.lead (Ready (Err e) Main))
fault_is w f e x t at looked own tile =
    fault_by w f e x _ at
    (ap (λ (c : Class). after_fault w f x.lead e c (parts_of x.lead.key) x.stage) own
    ∙ ap (λ (ks : Option (List Key)). after_fault w f x.lead e Local ks x.stage) (tile_parts x.lead.key t tile) ∙
    ap (λ (s : Stage). after_fault w f x.lead e Local None s) looked)

pub fault_done : (w m v : World) (f : ℕ) (e : ReadFault) (x : Flight) (t : TileKey) (name : List ℕ) → slice_get w.flights f ≡ Some x →
    x.stage ≡ Looked → x.lead.class ≡ Local →
    x.lead.key ≡ key.Tile t → name ≡ name_of x.lead.key → m ≡ with_given w (record { node = x.lead.node; name = name; fault = e }) →
    v ≡ with_stage m f x.lead (Ready (Err e) Main) →
    step w (SourceFault f e) ≡ Some v
fault_done w m v f e x t name at looked own tile hn hm hv =
    fault_is w f e x t at looked own tile
    ∙ ap (λ (z : World). Some z) (sym (hv ∙ ap (λ (z : World). with_stage z f x.lead (Ready (Err e) Main)) hm
    ∙ ap (λ (y : List ℕ). with_stage (with_given w (record { node = x.lead.node; name = y; fault = e })) f x.lead (Ready (Err e) Main)) hn))
