-- What the events of asks and replies come to, from the rows that they read.
use Rattle.std.proofs.Common.{◌≡◌, ℕ, [], ◌∷◌, length, Bool, true, false, Option, Some, None, Result, Ok, Err, refl, sym, ap, ◌∙◌, IfErr}
use Rattle.std.proofs.Common.{true≢false}
use Rattle.std.specs.Prelude.{slice_get}
use Rattle.std.proofs.lemmas.Option.{none-some, same_Some}
use Rattle.iiif_machine.specs.declared.keys.Key.{Key}
use Rattle.iiif_machine.specs.Tables.{Local, Outcome}
use Rattle.iiif_machine.specs.Rows.{Node}
use Rattle.iiif_machine.specs.declared.rows.Ask.{Ask}
use Rattle.iiif_machine.specs.declared.rows.Call.{Call}
use Rattle.iiif_machine.specs.declared.rows.Caller.{Caller}
use Rattle.iiif_machine.specs.declared.rows.Flight.{Flight}
use Rattle.iiif_machine.specs.declared.rows.Lead.{Lead}
use Rattle.iiif_machine.specs.declared.rows.Purpose.{Purpose}
use Rattle.iiif_machine.specs.declared.rows.Reply.{Reply}
use Rattle.iiif_machine.specs.declared.rows.Stage.{Stage}
use Rattle.iiif_machine.specs.declared.rows.Purpose.TheVariants.{ForRequest, ForPart, ForFallback, ForAsk}
use Rattle.iiif_machine.specs.declared.rows.Stage.TheVariants.{New, Looked, Asking, Fallback, Parts, Ready, Ended}
use Rattle.iiif_machine.specs.declared.events.Event.{Event}
use Rattle.iiif_machine.specs.declared.events.Event.TheVariants as event
use Rattle.iiif_machine.specs.declared.events.WorldFault.{WorldFault}
use Rattle.iiif_machine.specs.declared.events.WorldFault.TheVariants.{NotNow, NoMemory}
use Rattle.iiif_machine.specs.Steps.{after_take, after_lose, after_go_local, after_reply, caller_serving, stage_taken, step}
use Rattle.iiif_machine.specs.Worlds.{World, ◌>>=◌, learned, speaker, with_calls, with_reply, with_stage}
use Rattle.iiif_world.specs.Entering.{takes}
use Rattle.iiif_world.proofs.Stepped.{bind_by, bind_none}

-- where an event is allowed, an error is lack of memory
pub memory_wanted : {A : Type 0} (w v : World) (e : Event) (r : Result A WorldFault) → step w e ≡ Some v →
    IfErr r (λ f. f ≡ NoMemory → ¬ (step w e ≡ None))
memory_wanted w v e (Ok x) is = tt
memory_wanted w v e (Err f) is = λ _ none. none-some v (sym none ∙ is)

pub no_want : {A : Type 0} → NotNow ≡ NoMemory → A → ⊥
no_want same a = cc

bound_none : (o : Option Outcome) (g : Outcome → World) → (o >>= (λ x. Some (g x))) ≡ None → o ≡ None
bound_none None g h = refl
bound_none (Some x) g h = absurd (none-some (g x) (sym h))

pub serve_none : (w : World) (a : ℕ) → slice_get w.asks a ≡ None → step w (event.Serve a) ≡ None
unfolding step
serve_none w a gone = bind_none (slice_get w.asks a) _ gone

pub serve_lost : (w : World) (a : ℕ) (q : Ask) → slice_get w.asks a ≡ Some q → slice_get w.nodes q.node ≡ None →
    step w (event.Serve a) ≡ None
unfolding step
serve_lost w a q at gone = bind_by (slice_get w.asks a) _ q at (bind_none (slice_get w.nodes q.node) _ gone)

pub serve_mute : (w : World) (a : ℕ) (q : Ask) (n : Node) → slice_get w.asks a ≡ Some q → slice_get w.nodes q.node ≡ Some n →
    speaker n q.version ≡ None → step w (event.Serve a) ≡ None
unfolding step
serve_mute w a q n at there mute =
    bind_by (slice_get w.asks a) _ q at (bind_by (slice_get w.nodes q.node) _ n there (bind_none (speaker n q.version) _ mute))

pub serve_is : (w : World) (a : ℕ) (q : Ask) (n : Node) → slice_get w.asks a ≡ Some q → slice_get w.nodes q.node ≡ Some n →
    speaker n q.version ≡ Some n →
    step w (event.Serve a) ≡ Some (with_calls w (caller_serving a q ∷ []))
unfolding step
serve_is w a q n at there speaks =
    bind_by (slice_get w.asks a) _ q at (bind_by (slice_get w.nodes q.node) _ n there (bind_by (speaker n q.version) _ n speaks refl))

pub serve_done : (w v : World) (a : ℕ) (q : Ask) (n : Node) (who : Caller) → slice_get w.asks a ≡ Some q →
    slice_get w.nodes q.node ≡ Some n → speaker n q.version ≡ Some n → who ≡ caller_serving a q → v ≡ with_calls w (who ∷ []) →
    step w (event.Serve a) ≡ Some v
serve_done w v a q n who at there speaks hw hv =
    serve_is w a q n at there speaks
    ∙ ap (λ (x : World). Some x) (sym (hv ∙ ap (λ (x : Caller). with_calls w (x ∷ [])) hw))

pub reply_none : (w : World) (c : ℕ) → slice_get w.calls c ≡ None → step w (event.Reply c) ≡ None
unfolding step
reply_none w c gone = bind_none (slice_get w.calls c) _ gone

reply_by : (w : World) (c : ℕ) (x : Call) (p : Purpose) (o : Option World) → slice_get w.calls c ≡ Some x → x.caller.purpose ≡ p →
    after_reply w c x.caller p ≡ o →
    step w (event.Reply c) ≡ o
unfolding step
reply_by w c x p o at purpose is = bind_by (slice_get w.calls c) _ x at (ap (after_reply w c x.caller) purpose ∙ is)

no_reply : (w : World) (c : ℕ) (who : Caller) (p : Purpose) → ((a : ℕ) → p ≡ ForAsk a → ⊥) → after_reply w c who p ≡ None
no_reply w c who (ForAsk a) other = absurd (other a refl)
no_reply w c who (ForRequest r) other = refl
no_reply w c who (ForPart f) other = refl
no_reply w c who (ForFallback f) other = refl

pub reply_other : (w : World) (c : ℕ) (x : Call) → slice_get w.calls c ≡ Some x → ((a : ℕ) → x.caller.purpose ≡ ForAsk a → ⊥) →
    step w (event.Reply c) ≡ None
reply_other w c x at other = reply_by w c x x.caller.purpose None at refl (no_reply w c x.caller x.caller.purpose other)

pub reply_unknown : (w : World) (c a : ℕ) (x : Call) → slice_get w.calls c ≡ Some x → x.caller.purpose ≡ ForAsk a → learned w c ≡ None →
    step w (event.Reply c) ≡ None
reply_unknown w c a x at purpose none =
    reply_by w c x (ForAsk a) None at purpose (bind_none (learned w c)
    (λ o. Some (with_reply w (record { key = x.caller.key; outcome = o }))) none)

pub reply_heard : (w : World) (c a : ℕ) (x : Call) → slice_get w.calls c ≡ Some x → x.caller.purpose ≡ ForAsk a →
    step w (event.Reply c) ≡ None → learned w c ≡ None
reply_heard w c a x at purpose none =
    bound_none (learned w c) (λ o. with_reply w (record { key = x.caller.key; outcome = o }))
    (sym (reply_by w c x (ForAsk a) _ at purpose refl) ∙ none)

pub reply_memory : {A : Type 0} (w : World) (c a : ℕ) (x : Call) (r : Result A WorldFault) → slice_get w.calls c ≡ Some x →
    x.caller.purpose ≡ ForAsk a → ¬ (learned w c ≡ None) →
    IfErr r (λ f. f ≡ NoMemory → ¬ (step w (event.Reply c) ≡ None))
reply_memory w c a x (Ok y) at purpose some = tt
reply_memory w c a x (Err f) at purpose some = λ _ none. some (reply_heard w c a x at purpose none)

pub reply_is : (w : World) (c a : ℕ) (x : Call) (o : Outcome) → slice_get w.calls c ≡ Some x → x.caller.purpose ≡ ForAsk a →
    learned w c ≡ Some o →
    step w (event.Reply c) ≡ Some (with_reply w (record { key = x.caller.key; outcome = o }))
reply_is w c a x o at purpose known =
    reply_by w c x (ForAsk a) _ at purpose (bind_by (learned w c) (λ o. Some (with_reply w (record { key = x.caller.key; outcome = o }))) o
    known refl)

pub reply_done : (w v : World) (c a : ℕ) (x : Call) (o : Outcome) (k : Key) → slice_get w.calls c ≡ Some x → x.caller.purpose ≡ ForAsk a →
    learned w c ≡ Some o → k ≡ x.caller.key →
    v ≡ with_reply w (record { key = k; outcome = o }) → step w (event.Reply c) ≡ Some v
reply_done w v c a x o k at purpose known hk hv =
    reply_is w c a x o at purpose known ∙ ap (λ (z : World). Some z)
    (sym (hv ∙ ap (λ (y : Key). with_reply w (record { key = y; outcome = o })) hk))

pub take_none : (w : World) (f r : ℕ) → slice_get w.flights f ≡ None → step w (event.Take f r) ≡ None
unfolding step
take_none w f r gone = bind_none (slice_get w.flights f) _ gone

pub take_unsent : (w : World) (f r : ℕ) (x : Flight) → slice_get w.flights f ≡ Some x → slice_get w.replies r ≡ None →
    step w (event.Take f r) ≡ None
unfolding step
take_unsent w f r x at gone = bind_by (slice_get w.flights f) _ x at (bind_none (slice_get w.replies r) _ gone)

take_by : (w : World) (f r : ℕ) (x : Flight) (y : Reply) (s : Stage) (o : Option World) → slice_get w.flights f ≡ Some x →
    slice_get w.replies r ≡ Some y → x.stage ≡ s →
    after_take w f x.lead y s ≡ o → step w (event.Take f r) ≡ o
unfolding step
take_by w f r x y s o at sent stage is =
    bind_by (slice_get w.flights f) _ x at (bind_by (slice_get w.replies r) _ y sent (ap (after_take w f x.lead y) stage ∙ is))

takes_none : (w : World) (f : ℕ) (l : Lead) (y : Reply) (s : Stage) → takes s ≡ None → after_take w f l y s ≡ None
takes_none w f l y Asking none = absurd (none-some true (sym none))
takes_none w f l y (Ended x) none = absurd (none-some false (sym none))
takes_none w f l y New none = refl
takes_none w f l y Looked none = refl
takes_none w f l y (Fallback c) none = refl
takes_none w f l y (Parts cs) none = refl
takes_none w f l y (Ready x p) none = refl

pub take_other : (w : World) (f r : ℕ) (x : Flight) (y : Reply) → slice_get w.flights f ≡ Some x → slice_get w.replies r ≡ Some y →
    takes x.stage ≡ None → step w (event.Take f r) ≡ None
take_other w f r x y at sent none = take_by w f r x y x.stage None at sent refl (takes_none w f x.lead y x.stage none)

-- the stage, by what it takes

pub asks_by : (s : Stage) (b : Bool) → Some b ≡ takes s → b ≡ true → s ≡ Asking
asks_by Asking b is so = refl
asks_by (Ended x) b is so = absurd (true≢false (sym so ∙ same_Some b false is))
asks_by New b is so = absurd (none-some b (sym is))
asks_by Looked b is so = absurd (none-some b (sym is))
asks_by (Fallback c) b is so = absurd (none-some b (sym is))
asks_by (Parts cs) b is so = absurd (none-some b (sym is))
asks_by (Ready x p) b is so = absurd (none-some b (sym is))

take_ended_at : (w : World) (f r : ℕ) (x : Flight) (y : Reply) (s : Stage) (b : Bool) → slice_get w.flights f ≡ Some x →
    slice_get w.replies r ≡ Some y → x.stage ≡ s → Some b ≡ takes s → b ≡ false → step w (event.Take f r) ≡ Some w
take_ended_at w f r x y Asking b at sent stage is not = absurd (true≢false (same_Some true b (sym is) ∙ not))
take_ended_at w f r x y (Ended o) b at sent stage is not = take_by w f r x y (Ended o) (Some w) at sent stage refl
take_ended_at w f r x y New b at sent stage is not = absurd (none-some b (sym is))
take_ended_at w f r x y Looked b at sent stage is not = absurd (none-some b (sym is))
take_ended_at w f r x y (Fallback c) b at sent stage is not = absurd (none-some b (sym is))
take_ended_at w f r x y (Parts cs) b at sent stage is not = absurd (none-some b (sym is))
take_ended_at w f r x y (Ready o p) b at sent stage is not = absurd (none-some b (sym is))

pub take_ended : (w : World) (f r : ℕ) (x : Flight) (y : Reply) (b : Bool) → slice_get w.flights f ≡ Some x →
    slice_get w.replies r ≡ Some y → Some b ≡ takes x.stage → b ≡ false → step w (event.Take f r) ≡ Some w
take_ended w f r x y b at sent is not = take_ended_at w f r x y x.stage b at sent refl is not

pub take_is : (w : World) (f r : ℕ) (x : Flight) (y : Reply) → slice_get w.flights f ≡ Some x → slice_get w.replies r ≡ Some y →
    x.stage ≡ Asking →
    step w (event.Take f r) ≡ Some (with_stage w f x.lead (stage_taken x.lead.key y.key y.outcome))
take_is w f r x y at sent asks = take_by w f r x y Asking _ at sent asks refl

pub take_done : (w v : World) (f r : ℕ) (x : Flight) (y : Reply) (s : Stage) → slice_get w.flights f ≡ Some x →
    slice_get w.replies r ≡ Some y → x.stage ≡ Asking →
    s ≡ stage_taken x.lead.key y.key y.outcome → v ≡ with_stage w f x.lead s → step w (event.Take f r) ≡ Some v
take_done w v f r x y s at sent asks hs hv =
    take_is w f r x y at sent asks ∙ ap (λ (z : World). Some z) (sym (hv ∙ ap (λ (t : Stage). with_stage w f x.lead t) hs))

pub lose_none : (w : World) (f : ℕ) → slice_get w.flights f ≡ None → step w (event.Lose f) ≡ None
unfolding step
lose_none w f gone = bind_none (slice_get w.flights f) _ gone

lose_by : (w : World) (f : ℕ) (x : Flight) (s : Stage) (o : Option World) → slice_get w.flights f ≡ Some x → x.stage ≡ s →
    after_lose w f x.lead s ≡ o → step w (event.Lose f) ≡ o
unfolding step
lose_by w f x s o at stage is = bind_by (slice_get w.flights f) _ x at (ap (after_lose w f x.lead) stage ∙ is)

no_lose : (w : World) (f : ℕ) (l : Lead) (s : Stage) → (s ≡ Asking → ⊥) → after_lose w f l s ≡ None
no_lose w f l Asking a = absurd (a refl)
no_lose w f l (Ended o) a = refl
no_lose w f l New a = refl
no_lose w f l Looked a = refl
no_lose w f l (Fallback c) a = refl
no_lose w f l (Parts cs) a = refl
no_lose w f l (Ready o p) a = refl

pub lose_other : (w : World) (f : ℕ) (x : Flight) → slice_get w.flights f ≡ Some x → (x.stage ≡ Asking → ⊥) → step w (event.Lose f) ≡ None
lose_other w f x at a = lose_by w f x x.stage None at refl (no_lose w f x.lead x.stage a)

pub lose_done : (w v : World) (f : ℕ) (x : Flight) → slice_get w.flights f ≡ Some x → x.stage ≡ Asking →
    v ≡ with_stage w f x.lead (Fallback None) → step w (event.Lose f) ≡ Some v
lose_done w v f x at asks hv = lose_by w f x Asking (Some v) at asks (ap (λ (z : World). Some z) (sym hv))

pub local_none : (w : World) (f : ℕ) → slice_get w.flights f ≡ None → step w (event.GoLocal f) ≡ None
unfolding step
local_none w f gone = bind_none (slice_get w.flights f) _ gone

local_by : (w : World) (f : ℕ) (x : Flight) (s : Stage) (o : Option World) → slice_get w.flights f ≡ Some x → x.stage ≡ s →
    after_go_local w f x.lead s ≡ o →
    step w (event.GoLocal f) ≡ o
unfolding step
local_by w f x s o at stage is = bind_by (slice_get w.flights f) _ x at (ap (after_go_local w f x.lead) stage ∙ is)

no_local : (w : World) (f : ℕ) (l : Lead) (s : Stage) → ((c : Option ℕ) → s ≡ Fallback c → ⊥) → after_go_local w f l s ≡ None
no_local w f l (Fallback c) a = absurd (a c refl)
no_local w f l Asking a = refl
no_local w f l (Ended o) a = refl
no_local w f l New a = refl
no_local w f l Looked a = refl
no_local w f l (Parts cs) a = refl
no_local w f l (Ready o p) a = refl

pub local_other : (w : World) (f : ℕ) (x : Flight) → slice_get w.flights f ≡ Some x → ((c : Option ℕ) → x.stage ≡ Fallback c → ⊥) →
    step w (event.GoLocal f) ≡ None
local_other w f x at a = local_by w f x x.stage None at refl (no_local w f x.lead x.stage a)

pub local_called : (w : World) (f : ℕ) (x : Flight) (o : Option ℕ) (c : ℕ) → slice_get w.flights f ≡ Some x → x.stage ≡ Fallback o →
    o ≡ Some c → step w (event.GoLocal f) ≡ None
local_called w f x o c at stage some = local_by w f x (Fallback (Some c)) None at (stage ∙ ap (λ (y : Option ℕ). Fallback y) some) refl

pub local_is : (w : World) (f : ℕ) (x : Flight) (o : Option ℕ) → slice_get w.flights f ≡ Some x → x.stage ≡ Fallback o → o ≡ None →
    step w (event.GoLocal f) ≡ Some (with_calls (with_stage w f x.lead (Fallback (Some (length w.calls))))
    (record { node = x.lead.node; key = x.lead.key; class = Local; purpose = ForFallback f } ∷ []))
local_is w f x o at stage none = local_by w f x (Fallback None) _ at (stage ∙ ap (λ (y : Option ℕ). Fallback y) none) refl

pub local_done : (w m v : World) (f c : ℕ) (x : Flight) (o : Option ℕ) (k : Key) → slice_get w.flights f ≡ Some x → x.stage ≡ Fallback o →
    o ≡ None → k ≡ x.lead.key →
    c ≡ length w.calls → m ≡ with_calls w (record { node = x.lead.node; key = k; class = Local; purpose = ForFallback f } ∷ []) →
    v ≡ with_stage m f x.lead (Fallback (Some c)) → step w (event.GoLocal f) ≡ Some v
local_done w m v f c x o k at stage none hk hc hm hv =
    local_is w f x o at stage none
    ∙ ap (λ (z : World). Some z) (sym (hv ∙ ap (λ (z : World). with_stage z f x.lead (Fallback (Some c))) hm
    ∙ ap (λ (y : Key). with_stage (with_calls w (record { node = x.lead.node; key = y; class = Local; purpose = ForFallback f } ∷ [])) f
    x.lead (Fallback (Some c))) hk
    ∙ ap (λ (n : ℕ). with_stage (with_calls w (record { node = x.lead.node; key = x.lead.key; class = Local; purpose = ForFallback f } ∷
    [])) f x.lead (Fallback (Some n))) hc))
