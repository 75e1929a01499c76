-- Runs of a link.
use Rattle.std.proofs.Common.{◌≡◌, ℕ, ◌+◌, ◌≤◌, ◌<◌, ◌^◌, ◌==◌, true, false, Bool, List, [], ◌∷◌, All, if◌then◌else◌, arith, refl, ap, sym}
use Rattle.std.proofs.Common.{◌∙◌}
use Rattle.iiif_breaker.specs.declared.breaker.Breaker.{Breaker}
use Rattle.iiif_breaker.specs.declared.breaker.State.{State}
use Rattle.iiif_breaker.specs.declared.breaker.State.TheVariants.{Closed, Open, HalfOpen}
use Rattle.iiif_breaker.specs.declared.outcome.Outcome.{Outcome}
use Rattle.iiif_breaker.specs.declared.outcome.Outcome.TheVariants.{Answered, Refused, Failed, TimedOut}
use Rattle.iiif_breaker.specs.Breaking.{asked, asked_state, failed, faulted, first, is_asked, is_closed, longest, opened, reported}
use Rattle.iiif_breaker.specs.Breaking.{rest_of, silent, unknown}
use Rattle.std.proofs.lemmas.List.Elements.{All-tail}
use Rattle.iiif_breaker.specs.Laws.{Event, Would, Ended, InVain, happens, run, is_answer, IsBefore, AreBefore, IsAskedAgain}
use Rattle.iiif_breaker.specs.Laws.{is_open, period, IsUnanswered, IsAskedOnceAPeriod, HasPeriod, IsClosedByAnAnswer, IsLeftAlone}
use Rattle.iiif_breaker.specs.Laws.{IsLeftAloneByALook, IsNeverClosedByALook, IsUnmovedAfterALook, IsUnmovedByLateFaults}

-- what holds of a link, and is kept by a fault that counts, is kept by a fault of any number
kept_if : (P : Breaker → Type 0) (b c : Breaker) (same : Bool) → P b → P c → P (if same then c else b)
kept_if P b c true was is = is
kept_if P b c false was is = was

kept : (P : Breaker → Type 0) (b : Breaker) (now number : ℕ) (late : Bool) → P b → P (failed b.state b.openings now late) →
    P (faulted b now number late)
kept P b now number late was is = kept_if P b (failed b.state b.openings now late) (number == b.openings) was is

-- a link is left alone no longer than a minute from that moment on
abbrev Within : ℕ → State → Type 0
Within last (Closed faults) = Unit {0}
Within last (Open until wait) = (until ≤ last + longest) × (wait ≤ longest)
Within last (HalfOpen since wait) = (since ≤ last) × (wait ≤ longest)

within_asked : (last m : ℕ) (s : State) → Within last s → (is_asked s m ≡ true → m ≤ last) → Within last (asked_state s m)
within_asked last m (Closed faults) w before = w
within_asked last m (Open until wait) w before = grind arith
within_asked last m (HalfOpen since wait) w before = grind arith

within_failed : (last m openings : ℕ) (late : Bool) (s : State) → Within last s → m ≤ last → Within last (failed s openings m late).state
within_failed last m openings late (Closed faults) w before = grind arith
within_failed last m openings late (Open until wait) w before = w
within_failed last m openings late (HalfOpen since wait) w before = grind arith

within_opened : (last m openings wait : ℕ) → m ≤ last → wait ≤ longest → Within last (opened openings m wait).state
within_opened last m openings wait before least = grind arith

within_silent : (last m openings : ℕ) (s : State) → Within last s → m ≤ last → Within last (opened openings m (rest_of s)).state
within_silent last m openings (Closed faults) w before = within_opened last m openings first before (omega arith)
within_silent last m openings (Open until wait) w before = within_opened last m openings wait before w.1
within_silent last m openings (HalfOpen since wait) w before = within_opened last m openings wait before w.1

within_step : (last : ℕ) (b : Breaker) (e : Event) → Within last b.state → IsBefore last b e → Within last (happens b e).state
within_step last b (Would m) w before = within_asked last m b.state w before
within_step last b (Ended m number Answered) w before = record {}
within_step last b (Ended m number Refused) w before = record {}
within_step last b (Ended m number Failed) w before =
    kept (λ c. Within last c.state) b m number false w (within_failed last m b.openings false b.state w (before refl))
within_step last b (Ended m number TimedOut) w before =
    kept (λ c. Within last c.state) b m number true w (within_failed last m b.openings true b.state w (before refl))
within_step last b (InVain m) w before = within_silent last m b.openings b.state w before

within_run : (last : ℕ) (b : Breaker) (es : List Event) → Within last b.state → AreBefore last b es → Within last (run b es).state
within_run last b [] w before = w
within_run last b (e ∷ es) w before = within_run last (happens b e) es (within_step last b e w before.0) before.1

allowed : (last now : ℕ) (s : State) → Within last s → last + longest ≤ now → is_asked s now ≡ true
allowed last now (Closed faults) w late = refl
allowed last now (Open until wait) w late = grind arith
allowed last now (HalfOpen since wait) w late = grind arith

pub asked_again : IsAskedAgain
asked_again events last now before late = allowed last now (run unknown events).state (within_run last unknown events (record {}) before)
    late

-- the periods of a link
abbrev Periods : State → Type 0
Periods (Closed faults) = Unit {0}
Periods (Open until wait) = (first ≤ wait) × (wait ≤ longest)
Periods (HalfOpen since wait) = (first ≤ wait) × (wait ≤ longest)

periods_asked : (m : ℕ) (s : State) → Periods s → Periods (asked_state s m)
periods_asked m (Closed faults) p = p
periods_asked m (Open until wait) p = grind arith
periods_asked m (HalfOpen since wait) p = grind arith

periods_failed : (m openings : ℕ) (late : Bool) (s : State) → Periods s → Periods (failed s openings m late).state
periods_failed m openings late (Closed faults) p = grind arith
periods_failed m openings late (Open until wait) p = p
periods_failed m openings late (HalfOpen since wait) p = grind arith

periods_silent : (m openings : ℕ) (s : State) → Periods s → Periods (opened openings m (rest_of s)).state
periods_silent m openings (Closed faults) p = (omega arith, omega arith)
periods_silent m openings (Open until wait) p = p
periods_silent m openings (HalfOpen since wait) p = p

periods_step : (b : Breaker) (e : Event) → Periods b.state → Periods (happens b e).state
periods_step b (Would m) p = periods_asked m b.state p
periods_step b (Ended m number Answered) p = record {}
periods_step b (Ended m number Refused) p = record {}
periods_step b (Ended m number Failed) p = kept (λ c. Periods c.state) b m number false p (periods_failed m b.openings false b.state p)
periods_step b (Ended m number TimedOut) p = kept (λ c. Periods c.state) b m number true p (periods_failed m b.openings true b.state p)
periods_step b (InVain m) p = periods_silent m b.openings b.state p

periods_run : (b : Breaker) (es : List Event) → Periods b.state → Periods (run b es).state
periods_run b [] p = p
periods_run b (e ∷ es) p = periods_run (happens b e) es (periods_step b e p)

periods_of : (s : State) → Periods s → is_closed s ≡ false → (first ≤ period s) × (period s ≤ longest)
periods_of (Closed faults) p shut = grind arith
periods_of (Open until wait) p shut = p
periods_of (HalfOpen since wait) p shut = p

pub has_period : HasPeriod
has_period events shut = periods_of (run unknown events).state (periods_run unknown events (record {})) shut

-- a link that isn't asked for so long from that moment on
abbrev Rests : ℕ → ℕ → State → Type 0
Rests from p (Closed faults) = ⊥
Rests from p (Open until wait) = (from + p ≤ until) × (p ≤ wait)
Rests from p (HalfOpen since wait) = (from ≤ since) × (p ≤ wait)

rests_asked : (from p m : ℕ) (s : State) → from ≤ m → Rests from p s → Rests from p (asked_state s m)
rests_asked from p m (Closed faults) least r = absurd r
rests_asked from p m (Open until wait) least r = grind arith
rests_asked from p m (HalfOpen since wait) least r = grind arith

rests_failed : (from p m openings : ℕ) (late : Bool) (s : State) → p ≤ longest → from + p < 2 ^ 64 → from ≤ m → Rests from p s →
    Rests from p (failed s openings m late).state
rests_failed from p m openings late (Closed faults) most small least r = absurd r
rests_failed from p m openings late (Open until wait) most small least r = r
rests_failed from p m openings late (HalfOpen since wait) most small least r = grind arith

rests_opened : (from p m openings wait : ℕ) → from + p < 2 ^ 64 → from ≤ m → p ≤ wait → Rests from p (opened openings m wait).state
rests_opened from p m openings wait small least enough = grind arith

rests_silent : (from p m openings : ℕ) (s : State) → from + p < 2 ^ 64 → from ≤ m → Rests from p s →
    Rests from p (opened openings m (rest_of s)).state
rests_silent from p m openings (Closed faults) small least r = absurd r
rests_silent from p m openings (Open until wait) small least r = rests_opened from p m openings wait small least r.1
rests_silent from p m openings (HalfOpen since wait) small least r = rests_opened from p m openings wait small least r.1

rests_step : (from p : ℕ) (b : Breaker) (e : Event) → p ≤ longest → from + p < 2 ^ 64 → IsUnanswered from e → Rests from p b.state →
    Rests from p (happens b e).state
rests_step from p b (Would m) most small un r = rests_asked from p m b.state un r
rests_step from p b (Ended m number Answered) most small un r = grind arith
rests_step from p b (Ended m number Refused) most small un r = grind arith
rests_step from p b (Ended m number Failed) most small un r =
    kept (λ c. Rests from p c.state) b m number false r (rests_failed from p m b.openings false b.state most small un.0 r)
rests_step from p b (Ended m number TimedOut) most small un r =
    kept (λ c. Rests from p c.state) b m number true r (rests_failed from p m b.openings true b.state most small un.0 r)
rests_step from p b (InVain m) most small un r = rests_silent from p m b.openings b.state small un r

rests_run : (from p : ℕ) (b : Breaker) (es : List Event) → p ≤ longest → from + p < 2 ^ 64 → All (IsUnanswered from) es →
    Rests from p b.state → Rests from p (run b es).state
rests_run from p b [] most small un r = r
rests_run from p b (e ∷ es) most small un r = rests_run from p (happens b e) es most small (All-tail (IsUnanswered from) e es un)
    (rests_step from p b e most small (un 0 e (omega arith)) r)

rests_end : (from p to : ℕ) (s : State) → 0 < p → Rests from p s → is_asked s to ≡ true → from + p ≤ to
rests_end from p to (Closed faults) some r now = absurd r
rests_end from p to (Open until wait) some r now = grind arith
rests_end from p to (HalfOpen since wait) some r now = grind arith

rests_begin : (from : ℕ) (s : State) → is_closed s ≡ false → is_asked s from ≡ true → Rests from (period s) (asked_state s from)
rests_begin from (Closed faults) shut now = grind arith
rests_begin from (Open until wait) shut now = grind arith
rests_begin from (HalfOpen since wait) shut now = grind arith

once : (b : Breaker) (from to : ℕ) (between : List Event) → (first ≤ period b.state) × (period b.state ≤ longest) →
    is_closed b.state ≡ false → is_asked b.state from ≡ true → All (IsUnanswered from) between
    → from + period b.state < 2 ^ 64 → is_asked (run (asked b from) between).state to ≡ true → from + period b.state ≤ to
once b from to between p shut now un small allowed_then =
    rests_end from (period b.state) to (run (asked b from) between).state (omega (arith, p.0))
    (rests_run from (period b.state) (asked b from) between p.1 small un (rests_begin from b.state shut now)) allowed_then

pub once_a_period : IsAskedOnceAPeriod
once_a_period before between from to shut now un small allowed_then =
    once (run unknown before) from to between (has_period before shut) shut now un small allowed_then

-- a link that a look found silent is left alone for a second at least
rest_least : (s : State) → Periods s → first ≤ rest_of s
rest_least (Closed faults) p = omega arith
rest_least (Open until wait) p = p.0
rest_least (HalfOpen since wait) p = p.0

pub left_by_look : IsLeftAloneByALook
left_by_look before between from to un small asked_then =
    let b = run unknown before in
    let least = rest_least b.state (periods_run unknown before (record {})) in
    let rests = rests_opened from first from b.openings (rest_of b.state) small (omega arith) least in
    rests_end from first to (run (silent b from) between).state (omega arith)
    (rests_run from first (silent b from) between (omega arith) small un rests) asked_then

pub never_closed : IsNeverClosedByALook
never_closed b moment = refl

pub closed_by : IsClosedByAnAnswer
closed_by b moment number now Answered answers = (refl, refl)
closed_by b moment number now Refused answers = (refl, refl)
closed_by b moment number now Failed answers = grind arith
closed_by b moment number now TimedOut answers = grind arith

-- the same number
same : (n : ℕ) → (n == n) ≡ true
same n = grind arith

counts : (b : Breaker) (now : ℕ) (late : Bool) → faulted b now b.openings late ≡ failed b.state b.openings now late
counts b now late = ap (λ is. if is then failed b.state b.openings now late else b) (same b.openings)

-- a closed link is left alone by the fault that counts
left_by : (faults openings moment now : ℕ) (late : Bool) → (late ≡ false → 2 ≤ faults) → moment + first < 2 ^ 64
    → is_asked (failed (Closed faults) openings moment late).state now ≡ true → moment + first ≤ now
left_by faults openings moment now true third small asked_now = grind arith
left_by faults openings moment now false third small asked_now = grind (arith, third refl)

pub left_alone : IsLeftAlone
left_alone faults openings moment now Answered fault third small asked_now = grind arith
left_alone faults openings moment now Refused fault third small asked_now = grind arith
left_alone faults openings moment now Failed fault third small asked_now =
    left_by faults openings moment now false third small
    (sym (ap (λ (b : Breaker). is_asked b.state now) (counts (record { state = Closed faults; openings = openings }) moment false)) ∙
    asked_now)
left_alone faults openings moment now TimedOut fault third small asked_now =
    left_by faults openings moment now true third small
    (sym (ap (λ (b : Breaker). is_asked b.state now) (counts (record { state = Closed faults; openings = openings }) moment true)) ∙
    asked_now)

-- the number of openings never falls
abbrev Reached : ℕ → Breaker → Type 0
Reached n b = n ≤ b.openings

reached_failed : (n m openings : ℕ) (late : Bool) (s : State) → n < 2 ^ 64 → n ≤ openings → n ≤ (failed s openings m late).openings
reached_failed n m openings late (Closed faults) small r = grind arith
reached_failed n m openings late (Open until wait) small r = r
reached_failed n m openings late (HalfOpen since wait) small r = grind arith

reached_step : (n : ℕ) (b : Breaker) (e : Event) → n < 2 ^ 64 → Reached n b → Reached n (happens b e)
reached_step n b (Would m) small r = r
reached_step n b (Ended m number Answered) small r = r
reached_step n b (Ended m number Refused) small r = r
reached_step n b (Ended m number Failed) small r = kept (Reached n) b m number false r (reached_failed n m b.openings false b.state small r)
reached_step n b (Ended m number TimedOut) small r = kept (Reached n) b m number true r (reached_failed n m b.openings true b.state small r)
reached_step n b (InVain m) small r = grind arith

reached_run : (n : ℕ) (b : Breaker) (es : List Event) → n < 2 ^ 64 → Reached n b → Reached n (run b es)
reached_run n b [] small r = r
reached_run n b (e ∷ es) small r = reached_run n (happens b e) es small (reached_step n b e small r)

-- a fault that opens a link counts the opening
counts_opening : (m openings : ℕ) (late : Bool) (s : State) → openings + 1 < 2 ^ 64 → is_open s ≡ false →
    is_open (failed s openings m late).state ≡ true → openings + 1 ≤ (failed s openings m late).openings
counts_opening m openings late (Closed faults) small was is = grind arith
counts_opening m openings late (Open until wait) small was is = grind arith
counts_opening m openings late (HalfOpen since wait) small was is = grind arith

counts_faulted : (b : Breaker) (m : ℕ) (late : Bool) → b.openings + 1 < 2 ^ 64 → is_open b.state ≡ false →
    is_open (faulted b m b.openings late).state ≡ true → b.openings + 1 ≤ (faulted b m b.openings late).openings
counts_faulted b m late small was is =
    let same = counts b m late in
    let by = counts_opening m b.openings late b.state small was (sym (ap (λ (c : Breaker). is_open c.state) same) ∙ is) in
    omega (arith, by, ap (λ (c : Breaker). c.openings) same)

counts_reported : (b : Breaker) (m : ℕ) (outcome : Outcome) → b.openings + 1 < 2 ^ 64 → is_open b.state ≡ false →
    is_open (reported b m b.openings outcome).state ≡ true → b.openings + 1 ≤ (reported b m b.openings outcome).openings
counts_reported b m Answered small was is = grind arith
counts_reported b m Refused small was is = grind arith
counts_reported b m Failed small was is = counts_faulted b m false small was is
counts_reported b m TimedOut small was is = counts_faulted b m true small was is

-- a fault of another number changes nothing
other : (n k : ℕ) → n < k → (n == k) ≡ false
other n k below = grind arith

unmoved_faulted : (b : Breaker) (m number : ℕ) (late : Bool) → number < b.openings → faulted b m number late ≡ b
unmoved_faulted b m number late below = ap (λ is. if is then failed b.state b.openings m late else b) (other number b.openings below)

unmoved : (b : Breaker) (m number : ℕ) (late : Outcome) → is_answer late ≡ false → number < b.openings → reported b m number late ≡ b
unmoved b m number Answered fault below = grind arith
unmoved b m number Refused fault below = grind arith
unmoved b m number Failed fault below = unmoved_faulted b m number false below
unmoved b m number TimedOut fault below = unmoved_faulted b m number true below

pub unmoved_by : IsUnmovedByLateFaults
unmoved_by b moment later outcome late between small was is fault =
    let c = reported b moment b.openings outcome in
    let above = reached_run (b.openings + 1) c between small (counts_reported b moment outcome small was is) in
    unmoved (run c between) later b.openings late fault (omega (arith, above))

pub unmoved_after_look : IsUnmovedAfterALook
unmoved_after_look b moment later late between small fault =
    let c = silent b moment in
    let above = reached_run (b.openings + 1) c between small (grind arith) in
    unmoved (run c between) later b.openings late fault (omega (arith, above))
