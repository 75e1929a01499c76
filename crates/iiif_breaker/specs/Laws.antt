-- What holds of a link whatever comes.
use Rattle.std.specs.Prelude.{◌≡◌, ℕ, ◌+◌, ◌≤◌, ◌<◌, ◌^◌, Bool, true, false, List, [], ◌∷◌, All}
use Rattle.iiif_breaker.specs.declared.breaker.Breaker.{Breaker}
use Rattle.iiif_breaker.specs.declared.breaker.State.{State}
use Rattle.iiif_breaker.specs.declared.breaker.State.TheVariants.{Closed, Open, HalfOpen}
use Rattle.iiif_breaker.specs.declared.outcome.Outcome.{Outcome}
use Rattle.iiif_breaker.specs.declared.outcome.Outcome.TheVariants.{Answered, Refused, Failed, TimedOut}
use Rattle.iiif_breaker.specs.Breaking.{asked, first, is_asked, is_closed, longest, reported, silent, unknown}

-- what comes at a moment: somebody would ask, the ask of a number ended so, or a look at the node was in vain
pub data Event : Type 0 where
  Would : (moment : ℕ) → Event
  Ended : (moment number : ℕ) → (outcome : Outcome) → Event
  InVain : (moment : ℕ) → Event

-- what is known after it
abbrev pub happens : Breaker → Event → Breaker
happens b (Would moment) = asked b moment
happens b (Ended moment number outcome) = reported b moment number outcome
happens b (InVain moment) = silent b moment

-- what is known after all of these
abbrev pub run : Breaker → List Event → Breaker
run b [] = b
run b (e ∷ es) = run (happens b e) es

-- an ask that ended with a reply, be it a value or a refusal, and one of which nothing came in its time
abbrev pub is_answer : Outcome → Bool
is_answer Answered = true
is_answer Refused = true
is_answer Failed = false
is_answer TimedOut = false

abbrev pub is_late : Outcome → Bool
is_late Answered = false
is_late Refused = false
is_late Failed = false
is_late TimedOut = true

-- no failure, no ask that was allowed and no look in vain came after that moment
abbrev pub IsBefore : ℕ → Breaker → Event → Type 0
IsBefore last b (Would moment) = is_asked b.state moment ≡ true → moment ≤ last
IsBefore last b (Ended moment number outcome) = is_answer outcome ≡ false → moment ≤ last
IsBefore last b (InVain moment) = moment ≤ last

abbrev pub AreBefore : ℕ → Breaker → List Event → Type 0
AreBefore last b [] = Unit {0}
AreBefore last b (e ∷ es) = IsBefore last b e × AreBefore last (happens b e) es

-- a link is asked again at the latest so long after the last failure, the last ask and the last look in vain
abbrev pub IsAskedAgain : Type 0
IsAskedAgain = (events : List Event) (last now : ℕ) → AreBefore last unknown events → last + longest ≤ now →
    is_asked (run unknown events).state now ≡ true

abbrev pub is_open : State → Bool
is_open (Closed faults) = false
is_open (Open until wait) = true
is_open (HalfOpen since wait) = false

abbrev pub period : State → ℕ
period (Closed faults) = 0
period (Open until wait) = wait
period (HalfOpen since wait) = wait

-- no answer came, and nothing before that moment
abbrev pub IsUnanswered : ℕ → Event → Type 0
IsUnanswered from (Would moment) = from ≤ moment
IsUnanswered from (Ended moment number outcome) = (from ≤ moment) × (is_answer outcome ≡ false)
IsUnanswered from (InVain moment) = from ≤ moment

-- of a link that is left alone for so long: this is a second at least, and a minute at most; and where an ask was allowed, none is for as
-- long, unless an answer came
abbrev pub IsAskedOnceAPeriod : Type 0
IsAskedOnceAPeriod = (before between : List Event) (from to : ℕ) → is_closed (run unknown before).state ≡ false
    → is_asked (run unknown before).state from ≡ true → All (IsUnanswered from) between
    → from + period (run unknown before).state < 2 ^ 64 → is_asked (run (asked (run unknown before) from) between).state to ≡ true
    → from + period (run unknown before).state ≤ to

abbrev pub HasPeriod : Type 0
HasPeriod = (events : List Event) → is_closed (run unknown events).state ≡ false
    → (first ≤ period (run unknown events).state) × (period (run unknown events).state ≤ longest)

-- whatever came before, after an answer of any ask it is closed, and then it is asked at any moment
abbrev pub IsClosedByAnAnswer : Type 0
IsClosedByAnAnswer = (b : Breaker) (moment number now : ℕ) (outcome : Outcome) → is_answer outcome ≡ true
    → ((reported b moment number outcome).state ≡ Closed 0) × (is_asked (reported b moment number outcome).state now ≡ true)

-- a closed link is left alone for a second after an ask of its number that nothing came of in its time, and after a third fault in a row
abbrev pub IsLeftAlone : Type 0
IsLeftAlone = (faults openings moment now : ℕ) (outcome : Outcome) → is_answer outcome ≡ false → (is_late outcome ≡ false → 2 ≤ faults) →
    moment + first < 2 ^ 64
    → is_asked (reported (record { state = Closed faults; openings = openings }) moment openings outcome).state now ≡ true →
    moment + first ≤ now

-- once a fault opened a link, whatever comes then, a fault of an ask from before changes nothing: it is no fault of a later ask
abbrev pub IsUnmovedByLateFaults : Type 0
IsUnmovedByLateFaults = (b : Breaker) (moment later : ℕ) (outcome late : Outcome) (between : List Event) → b.openings + 1 < 2 ^ 64
    → is_open b.state ≡ false → is_open (reported b moment b.openings outcome).state ≡ true → is_answer late ≡ false
    → reported (run (reported b moment b.openings outcome) between) later b.openings late ≡ run (reported b moment b.openings outcome)
    between

-- whatever came before, after a look in vain none is allowed to ask for a second at least, unless an answer came
abbrev pub IsLeftAloneByALook : Type 0
IsLeftAloneByALook = (before between : List Event) (from to : ℕ) → All (IsUnanswered from) between → from + first < 2 ^ 64
    → is_asked (run (silent (run unknown before) from) between).state to ≡ true → from + first ≤ to

-- no look in vain leaves a link that all ask
abbrev pub IsNeverClosedByALook : Type 0
IsNeverClosedByALook = (b : Breaker) (moment : ℕ) → is_closed (silent b moment).state ≡ false

-- once a look in vain left a link alone, whatever comes then, a fault of an ask from before changes nothing
abbrev pub IsUnmovedAfterALook : Type 0
IsUnmovedAfterALook = (b : Breaker) (moment later : ℕ) (late : Outcome) (between : List Event) → b.openings + 1 < 2 ^ 64
    → is_answer late ≡ false → reported (run (silent b moment) between) later b.openings late ≡ run (silent b moment) between
