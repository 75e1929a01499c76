-- When a link is asked: what is known of it after each ask and each end of one. Moments are in milliseconds.
use Rattle.std.specs.Prelude.{ℕ, ◌+◌, ◌-◌, ◌*◌, ◌^◌, ◌==◌, Bool, true, false, Option, Some, None, min, nat_lt, if◌then◌else◌}
use Rattle.iiif_breaker.specs.declared.breaker.Breaker.{Breaker}
use Rattle.iiif_breaker.specs.declared.breaker.State.{State}
use Rattle.iiif_breaker.specs.declared.breaker.State.TheVariants.{Closed, Open, HalfOpen}
use Rattle.iiif_breaker.specs.declared.change.Change.{Change}
use Rattle.iiif_breaker.specs.declared.change.Change.TheVariants.{LeftAlone, AskedAgain}
use Rattle.iiif_breaker.specs.declared.outcome.Outcome.{Outcome}
use Rattle.iiif_breaker.specs.declared.outcome.Outcome.TheVariants.{Answered, Refused, Failed, TimedOut}

-- how long a link is left alone at first, and how long at most
abbrev pub first : ℕ
first = 1000

abbrev pub longest : ℕ
longest = 60000

-- how long before a link would be asked again a look at its node is due
abbrev pub soon : ℕ
soon = 1000

-- nothing is known of a link
abbrev pub unknown : Breaker
unknown = record { state = Closed 0; openings = 0 }

-- left alone for so long from now on: opened once more
abbrev pub opened : ℕ → ℕ → ℕ → Breaker
opened openings now wait = record { state = Open (min (now + wait) (2 ^ 64 - 1)) wait; openings = min (openings + 1) (2 ^ 64 - 1) }

-- whether it may be asked now
abbrev pub is_asked : State → ℕ → Bool
is_asked (Closed faults) now = true
is_asked (Open until wait) now = if nat_lt now until then false else true
is_asked (HalfOpen since wait) now = if nat_lt (now - since) wait then false else true

-- what is known once it was asked, or wasn't since it is left alone
abbrev pub asked_state : State → ℕ → State
asked_state (Closed faults) now = Closed faults
asked_state (Open until wait) now = if nat_lt now until then Open until wait else HalfOpen now wait
asked_state (HalfOpen since wait) now = if nat_lt (now - since) wait then HalfOpen since wait else HalfOpen now wait

abbrev pub asked : Breaker → ℕ → Breaker
asked b now = record { state = asked_state b.state now; openings = b.openings }

-- what is known after a fault of an ask that was made since the link was last opened: `late` where nothing came in its time
abbrev pub failed : State → ℕ → ℕ → Bool → Breaker
failed (Closed faults) openings now late =
    if late then opened openings now first else (
    if nat_lt faults 2 then record { state = Closed (faults + 1); openings = openings } else opened openings now first)
failed (Open until wait) openings now late = record { state = Open until wait; openings = openings }
failed (HalfOpen since wait) openings now late = opened openings now (min (2 * wait) longest)

-- the same of an ask of any number: a fault of one from before changes nothing
abbrev pub faulted : Breaker → ℕ → ℕ → Bool → Breaker
faulted b now number late = if number == b.openings then failed b.state b.openings now late else b

-- what is known once the ask of a number ended so
abbrev pub reported : Breaker → ℕ → ℕ → Outcome → Breaker
reported b now number Answered = record { state = Closed 0; openings = b.openings }
reported b now number Refused = record { state = Closed 0; openings = b.openings }
reported b now number Failed = faulted b now number false
reported b now number TimedOut = faulted b now number true

-- whether its node is to be looked at now: it is asked, or soon would be
abbrev pub is_due : State → ℕ → Bool
is_due s now = is_asked s (min (now + soon) (2 ^ 64 - 1))

-- how long it is left alone where a look at its node is in vain: the first rest where all ask it, else as long again as its last
abbrev pub rest_of : State → ℕ
rest_of (Closed faults) = first
rest_of (Open until wait) = wait
rest_of (HalfOpen since wait) = wait

-- what is known after a look in vain
abbrev pub silent : Breaker → ℕ → Breaker
silent b now = opened b.openings now (rest_of b.state)

abbrev pub is_closed : State → Bool
is_closed (Closed faults) = true
is_closed (Open until wait) = false
is_closed (HalfOpen since wait) = false

-- what is told of a link that was so and is so now: that it is left alone, or asked by all again
abbrev pub change_of : State → State → Option Change
change_of was now =
    if is_closed was then (if is_closed now then None else Some LeftAlone)
    else (if is_closed now then Some AskedAgain else None)
