-- The least rate at which an answer is to be taken: how its writes are judged. A write took so many milliseconds and so many bytes.
use Rattle.std.specs.Prelude.{◌≡◌, ℕ, ◌+◌, ◌-◌, ◌*◌, ◌^◌, ◌<◌, ◌≤◌, ◌==◌, ◌⊎◌, Bool, true, false, List, [], ◌∷◌, All, min, sum_by, nat_lt}
use Rattle.std.specs.Prelude.{nat_le, if◌then◌else◌}
use Rattle.iiif_listener.specs.declared.flow.Flow.{Flow}
use Rattle.iiif_listener.specs.declared.flow.Rate.{Rate}

-- how long a write of so many milliseconds waited for its reader: not at all, where it took less than fifty
abbrev pub waited_for : ℕ → ℕ
waited_for millis = if nat_lt millis 50 then 0 else millis

-- nothing was written yet
abbrev pub begun : Rate → Flow
begun rate = record { rate = rate; waited = 0; taken = 0 }

-- a sum that stays at the greatest number of 64 bits
abbrev pub plus : ℕ → ℕ → ℕ
plus a b = min (a + b) (2 ^ 64 - 1)

-- so many bytes in so many milliseconds are the rate at least
abbrev pub is_enough : Rate → ℕ → ℕ → Bool
is_enough rate waited bytes = nat_le (rate.bytes * waited) (1000 * bytes)

-- whether the answer goes on behind a write: one that took no time says nothing, and within a period nothing is said yet
abbrev pub goes_on : Flow → ℕ → ℕ → Bool
goes_on f waited bytes =
    if waited == 0 then true else (
    if nat_lt (plus f.waited waited) f.rate.period then true else is_enough f.rate (plus f.waited waited) (plus f.taken bytes))

-- what is known of it then
abbrev pub taken_by : Flow → ℕ → ℕ → Flow
taken_by f waited bytes =
    if waited == 0 then f else (
    if nat_lt (plus f.waited waited) f.rate.period then record { rate = f.rate; waited = plus f.waited waited; taken = plus f.taken bytes }
    else begun f.rate)

-- whether it goes on behind all of these writes
abbrev pub goes_on_behind : Flow → List (ℕ × ℕ) → Bool
goes_on_behind f [] = true
goes_on_behind f ((waited, bytes) ∷ more) = if goes_on f waited bytes then goes_on_behind (taken_by f waited bytes) more else false

-- a write at the rate or above it, or one that took no time
abbrev pub IsAbove : Rate → ℕ × ℕ → Type 0
IsAbove rate write = (write.0 ≡ 0) ⊎ (rate.bytes * write.0 ≤ 1000 * write.1)

-- a write below the rate, or one that took no time
abbrev pub IsBelow : Rate → ℕ × ℕ → Type 0
IsBelow rate write = (write.0 ≡ 0) ⊎ (1000 * write.1 < rate.bytes * write.0)

-- all bytes and all milliseconds can be counted
abbrev pub CanBeCounted : List (ℕ × ℕ) → Type 0
CanBeCounted writes = (sum_by (λ (w : ℕ × ℕ). w.0) writes < 2 ^ 64) × (sum_by (λ (w : ℕ × ℕ). w.1) writes < 2 ^ 64)

-- who takes each write at the rate or above is never cut
abbrev pub IsNeverCutAbove : Type 0
IsNeverCutAbove = (rate : Rate) (writes : List (ℕ × ℕ)) → CanBeCounted writes → All (IsAbove rate) writes →
    goes_on_behind (begun rate) writes ≡ true

-- who takes each write below it is cut once it was waited for a period
abbrev pub IsAlwaysCutBelow : Type 0
IsAlwaysCutBelow = (rate : Rate) (writes : List (ℕ × ℕ)) → CanBeCounted writes → All (IsBelow rate) writes → 0 < rate.period
    → rate.period ≤ sum_by (λ (w : ℕ × ℕ). w.0) writes → goes_on_behind (begun rate) writes ≡ false
