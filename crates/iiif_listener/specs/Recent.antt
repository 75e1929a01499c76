-- How fast a connection took what it was sent of late.
use Rattle.std.specs.Prelude.{ℕ, ◌-◌, ◌*◌, ◌/◌, ◌^◌, Option, Some, None, if◌then◌else◌, min, nat_le, nat_lt}
use Rattle.iiif_listener.specs.Flow.{plus}
use Rattle.iiif_listener.specs.declared.recent.Recent.{Recent}

-- a rate is that of ten seconds in which it was waited for, in milliseconds
abbrev pub period : ℕ
period = 10000

-- and counts for twenty
abbrev pub counts_for : ℕ
counts_for = 20000

-- the bytes a second that aren't slow
abbrev pub least : ℕ
least = 64000

-- nothing was sent yet
abbrev pub unknown : Recent
unknown = record { waited = 0; taken = 0; rate = 2 ^ 64 - 1; ended = 0 }

-- so many bytes in so many milliseconds, in bytes a second
abbrev pub rate_of : ℕ → ℕ → ℕ
rate_of waited bytes = min (bytes * 1000) (2 ^ 64 - 1) / waited

-- behind a write that ended then, took so many milliseconds and so many bytes
abbrev pub taken_late : Recent → ℕ → ℕ → ℕ → Recent
taken_late r now waited bytes =
    if nat_lt (plus r.waited waited) period then record r { waited = plus r.waited waited; taken = plus r.taken bytes }
    else record { waited = 0; taken = 0; rate = rate_of (plus r.waited waited) (plus r.taken bytes); ended = now }

-- the rate, where it is slow and still counts
abbrev pub slow_rate : Recent → ℕ → Option ℕ
slow_rate r now = if nat_lt r.rate least then (if nat_le (now - r.ended) counts_for then Some r.rate else None) else None
