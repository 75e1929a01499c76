-- How often a link was asked. Counts stay at the greatest number of 64 bits.
use Rattle.std.specs.Prelude.{ℕ, ◌+◌, ◌-◌, ◌^◌, ◌==◌, Bool, true, false, min, if◌then◌else◌}
use Rattle.iiif_breaker.specs.declared.counts.Asks.{Asks}
use Rattle.iiif_breaker.specs.declared.outcome.Outcome.{Outcome}
use Rattle.iiif_breaker.specs.declared.outcome.Outcome.TheVariants.{Answered, Refused, Failed, TimedOut}

-- one more
abbrev pub more : ℕ → ℕ
more n = min (n + 1) (2 ^ 64 - 1)

-- none was made
abbrev pub none : Asks
none = record { answered = 0; refused = 0; failed = 0; timed_out = 0; skipped = 0 }

-- one more ended so
abbrev pub counted : Asks → Outcome → Asks
counted a Answered = record {
  answered = more a.answered;
  refused = a.refused;
  failed = a.failed;
  timed_out = a.timed_out;
  skipped =
      a.skipped;
}
counted a Refused = record {
  answered = a.answered;
  refused = more a.refused;
  failed = a.failed;
  timed_out = a.timed_out;
  skipped =
      a.skipped;
}
counted a Failed = record {
  answered = a.answered;
  refused = a.refused;
  failed = more a.failed;
  timed_out = a.timed_out;
  skipped =
      a.skipped;
}
counted a TimedOut = record {
  answered = a.answered;
  refused = a.refused;
  failed = a.failed;
  timed_out = more a.timed_out;
  skipped =
      a.skipped;
}

-- one more wasn't made, since the link was left alone
abbrev pub skipped : Asks → Asks
skipped a = record { answered = a.answered; refused = a.refused; failed = a.failed; timed_out = a.timed_out; skipped = more a.skipped }

-- whether a node answered any since these were all, be it by a refusal
abbrev pub has_answers_since : Asks → Asks → Bool
has_answers_since a before = if a.answered == before.answered then (if a.refused == before.refused then false else true) else true
