-- How long asks took: how many took at most so long, for each of eight limits.
use Rattle.std.specs.Prelude.{ℕ, ◌+◌, ◌-◌, ◌^◌, [], ◌∷◌, min, nat_lt, if◌then◌else◌, slice_index}
use Rattle.iiif_breaker.specs.Counting.{more}
use Rattle.iiif_breaker.specs.declared.durations.Durations.{Durations}

-- no ask was made
abbrev pub no_time : Durations
no_time = record { within = 0 ∷ 0 ∷ 0 ∷ 0 ∷ 0 ∷ 0 ∷ 0 ∷ 0 ∷ []; all = 0; micros = 0 }

-- one more of those that took at most so long, where this one did
abbrev pub grown : ℕ → ℕ → ℕ → ℕ
grown count micros most = if nat_lt most micros then count else more count

-- the number of a limit
abbrev pub grown_at : Durations → ℕ → ℕ → ℕ → ℕ
grown_at d place micros most = grown (slice_index d.within place) micros most

-- one more took so many microseconds
abbrev pub lasted : Durations → ℕ → Durations
lasted d micros = record {
  within =
      grown_at d 0 micros 1_000 ∷ grown_at d 1 micros 5_000 ∷ grown_at d 2 micros 10_000 ∷ grown_at d 3 micros 50_000
      ∷ grown_at d 4 micros 100_000 ∷ grown_at d 5 micros 500_000 ∷ grown_at d 6 micros 1_000_000 ∷ grown_at d 7 micros 10_000_000 ∷ [];
  all = more d.all;
  micros = min (d.micros + micros) (2 ^ 64 - 1);
}
