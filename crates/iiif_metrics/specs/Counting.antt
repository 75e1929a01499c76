-- What is counted of answers and connections.
use Rattle.std.specs.Prelude.{ℕ, ◌+◌, ◌-◌, ◌==◌, [], ◌∷◌, if◌then◌else◌, slice_index, slice_set}
use Rattle.iiif_io.specs.Counting.{capped}
use Rattle.iiif_metrics.specs.declared.counts.Counts.{Counts}
use Rattle.iiif_log.specs.declared.answered.CutCause.{CutCause}
use Rattle.iiif_log.specs.declared.answered.CutCause.TheVariants.{Viewer, Slow, Rate, Source, Memory, Ousted}
use Rattle.iiif_metrics.specs.declared.counts.Visitors.{Visitors}
use Rattle.iiif_metrics.specs.declared.counts.Visitors.TheVariants.{Viewers, Peers, Statistics}

-- the place of a status (RFC 9110, section 15) among the counts: those that the server gives, and last all others
abbrev pub place_of : ℕ → ℕ
place_of s =
    if s == 200 then 0 else if s == 303 then 1 else if s == 400 then 2 else if s == 404 then 3
    else if s == 405 then 4 else if s == 500 then 5 else if s == 501 then 6 else 7

-- nothing yet
abbrev pub no_counts : Counts
no_counts = record {
  whole = 0 ∷ 0 ∷ 0 ∷ 0 ∷ 0 ∷ 0 ∷ 0 ∷ 0 ∷ [];
  cut = 0 ∷ 0 ∷ 0 ∷ 0 ∷ 0 ∷ 0 ∷ [];
  bytes = 0;
  open_now = 0 ∷ 0 ∷ 0 ∷ [];
  refused = 0 ∷ 0 ∷ 0 ∷ [];
  ousted = 0 ∷ 0 ∷ 0 ∷ [];
}

-- one more whole answer of a status, of so many bytes
abbrev pub with_answer : ℕ → ℕ → Counts → Counts
with_answer status bytes c = record c {
  whole = slice_set c.whole (place_of status) (capped (slice_index c.whole (place_of status) + 1));
  bytes = capped (c.bytes + bytes);
}

-- the place of a cause among the counts
abbrev pub cause_place : CutCause → ℕ
cause_place Viewer = 0
cause_place Slow = 1
cause_place Rate = 2
cause_place Source = 3
cause_place Memory = 4
cause_place Ousted = 5

-- one more answer that was cut off for a cause behind so many bytes
abbrev pub with_cut : CutCause → ℕ → Counts → Counts
with_cut cause bytes c = record c {
  cut = slice_set c.cut (cause_place cause) (capped (slice_index c.cut (cause_place cause) + 1));
  bytes = capped (c.bytes + bytes);
}

-- the place of these visitors' connections among the counts
abbrev pub listener_place : Visitors → ℕ
listener_place Viewers = 0
listener_place Peers = 1
listener_place Statistics = 2

-- one more connection of theirs is open
abbrev pub with_opened : Visitors → Counts → Counts
with_opened v c = record c { open_now = slice_set c.open_now (listener_place v) (capped (slice_index c.open_now (listener_place v) + 1)) }

-- one is open no more
abbrev pub with_closed : Visitors → Counts → Counts
with_closed v c = record c { open_now = slice_set c.open_now (listener_place v) (slice_index c.open_now (listener_place v) - 1) }

-- one more was closed unanswered
abbrev pub with_refused : Visitors → Counts → Counts
with_refused v c = record c { refused = slice_set c.refused (listener_place v) (capped (slice_index c.refused (listener_place v) + 1)) }

-- of one more another has the place
abbrev pub with_ousted : Visitors → Counts → Counts
with_ousted v c = record c { ousted = slice_set c.ousted (listener_place v) (capped (slice_index c.ousted (listener_place v) + 1)) }
