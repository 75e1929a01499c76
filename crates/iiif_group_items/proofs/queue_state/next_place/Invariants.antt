use Rattle.std.proofs.Common.{ℕ, ◌<◌, ◌≤◌, length}
use Rattle.iiif_group_items.specs.Turns.{at}
use Rattle.iiif_group_items.proofs.queue_state.next_place.Given as goal

-- the least of those so far
abbrev pub invariant-loop-place : goal.invariant-loop-place
invariant-loop-place l =
    (l.least < length l.waiting) × ((i : ℕ) → i < l.place → (at l.waiting l.least).rank ≤ (at l.waiting i).rank)
