use Rattle.std.proofs.Common.{◌≡◌, ℕ, ◌<◌}
use Rattle.iiif_group_items.specs.Turns.{at}
use Rattle.iiif_group_items.proofs.queue_state.place_of.Given as goal

-- none of those so far
abbrev pub invariant-loop-place : goal.invariant-loop-place
invariant-loop-place l = (i : ℕ) → i < l.place → (at l.waiting i).number ≡ l.number → ⊥
