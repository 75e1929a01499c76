use Rattle.std.proofs.Common.{◌≡◌, ◌≤◌, length, vec_len}
use Rattle.iiif_world.specs.Settling.{joined, ready_if}
use Rattle.iiif_world.proofs.settling.put_outcomes.Given as goal

-- what is left makes the same of the flights
abbrev pub invariant-loop-outcome : goal.invariant-loop-outcome
invariant-loop-outcome l = (length l.left.items ≤ length l.flights.items)
    × (joined ready_if l.flights.items l.left.items ≡ joined ready_if l.fn.flights.items l.fn.outcomes.items)

abbrev pub decreases-loop-outcome : goal.decreases-loop-outcome
decreases-loop-outcome l = vec_len l.left
