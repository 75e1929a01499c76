use Rattle.std.proofs.Common.{◌≡◌, ◌≤◌, length, vec_len}
use Rattle.iiif_world.specs.Settling.{joined, answered_if}
use Rattle.iiif_world.proofs.settling.put_answers.Given as goal

-- what is left makes the same of the requests
abbrev pub invariant-loop-answer : goal.invariant-loop-answer
invariant-loop-answer l = (length l.left.items ≤ length l.requests.items)
    × (joined answered_if l.requests.items l.left.items ≡ joined answered_if l.fn.requests.items l.fn.answers.items)

abbrev pub decreases-loop-answer : goal.decreases-loop-answer
decreases-loop-answer l = vec_len l.left
