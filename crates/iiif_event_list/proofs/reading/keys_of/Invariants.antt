use Rattle.std.proofs.Common.{length, ◌-◌}
use Rattle.iiif_event_list.proofs.Bad.{KeysLeft}
use Rattle.iiif_event_list.proofs.Keys.{KeysSoFar}
use Rattle.iiif_event_list.proofs.reading.keys_of.Given as goal

-- the keys of the words so far, behind which the other keys stand
abbrev pub invariant-loop-at : goal.invariant-loop-at
invariant-loop-at l = KeysSoFar l.words l.at l.keys.items × KeysLeft l.words l.at

abbrev pub decreases-loop-at : goal.decreases-loop-at
decreases-loop-at l = length l.words - l.at
