use Rattle.std.proofs.Common.{take}
use Rattle.iiif_listener.specs.Places.{rank}
use Rattle.iiif_listener.proofs.RankingLemmas.{IsChosen}
use Rattle.iiif_listener.proofs.ranking.first_ranked.Given as goal

-- the one among those so far
abbrev pub invariant-loop-place : goal.invariant-loop-place
invariant-loop-place l = IsChosen (rank l.ranking l.seats) (take l.place l.seats) l.found
