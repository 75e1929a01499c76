use Rattle.std.proofs.Common.{◌≡◌, length}
use Rattle.iiif_assemble.proofs.idle.IdleWorkers.new.Given as goal

-- a place for each pass so far
abbrev pub invariant-loop-pass : goal.invariant-loop-pass
invariant-loop-pass g l = length l.places.items ≡ l.pass-index
