use Rattle.std.proofs.Common.{◌≡◌, map, take}
use Rattle.iiif_world.specs.Code.{world_of}
use Rattle.iiif_world.specs.Settling.{due}
use Rattle.iiif_world.proofs.contents.Contents.outcomes_due.Given as goal

-- those of the flights so far
abbrev pub invariant-loop-flight : goal.invariant-loop-flight
invariant-loop-flight l = l.all.items ≡ map (due (world_of l.self)) (take l.flight-index l.self.flights.items)
