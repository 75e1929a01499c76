use Rattle.std.proofs.Common.{◌≡◌, map, take}
use Rattle.iiif_world.specs.Code.{world_of}
use Rattle.iiif_world.specs.Settling.{answer_due}
use Rattle.iiif_world.proofs.contents.Contents.answers_due.Given as goal

-- those of the requests so far
abbrev pub invariant-loop-wanted : goal.invariant-loop-wanted
invariant-loop-wanted l = l.all.items ≡ map (answer_due (world_of l.self)) (take l.wanted-index l.self.requests.items)
