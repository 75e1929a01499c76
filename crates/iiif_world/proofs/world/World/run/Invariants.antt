use Rattle.std.proofs.Common.{◌≡◌, Some, take}
use Rattle.iiif_machine.specs.Steps.{run}
use Rattle.iiif_machine.specs.Promises.{Follows}
use Rattle.iiif_world.specs.Code.{world_of, IsSoundWorld}
use Rattle.iiif_world.proofs.world.World.run.Given as goal

-- the world after the events so far, which takes back nothing
abbrev pub invariant-loop-place : goal.invariant-loop-place
invariant-loop-place l = (run (world_of l.fn.self) (take l.place l.events) ≡ Some (world_of l.world)) × IsSoundWorld (world_of l.world) ×
    Follows (world_of l.fn.self) (world_of l.world)
