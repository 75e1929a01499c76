use Rattle.std.proofs.Common.{◌≡◌, drop}
use Rattle.iiif_machine.specs.Worlds.{decided}
use Rattle.iiif_world.specs.Code.{world_of}
use Rattle.iiif_machine.specs.Heard.{heard_all, heard_first}
use Rattle.iiif_world.proofs.contents.Contents.gathered.Given as goal

-- what was heard so far, and what the others know
abbrev pub invariant-loop-call : goal.invariant-loop-call
invariant-loop-call l = heard_all (decided (world_of l.self) l.calls) ≡ heard_first (world_of l.self).scene.faults_early l.first
    (heard_all (decided (world_of l.self) (drop l.call-index l.calls)))
