use Rattle.std.proofs.Common.{sym, ◌∙◌}
use Rattle.iiif_machine.specs.declared.events.Event.TheVariants.{Load}
use Rattle.iiif_world.specs.Code.{world_of}
use Rattle.iiif_world.proofs.Allowing.{wants_memory, looked_allowed, merge_allowed}
use Rattle.iiif_world.proofs.Loaded.{wait_done}
use Rattle.iiif_world.proofs.contents.Contents.load.Goals as goal

pub returns-in-Merge-Nothing-clause-not_now : goal.returns-in-Merge-Nothing-clause-not_now
returns-in-Merge-Nothing-clause-not_now c = λ same.
    let r = c.in-Merge-Nothing.ensures in
    wait_done (world_of c.args.self.now) c.args.flight r.0 r.1 (sym c.in-Merge-Nothing.field-0-is ∙ r.2)

pub returns-in-Read-clause-no_memory : goal.returns-in-Read-clause-no_memory
returns-in-Read-clause-no_memory c =
    let w = world_of c.args.self.now in
    wants_memory w (Load c.args.flight) c.read.result c.requires.sound (looked_allowed w c.args.flight c.in-Read.ensures.0)

pub returns-in-Split-clause-no_memory : goal.returns-in-Split-clause-no_memory
returns-in-Split-clause-no_memory c =
    let w = world_of c.args.self.now in
    wants_memory w (Load c.args.flight) c.split.result c.requires.sound (looked_allowed w c.args.flight c.in-Split.ensures.0)

pub returns-in-Merge-Value-clause-no_memory : goal.returns-in-Merge-Value-clause-no_memory
returns-in-Merge-Value-clause-no_memory c =
    let w = world_of c.args.self.now in
    wants_memory w (Load c.args.flight) c.merge.result c.requires.sound
    (merge_allowed w c.args.flight c.in-Merge-Value.ensures.0 c.in-Merge-Value.ensures.1
    (sym c.in-Merge-Value.field-0-is ∙ c.in-Merge-Value.ensures.2))
