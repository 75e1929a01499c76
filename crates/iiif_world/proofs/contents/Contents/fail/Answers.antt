use Rattle.std.proofs.lemmas.Option.{slice_get_within}
use Rattle.iiif_world.specs.Code.{world_of}
use Rattle.iiif_world.proofs.Loaded.{fail_done}
use Rattle.iiif_world.proofs.contents.Contents.fail.Goals as goal

pub set_stage-requires : goal.set_stage-requires
set_stage-requires c = slice_get_within (world_of c.args.self.now).flights c.args.flight _ c.requires.1.flight

pub returns : goal.returns
returns c =
    let a = c.requires.1 in
    fail_done (world_of c.args.self.now) (world_of c.set_stage.new.self) c.args.flight c.args.fault c.requires.0 a c.requires.2
    (c.set_stage.ensures a.lead _ a.flight)
