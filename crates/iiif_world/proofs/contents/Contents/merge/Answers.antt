use Rattle.std.proofs.lemmas.Option.{slice_get_within}
use Rattle.iiif_world.specs.Code.{world_of}
use Rattle.iiif_world.proofs.Loaded.{merge_done}
use Rattle.iiif_world.proofs.contents.Contents.merge.Goals as goal

pub value_of-requires-clause-there : goal.value_of-requires-clause-there
value_of-requires-clause-there c = slice_get_within (world_of c.args.self.now).flights c.args.flight _ c.requires.loading.1.flight

pub set_stage-requires : goal.set_stage-requires
set_stage-requires c = slice_get_within (world_of c.args.self.now).flights c.args.flight _ c.requires.loading.1.flight

pub returns-clause-ok : goal.returns-clause-ok
returns-clause-ok c =
    let a = c.requires.loading.1 in
    merge_done (world_of c.args.self.now) (world_of c.set_stage.new.self) c.args.flight c.in_ok-value.value c.requires.loading.0 a
    c.requires.sound.proper c.requires.sound.sound.honest
    c.requires.loading.2 (c.in_ok-value.ensures _ a.flight) (c.set_stage.ensures a.lead _ a.flight)
