use Rattle.std.proofs.Common.{ap, ◌∙◌}
use Rattle.std.specs.Prelude.{slice_get}
use Rattle.iiif_machine.specs.Worlds.{World}
use Rattle.iiif_machine.specs.declared.rows.Stage.TheVariants.{Looked}
use Rattle.iiif_world.specs.Code.{world_of}
use Rattle.iiif_world.proofs.Loaded.{split_done}
use Rattle.iiif_world.proofs.contents.Contents.split.Goals as goal

pub returns-clause-ok : goal.returns-clause-ok
returns-clause-ok c =
    let w = world_of c.args.self.now in
    let a = c.requires.loading.0 in
    let r = c.in_ok-calls.ensures a in
    let at = ap (λ (z : World). slice_get z.flights c.args.flight) c.in_ok-add_calls.ensures.ok ∙ a.flight in
    split_done w (world_of c.add_calls.new.self) (world_of c.set_stage.new.self) c.args.flight r.0 c.in_ok-calls.calls.items c.new.result a
    r.1 r.2 (c.new.ensures ∙ r.3)
    c.in_ok-add_calls.ensures.ok (c.set_stage.ensures a.lead Looked at)
