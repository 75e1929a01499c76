use Rattle.std.proofs.Common.{Some, sym, ap, ◌∙◌}
use Rattle.iiif_pixel.specs.Picture.{Picture}
use Rattle.iiif_machine.specs.Worlds.{decided}
use Rattle.iiif_machine.specs.declared.rows.Answer.TheVariants.{Image}
use Rattle.iiif_world.specs.Code.{world_of}
use Rattle.iiif_machine.specs.Heard.{heard_all}
use Rattle.iiif_world.proofs.Meant.{is_ready, scalable, due_value}
use Rattle.iiif_world.proofs.contents.Contents.answer_of.Goals as goal

pub image-requires-clause-inside : goal.image-requires-clause-inside
image-requires-clause-inside c =
    (is_ready (world_of c.args.self.now) c.requires.there.0 c.args.wanted.now c.in-Waiting.resolved c.in-Waiting.calls c.in-Some.picture.now
    c.requires.proper c.requires.honest
    c.requires.there.1 c.in-Waiting.is c.in-Some.ensures).solved.inside

pub image-requires-clause-sizes : goal.image-requires-clause-sizes
image-requires-clause-sizes c =
    let r = is_ready (world_of c.args.self.now) c.requires.there.0 c.args.wanted.now c.in-Waiting.resolved c.in-Waiting.calls
    c.in-Some.picture.now c.requires.proper c.requires.honest
    c.requires.there.1 c.in-Waiting.is c.in-Some.ensures in
    scalable _ _ _ c.in-Waiting.resolved r.solved r.source.readable.area

pub image-requires-clause-quarters : goal.image-requires-clause-quarters
image-requires-clause-quarters c =
    (is_ready (world_of c.args.self.now) c.requires.there.0 c.args.wanted.now c.in-Waiting.resolved c.in-Waiting.calls c.in-Some.picture.now
    c.requires.proper c.requires.honest
    c.requires.there.1 c.in-Waiting.is c.in-Some.ensures).solved.quarters

pub returns-in_ok-image-in-Value : goal.returns-in_ok-image-in-Value
returns-in_ok-image-in-Value c =
    let w = world_of c.args.self.now in
    let r = is_ready w c.requires.there.0 c.args.wanted.now c.in-Waiting.resolved c.in-Waiting.calls c.in-Some.picture.now c.requires.proper
    c.requires.honest
    c.requires.there.1 c.in-Waiting.is c.in-Some.ensures in
    ap (λ (x : Picture). Some (Image x)) c.in_ok-image-in-Value.ensures
    ∙ sym (due_value w c.args.wanted.now c.in-Waiting.resolved c.in-Waiting.calls c.in-Some.picture.now c.gathered.result r c.in-Waiting.is
    c.in-Some.ensures
    (c.gathered.ensures ∙ ap (λ cs. heard_all (decided w cs)) c.items.ensures) c.in-Value.is)
