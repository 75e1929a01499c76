use Rattle.std.proofs.Common.{◌∙◌}
use Rattle.iiif_world.specs.Code.{world_of}
use Rattle.iiif_world.proofs.Tabled.{dues_stay, answers_stay, outcome_with}
use Rattle.iiif_world.proofs.contents.Contents.settle_landed.Goals as goal

pub settle-requires-clause-outcomes : goal.settle-requires-clause-outcomes
settle-requires-clause-outcomes c =
    let r = c.requires.there in
    let o = outcome_with c.args.value in
    c.in_ok-settling.ensures.outcomes ∙ dues_stay (world_of c.args.self.now) (world_of c.land_at.new.self) r.0.node _
    (c.in_ok-land_at.ensures.ok r.0 r.1 o.0 r.2 o.1)

pub settle-requires-clause-answers : goal.settle-requires-clause-answers
settle-requires-clause-answers c =
    let r = c.requires.there in
    let o = outcome_with c.args.value in
    c.in_ok-settling.ensures.answers ∙ answers_stay (world_of c.args.self.now) (world_of c.land_at.new.self) r.0.node _
    (c.in_ok-land_at.ensures.ok r.0 r.1 o.0 r.2 o.1)
