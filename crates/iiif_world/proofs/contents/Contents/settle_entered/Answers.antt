use Rattle.std.proofs.Common.{◌∙◌}
use Rattle.iiif_world.specs.Code.{world_of}
use Rattle.iiif_world.proofs.Tabled.{dues_stay, answers_stay}
use Rattle.iiif_world.proofs.contents.Contents.settle_entered.Goals as goal

pub settle-requires-clause-outcomes : goal.settle-requires-clause-outcomes
settle-requires-clause-outcomes c =
    let r = c.requires.there in
    c.in_ok-settling.ensures.outcomes ∙ dues_stay (world_of c.args.self.now) (world_of c.enter_at.new.self) r.0.node _
    (c.in_ok-_met.ensures.node r.0 r.1 r.2)

pub settle-requires-clause-answers : goal.settle-requires-clause-answers
settle-requires-clause-answers c =
    let r = c.requires.there in
    c.in_ok-settling.ensures.answers ∙ answers_stay (world_of c.args.self.now) (world_of c.enter_at.new.self) r.0.node _
    (c.in_ok-_met.ensures.node r.0 r.1 r.2)
