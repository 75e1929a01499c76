use Rattle.std.proofs.Common.{◌≡◌, Some, subst}
use Rattle.std.specs.Prelude.{slice_get, MatchOption}
use Rattle.iiif_machine.specs.Worlds.{answers}
use Rattle.iiif_machine.specs.declared.rows.Answer.{Answer}
use Rattle.iiif_world.specs.Code.{world_of}
use Rattle.iiif_world.proofs.Right.{one_right}
use Rattle.iiif_world.proofs.world.World.answer.Goals as goal

pub returns-clause-right : goal.returns-clause-right
returns-clause-right c =
    one_right (world_of c.args.self.now) c.args.request c.answer.result c.contents.ensures.sound
    (subst (λ x. MatchOption c.answer.result ((a : Answer) → slice_get (answers (world_of x)) c.args.request ≡ Some (Some a) → ⊥)
    (λ a. slice_get (answers (world_of x)) c.args.request ≡ Some (Some a.now)))
    c.contents.ensures.contents c.answer.ensures)
