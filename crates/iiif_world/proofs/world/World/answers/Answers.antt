use Rattle.std.proofs.Common.{◌≡◌, subst}
use Rattle.std.specs.Prelude.{IfOk}
use Rattle.iiif_machine.specs.Worlds.{answers}
use Rattle.iiif_world.specs.Code.{world_of}
use Rattle.iiif_world.proofs.Right.{all_right}
use Rattle.iiif_world.proofs.world.World.answers.Goals as goal

pub returns-clause-right : goal.returns-clause-right
returns-clause-right c =
    all_right (world_of c.args.self.now) c.answers.result (λ v. v.items) c.contents.ensures.sound
    (subst (λ x. IfOk c.answers.result (λ v. v.items ≡ answers (world_of x))) c.contents.ensures.contents c.answers.ensures)
