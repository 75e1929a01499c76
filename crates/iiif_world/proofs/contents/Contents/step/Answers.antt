use Rattle.iiif_world.specs.Code.{world_of}
use Rattle.iiif_world.proofs.Run.{follows, stays_sound, same_sound}
use Rattle.iiif_world.proofs.contents.Contents.step.Goals as goal

pub returns-in-Ok-clause-follows : goal.returns-in-Ok-clause-follows
returns-in-Ok-clause-follows c = follows (world_of c.args.self.now) (world_of c.happen.new.self) c.args.event.now c.requires.sound
    c.in-Ok.ensures.ok

pub returns-in-Ok-clause-sound : goal.returns-in-Ok-clause-sound
returns-in-Ok-clause-sound c = stays_sound (world_of c.args.self.now) (world_of c.happen.new.self) c.args.event.now c.requires.sound
    c.in-Ok.ensures.ok

pub returns-in-Err-clause-sound : goal.returns-in-Err-clause-sound
returns-in-Err-clause-sound c = same_sound (world_of c.args.self.now) (world_of c.happen.new.self) c.in-Err.ensures.same c.requires.sound
