use Rattle.iiif_world.specs.Code.{world_of}
use Rattle.iiif_world.proofs.Settled.{settled_is}
use Rattle.iiif_world.proofs.contents.Contents.settle.Goals as goal

pub returns : goal.returns
returns c =
    settled_is (world_of c.args.self.now) c.put_outcomes.new.flights.items c.put_answers.new.requests.items c.args.settling.outcomes.items
    c.args.settling.answers.items
    c.requires.outcomes c.requires.answers c.put_outcomes.ensures c.put_answers.ensures
