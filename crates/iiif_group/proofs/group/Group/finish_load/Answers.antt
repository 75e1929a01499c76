use Rattle.iiif_group.proofs.Finishing.{finishes_as}
use Rattle.iiif_group.proofs.group.Group.finish_load.Goals as goal

pub returns : goal.returns
returns g c = finishes_as c.args.local c.args.outcome _ c.from_load.result c.finish.result c.from_load.ensures.settled c.finish.ensures
