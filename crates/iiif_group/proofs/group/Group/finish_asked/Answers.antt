use Rattle.iiif_group.specs.Leads.{asked_lead}
use Rattle.iiif_group.proofs.Finishing.{finishes_as}
use Rattle.iiif_group.proofs.group.Group.finish_asked.Goals as goal

pub returns : goal.returns
returns g c = finishes_as (asked_lead c.args.asked) c.args.outcome _ c.settle.result c.finish.result c.settle.ensures.settled
    c.finish.ensures
