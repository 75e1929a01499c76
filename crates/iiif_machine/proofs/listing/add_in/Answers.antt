use Rattle.iiif_machine.proofs.Placing.{added_by}
use Rattle.iiif_machine.proofs.listing.add_in.Goals as goal

pub returns-clause-ok : goal.returns-clause-ok
returns-clause-ok c =
    added_by c.args.list.now.items c.insert.new.self.items c.truncate.new.self.items c.args.room c.max.result c.args.entry
    c.in_ok-insert.ensures.items c.max.ensures c.truncate.ensures.items
