use Rattle.iiif_machine.proofs.Due.{each_stays_settled, new_is_settled}
use Rattle.iiif_machine.proofs.Others.{each_keeps_others}
use Rattle.iiif_machine.proofs.laws.events_keep_others.Goals as goal

pub returns-clause-others : goal.returns-clause-others
returns-clause-others c = each_keeps_others

pub returns-clause-new : goal.returns-clause-new
returns-clause-new c = new_is_settled

pub returns-clause-settled : goal.returns-clause-settled
returns-clause-settled c = each_stays_settled
