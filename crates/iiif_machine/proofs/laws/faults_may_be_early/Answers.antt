use Rattle.iiif_machine.proofs.Deciding.{all_decide, early_is_same, first_fault_decides}
use Rattle.iiif_machine.proofs.laws.faults_may_be_early.Goals as goal

pub returns-clause-all : goal.returns-clause-all
returns-clause-all c = all_decide

pub returns-clause-same : goal.returns-clause-same
returns-clause-same c = early_is_same

pub returns-clause-first : goal.returns-clause-first
returns-clause-first c = first_fault_decides
