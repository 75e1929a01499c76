use Rattle.iiif_machine.proofs.Apart.{one_outcome}
use Rattle.iiif_machine.proofs.Waiting.{none_waits_for_itself, waits_fall}
use Rattle.iiif_machine.proofs.laws.flights_are_in_order.Goals as goal

pub returns-clause-waits : goal.returns-clause-waits
returns-clause-waits c = waits_fall

pub returns-clause-outcome : goal.returns-clause-outcome
returns-clause-outcome c = one_outcome

pub returns-clause-circle : goal.returns-clause-circle
returns-clause-circle c = none_waits_for_itself
