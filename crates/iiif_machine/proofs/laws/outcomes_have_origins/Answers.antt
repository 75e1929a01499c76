use Rattle.iiif_machine.proofs.Origins.{flights_become_ready, faults_have_origins, joins_open, events_give}
use Rattle.iiif_machine.proofs.laws.outcomes_have_origins.Goals as goal

pub returns-clause-ready : goal.returns-clause-ready
returns-clause-ready c = flights_become_ready

pub returns-clause-faults : goal.returns-clause-faults
returns-clause-faults c = faults_have_origins

pub returns-clause-joins : goal.returns-clause-joins
returns-clause-joins c = joins_open

pub returns-clause-given : goal.returns-clause-given
returns-clause-given c = events_give
