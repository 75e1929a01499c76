use Rattle.iiif_machine.proofs.Frames.{answers_have_origins, asks_owner, calls_have_origins, lands_by}
use Rattle.iiif_machine.proofs.StayingBy.{each_call_stays_by, each_request_stays_by}
use Rattle.iiif_machine.proofs.laws.events_go_where_they_say.Goals as goal

pub returns-clause-lands : goal.returns-clause-lands
returns-clause-lands c = lands_by

pub returns-clause-asks : goal.returns-clause-asks
returns-clause-asks c = asks_owner

pub returns-clause-calls : goal.returns-clause-calls
returns-clause-calls c = calls_have_origins

pub returns-clause-entered : goal.returns-clause-entered
returns-clause-entered c = each_call_stays_by

pub returns-clause-waiting : goal.returns-clause-waiting
returns-clause-waiting c = each_request_stays_by

pub returns-clause-answers : goal.returns-clause-answers
returns-clause-answers c = answers_have_origins
