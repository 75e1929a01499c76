use Rattle.iiif_world.proofs.Refused.{flight_gone, flight_open, flight_ended}
use Rattle.iiif_world.proofs.contents.Contents.outcome_in.Goals as goal

pub returns-in_default : goal.returns-in_default
returns-in_default c = flight_gone c.args.self.now.flights.items c.args.flight c.in_default.ensures

pub returns-in_default-stage : goal.returns-in_default-stage
returns-in_default-stage c = flight_open c.args.self.now.flights.items c.args.flight c.in-Some.row.now c.in-Some.ensures
    c.in_default-stage.not-Ended

pub returns-in_default-ended : goal.returns-in_default-ended
returns-in_default-ended c =
    flight_ended c.args.self.now.flights.items c.args.flight c.in-Some.row.now c.in-Ended.ended _ c.in-Some.ensures c.in-Ended.is
    c.in_default-ended.is

pub returns : goal.returns
returns c = flight_ended c.args.self.now.flights.items c.args.flight c.in-Some.row.now c.in-Ended.ended _ c.in-Some.ensures c.in-Ended.is
    c.in-Some-ended.is
