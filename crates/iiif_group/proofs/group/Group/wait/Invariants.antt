use Rattle.std.proofs.Common.{◌≡◌}
use Rattle.iiif_outcome.specs.Views.{flight_cell, flight_key, flight_ticket}
use Rattle.iiif_singleflight.specs.Handles.{followed}
use Rattle.iiif_group.proofs.group.Group.wait.Given as goal

abbrev pub invariant-loop : goal.invariant-loop
invariant-loop g l =
    (goal.iterator-loop g).can_next l.iterator'
    × (goal.iterator-loop g).is_finite l.iterator'
    × (flight_key (followed l.follower) ≡ flight_key (followed l.fn.joined))
    × (flight_cell (followed l.follower) ≡ flight_cell (followed l.fn.joined))
    × (flight_ticket (followed l.follower) ≡ flight_ticket (followed l.fn.joined))
