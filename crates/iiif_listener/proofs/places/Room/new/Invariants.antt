use Rattle.std.proofs.Common.{◌≡◌, length}
use Rattle.iiif_listener.proofs.places.Room.new.Given as goal

-- a handle for each place so far
abbrev pub invariant-loop : goal.invariant-loop
invariant-loop l = length l.handles.items ≡ l.counter
