use Rattle.std.proofs.Common.{◌≤◌, ◌-◌, length, take}
use Rattle.std.specs.Io.KnownBytes.{Consumes}
use Rattle.iiif_peer_wire.proofs.fields.fill.Given as goal

abbrev pub invariant-loop-came : goal.invariant-loop-came
invariant-loop-came g l = record {
  within : l.came ≤ length l.buffer;
  bytes : Consumes (g.I.Read.remaining l.initial.reader) (g.I.Read.remaining l.reader) (take l.came l.buffer);
}

abbrev pub decreases-loop-came : goal.decreases-loop-came
decreases-loop-came g l = length l.buffer - l.came
