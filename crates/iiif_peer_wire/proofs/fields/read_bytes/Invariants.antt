use Rattle.std.proofs.Common.{◌≡◌, ◌≤◌, ◌-◌, length, vec_len}
use Rattle.std.specs.Io.KnownBytes.{Consumes}
use Rattle.iiif_peer_wire.proofs.fields.read_bytes.Given as goal

abbrev pub invariant-bytes : goal.invariant-bytes
invariant-bytes g l = record {
  within : vec_len l.bytes ≤ l.count;
  chunk : length l.chunk ≡ 8192;
  taken : Consumes (g.I.Read.remaining l.initial.reader) (g.I.Read.remaining l.reader) l.bytes.items;
}

abbrev pub decreases-bytes : goal.decreases-bytes
decreases-bytes g l = l.count - vec_len l.bytes
