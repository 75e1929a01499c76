use Rattle.std.proofs.Common.{rules}
use Rattle.iiif_peer_wire.proofs.Taken.{pulled_short}
use Rattle.iiif_peer_wire.proofs.Wanted.{came_so_far}
use Rattle.iiif_peer_wire.proofs.fields.read_bytes.Goals as goal
use Rattle.std.proofs.KnownBytes.{Consumes-kept}
use Rattle.iiif_peer_wire.specs.declared.fault.WireFault.TheVariants.{Io}
use Rattle.iiif_peer_wire.proofs.Broken.{broken_bytes}

pub returns-in-Ok-eq0-clause-unread : goal.returns-in-Ok-eq0-clause-unread
returns-in-Ok-eq0-clause-unread g c =
    pulled_short g.I.Read.remaining g.I.Inlet.fails c.args.reader.now c.bytes.reader c.pull.new.self c.args.count c.bytes.bytes.items
    c.pull.new.buffer c.in-Ok-eq0.field-0 c.bytes.invariant.taken
    c.in-Ok-eq0.ensures.bytes (search rules) (search rules) (search rules)

pub returns-then-is_err-clause-memory : goal.returns-then-is_err-clause-memory
returns-then-is_err-clause-memory g c = λ _.
    came_so_far (g.I.Read.remaining c.args.reader.now) (g.I.Read.remaining c.bytes.reader) (g.I.Read.remaining c.pull.new.self) c.args.count
    c.in-Ok.n c.bytes.bytes.items c.pull.new.buffer
    c.bytes.invariant.taken c.in-Ok.ensures.bytes.0 (search rules) (search rules) (search rules)

pub returns-in-Err-clause-broken : goal.returns-in-Err-clause-broken
returns-in-Err-clause-broken g c =
    let old = g.I.Read.remaining c.args.reader.now in
    let mid = g.I.Read.remaining c.bytes.reader in
    let new = g.I.Read.remaining c.pull.new.self in
    broken_bytes old new c.args.count Io c.bytes.bytes.items
    (Consumes-kept old mid new c.bytes.bytes.items c.bytes.invariant.taken c.in-Err.ensures.bytes) (search rules)
