use Rattle.std.proofs.Common.{rules}
use Rattle.iiif_peer_wire.specs.Code.{Unread}
use Rattle.iiif_peer_wire.specs.Reading.{byte_at, bytes_at}
use Rattle.iiif_peer_wire.proofs.Taken.{exit_fault, unread_first}
use Rattle.iiif_peer_wire.proofs.fields.read_byte.Goals as goal
use Rattle.iiif_peer_wire.proofs.Parts.{byte_at-refused}
use Rattle.iiif_peer_wire.specs.Code.{Broken}
use Rattle.iiif_peer_wire.specs.declared.fault.WireFault.TheVariants.{Short}
use Rattle.iiif_peer_wire.proofs.Broken.{broken_first}

pub returns-in_err-read_field-clause-unread : goal.returns-in_err-read_field-clause-unread
returns-in_err-read_field-clause-unread g c = let fault = c.in_err-read_field.field-0.0 in
    exit_fault c.from_residual.result (Unread g.I.Read.remaining g.I.Inlet.fails c.args.reader.now c.read_field.new.reader byte_at) fault
    c.from_residual.ensures.1
    (unread_first g.I.Read.remaining g.I.Inlet.fails c.args.reader.now c.read_field.new.reader byte_at (bytes_at 1) fault
    (λ rest e. byte_at-refused rest fault e) (c.in_err-read_field.ensures.unread 1 (search rules)))

pub returns-in_err-read_field-clause-broken : goal.returns-in_err-read_field-clause-broken
returns-in_err-read_field-clause-broken g c =
    let old = g.I.Read.remaining c.args.reader.now in
    let new = g.I.Read.remaining c.read_field.new.reader in
    let fault = c.in_err-read_field.field-0.0 in
    exit_fault c.from_residual.result (Broken old new byte_at) fault c.from_residual.ensures.1
    (broken_first old new byte_at (bytes_at 1) fault (λ rest e. byte_at-refused rest Short e)
    (c.in_err-read_field.ensures.broken 1 (search rules)))
