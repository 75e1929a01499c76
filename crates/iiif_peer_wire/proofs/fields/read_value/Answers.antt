use Rattle.std.proofs.Common.{◌≡◌, ◌≢◌, ◌<◌, ◌∷◌, [], rules, arith}
use Rattle.std.proofs.KnownBytes.{Consumes-trans}
use Rattle.iiif_peer_wire.specs.Code.{Unread}
use Rattle.iiif_peer_wire.specs.Reading.{byte_at, bytes_at, length_at, value_at}
use Rattle.iiif_peer_wire.proofs.Taken.{exit_fault, unread_behind, unread_first, unread_status}
use Rattle.iiif_peer_wire.proofs.fields.read_value.Goals as goal
use Rattle.std.specs.Int.{w32, to_be_bytes}
use Rattle.iiif_peer_wire.proofs.Parts.{value_at-no_status, value_at-unknown, value_at-no_size, value_at-fault_with_value}
use Rattle.iiif_peer_wire.proofs.Parts.{value_at-no_value}

pub returns-in_err-status-clause-unread : goal.returns-in_err-status-clause-unread
returns-in_err-status-clause-unread g c = let fault = c.in_err-status.field-0.0 in
    exit_fault c.from_residual.result (Unread g.I.Read.remaining g.I.Inlet.fails c.args.reader.now c.read_byte.new.reader value_at) fault
    c.from_residual.ensures.1
    (unread_first g.I.Read.remaining g.I.Inlet.fails c.args.reader.now c.read_byte.new.reader value_at byte_at fault
    (λ rest e. value_at-no_status rest fault e) c.in_err-status.ensures.unread)

pub returns-then-status-gt4-clause-unread : goal.returns-then-status-gt4-clause-unread
returns-then-status-gt4-clause-unread g c = let status = c.in_ok-status.status in
    unread_status g.I.Read.remaining g.I.Inlet.fails c.args.reader.now c.read_byte.new.reader value_at (status ∷ [])
    c.in_ok-status.ensures.whole (λ rest. value_at-unknown status rest c.if-status-gt4.true)

pub returns-in_err-size-clause-unread : goal.returns-in_err-size-clause-unread
returns-in_err-size-clause-unread g c = let fault = c.in_err-size.field-0.0 in let status = c.in_ok-status.status in
    exit_fault c.from_residual-in_err-size.result
    (Unread g.I.Read.remaining g.I.Inlet.fails c.args.reader.now c.read_length.new.reader value_at) fault
    c.from_residual-in_err-size.ensures.1
    (unread_behind g.I.Read.remaining g.I.Inlet.fails c.args.reader.now c.read_byte.new.reader c.read_length.new.reader value_at
    (length_at 67108864) (status ∷ []) fault c.in_ok-status.ensures.whole
    (λ rest e. value_at-no_size status rest fault c.if-status-gt4.false e) c.in_err-size.ensures.unread)

pub returns-then-size-ne0-clause-unread : goal.returns-then-size-ne0-clause-unread
returns-then-size-ne0-clause-unread g c = let status = c.in_ok-status.status in let size = c.in_ok-size.size in
    let some : status ≢ 0 = search rules in
    let more : size ≢ 0 = search rules in
    unread_status g.I.Read.remaining g.I.Inlet.fails c.args.reader.now c.read_length.new.reader value_at (status ∷ to_be_bytes w32 size)
    (Consumes-trans _ _ _ (status ∷ []) (to_be_bytes w32 size) c.in_ok-status.ensures.whole c.in_ok-size.ensures.whole)
    (λ rest. value_at-fault_with_value status size rest c.if-status-gt4.false c.in_ok-size.ensures.within some more)

pub returns-in_err-value-clause-unread : goal.returns-in_err-value-clause-unread
returns-in_err-value-clause-unread g c = let fault = c.in_err-value.field-0.0 in let status = c.in_ok-status.status in let size =
    c.in_ok-size.size in
    let none : 0 < status → size ≡ 0 = λ h. omega arith in
    exit_fault c.from_residual-in_err-value.result
    (Unread g.I.Read.remaining g.I.Inlet.fails c.args.reader.now c.read_bytes.new.reader value_at) fault
    c.from_residual-in_err-value.ensures.1
    (unread_behind g.I.Read.remaining g.I.Inlet.fails c.args.reader.now c.read_length.new.reader c.read_bytes.new.reader value_at
    (bytes_at size) (status ∷ to_be_bytes w32 size) fault
    (Consumes-trans _ _ _ (status ∷ []) (to_be_bytes w32 size) c.in_ok-status.ensures.whole c.in_ok-size.ensures.whole)
    (λ rest e. value_at-no_value status size rest fault c.if-status-gt4.false c.in_ok-size.ensures.within none e)
    c.in_err-value.ensures.unread)
