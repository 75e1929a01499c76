use Rattle.std.proofs.Common.{◌≤◌, length, take, rules, arith}
use Rattle.iiif_peer_wire.proofs.Taken.{length-take-at_most}
use Rattle.iiif_peer_wire.specs.Reading.{bytes_at}
use Rattle.iiif_peer_wire.proofs.Taken.{unread_short}
use Rattle.iiif_peer_wire.proofs.fields.read_field.Goals as goal
use Rattle.iiif_peer_wire.proofs.Parts.{bytes_at-short}
use Rattle.std.proofs.Common.{◌≡◌, ℕ}
use Rattle.iiif_peer_wire.specs.Code.{Broken}
use Rattle.iiif_peer_wire.proofs.Broken.{broken_bytes}
use Rattle.iiif_peer_wire.proofs.Taken.{exit_fault}

pub returns-then-came-buffer-clause-unread : goal.returns-then-came-buffer-clause-unread
returns-then-came-buffer-clause-unread g c = λ count size.
    let read = take c.in_ok-came.came c.fill.new.buffer in
    unread_short g.I.Read.remaining g.I.Inlet.fails c.args.reader.now c.fill.new.reader (bytes_at count) read c.in_ok-came.ensures.bytes
    (c.in_ok-came.ensures.end (search rules))
    (bytes_at-short count read (let short : length read ≤ c.in_ok-came.came = length-take-at_most c.in_ok-came.came c.fill.new.buffer in
    omega arith))

pub returns-in_err-came-clause-broken : goal.returns-in_err-came-clause-broken
returns-in_err-came-clause-broken g c =
    let old = g.I.Read.remaining c.args.reader.now in
    let new = g.I.Read.remaining c.fill.new.reader in
    let fault = c.in_err-came.field-0.0 in
    let rest = c.in_err-came.ensures.unfinished in
    exit_fault c.from_residual.result (λ f. (count : ℕ) → length c.args.buffer.now ≡ count → Broken old new (bytes_at count) f) fault
    c.from_residual.ensures.1
    (λ count size. broken_bytes old new count fault rest.0 rest.1 (omega (arith, size, rest.2)))
