use Rattle.std.proofs.Common.{◌≡◌, rules, sym, subst}
use Rattle.std.specs.Io.KnownBytes.{Consumes}
use Rattle.iiif_peer_wire.specs.Code.{Unread}
use Rattle.iiif_peer_wire.specs.Reading.{bytes_at, length_at}
use Rattle.iiif_peer_wire.proofs.Taken.{exit_fault, unread_first, unread_long}
use Rattle.iiif_peer_wire.proofs.fields.read_length.Goals as goal
use Rattle.std.proofs.lemmas.Nat.{be_bytes_4}
use Rattle.std.specs.Int.{w32, to_be_bytes}
use Rattle.iiif_peer_wire.proofs.Parts.{length_at-refused, length_at-above}
use Rattle.iiif_peer_wire.specs.Code.{Broken}
use Rattle.iiif_peer_wire.specs.declared.fault.WireFault.TheVariants.{Short}
use Rattle.iiif_peer_wire.proofs.Broken.{broken_first}

pub returns-in_err-read_field-clause-unread : goal.returns-in_err-read_field-clause-unread
returns-in_err-read_field-clause-unread g c = let fault = c.in_err-read_field.field-0.0 in
    exit_fault c.from_residual.result (Unread g.I.Read.remaining g.I.Inlet.fails c.args.reader.now c.read_field.new.reader
    (length_at c.args.limit)) fault c.from_residual.ensures.1
    (unread_first g.I.Read.remaining g.I.Inlet.fails c.args.reader.now c.read_field.new.reader (length_at c.args.limit) (bytes_at 4) fault
    (λ rest e. length_at-refused c.args.limit rest fault e) (c.in_err-read_field.ensures.unread 4 (search rules)))

pub returns-then-size-limit-clause-unread : goal.returns-then-size-limit-clause-unread
returns-then-size-limit-clause-unread g c =
    let bytes = c.read_field.new.buffer in
    let size = c.from_be_bytes-size.result in
    let is : to_be_bytes w32 size ≡ bytes = be_bytes_4 bytes size (search rules) c.in_ok-read_field.ensures.bytes
    c.from_be_bytes-size.ensures in
    let took : Consumes (g.I.Read.remaining c.args.reader.now) (g.I.Read.remaining c.read_field.new.reader) (to_be_bytes w32 size) =
    subst (Consumes (g.I.Read.remaining c.args.reader.now) (g.I.Read.remaining c.read_field.new.reader)) (sym is)
    c.in_ok-read_field.ensures.whole in
    unread_long g.I.Read.remaining g.I.Inlet.fails c.args.reader.now c.read_field.new.reader (length_at c.args.limit) (to_be_bytes w32 size)
    took
    (λ rest. length_at-above c.args.limit size rest (search rules) (search rules))

pub returns-clause-whole : goal.returns-clause-whole
returns-clause-whole g c =
    let bytes = c.read_field.new.buffer in
    let size = c.from_be_bytes-size.result in
    let is : to_be_bytes w32 size ≡ bytes = be_bytes_4 bytes size (search rules) c.in_ok-read_field.ensures.bytes
    c.from_be_bytes-size.ensures in
    subst (Consumes (g.I.Read.remaining c.args.reader.now) (g.I.Read.remaining c.read_field.new.reader)) (sym is)
    c.in_ok-read_field.ensures.whole

pub returns-in_err-read_field-clause-broken : goal.returns-in_err-read_field-clause-broken
returns-in_err-read_field-clause-broken g c =
    let old = g.I.Read.remaining c.args.reader.now in
    let new = g.I.Read.remaining c.read_field.new.reader in
    let fault = c.in_err-read_field.field-0.0 in
    exit_fault c.from_residual.result (Broken old new (length_at c.args.limit)) fault c.from_residual.ensures.1
    (broken_first old new (length_at c.args.limit) (bytes_at 4) fault (λ rest e. length_at-refused c.args.limit rest Short e)
    (c.in_err-read_field.ensures.broken 4 (search rules)))
