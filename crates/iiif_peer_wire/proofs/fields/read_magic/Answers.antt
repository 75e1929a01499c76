use Rattle.std.proofs.Common.{◌≡◌, false, rules, sym, ◌∙◌}
use Rattle.iiif_peer_wire.specs.Code.{Unread}
use Rattle.iiif_peer_wire.specs.Reading.{bytes_at, magic_at}
use Rattle.iiif_peer_wire.proofs.Taken.{exit_fault, unread_first, unread_magic}
use Rattle.iiif_peer_wire.proofs.fields.read_magic.Goals as goal
use Rattle.std.specs.Str.{bytes_eq}
use Rattle.std.proofs.lemmas.Bool.{not-true}
use Rattle.iiif_peer_wire.proofs.Parts.{magic_at-refused, magic_at-other}

pub returns-in_err-read_field-clause-unread : goal.returns-in_err-read_field-clause-unread
returns-in_err-read_field-clause-unread g c = let fault = c.in_err-read_field.field-0.0 in
    exit_fault c.from_residual.result (Unread g.I.Read.remaining g.I.Inlet.fails c.args.reader.now c.read_field.new.reader
    (magic_at c.args.magic)) fault c.from_residual.ensures.1
    (unread_first g.I.Read.remaining g.I.Inlet.fails c.args.reader.now c.read_field.new.reader (magic_at c.args.magic) (bytes_at 4) fault
    (λ rest e. magic_at-refused c.args.magic rest fault e) (c.in_err-read_field.ensures.unread 4 (search rules)))

pub returns-then-ne-clause-unread : goal.returns-then-ne-clause-unread
returns-then-ne-clause-unread g c =
    let bytes = c.read_field.new.buffer in
    let apart : bytes_eq bytes c.args.magic ≡ false = not-true (bytes_eq bytes c.args.magic) (sym c.ne.ensures ∙ c.if-ne.true) in
    unread_magic g.I.Read.remaining g.I.Inlet.fails c.args.reader.now c.read_field.new.reader (magic_at c.args.magic) bytes
    c.in_ok-read_field.ensures.whole
    (λ rest. magic_at-other c.args.magic bytes rest (search rules) apart)
