use Rattle.std.proofs.Common.{◌≡◌, ◌++◌, false, rules, sym, ◌∙◌, subst}
use Rattle.iiif_peer_wire.specs.Code.{Unread}
use Rattle.iiif_peer_wire.specs.Reading.{bytes_at, digest_at}
use Rattle.iiif_peer_wire.proofs.Taken.{exit_fault, unread_first, unread_digest}
use Rattle.iiif_peer_wire.proofs.fields.read_digest.Goals as goal
use Rattle.std.specs.Str.{bytes_eq}
use Rattle.std.proofs.lemmas.Bool.{not-true}
use Rattle.sha2.specs.Sha256.{sha256}
use Rattle.iiif_peer_wire.proofs.Parts.{digest_at-refused, digest_at-other}

pub returns-in_err-read_field-clause-unread : goal.returns-in_err-read_field-clause-unread
returns-in_err-read_field-clause-unread g c = let fault = c.in_err-read_field.field-0.0 in let message =
    c.args.key.now ++ c.args.value.now in
    exit_fault c.from_residual.result (Unread g.I.Read.remaining g.I.Inlet.fails c.args.reader.now c.read_field.new.reader
    (digest_at message)) fault c.from_residual.ensures.1
    (unread_first g.I.Read.remaining g.I.Inlet.fails c.args.reader.now c.read_field.new.reader (digest_at message) (bytes_at 32) fault
    (λ rest e. digest_at-refused message rest fault e) (c.in_err-read_field.ensures.unread 32 (search rules)))

pub returns-then-ne-clause-unread : goal.returns-then-ne-clause-unread
returns-then-ne-clause-unread g c =
    let bytes = c.read_field.new.buffer in
    let message = c.args.key.now ++ c.args.value.now in
    let digest : c.finalize.result ≡ sha256 message = search rules in
    let apart : bytes_eq bytes (sha256 message) ≡ false =
    subst (λ d. bytes_eq bytes d ≡ false) digest (not-true (bytes_eq bytes c.finalize.result) (sym c.ne.ensures ∙ c.if-ne.true)) in
    unread_digest g.I.Read.remaining g.I.Inlet.fails c.args.reader.now c.read_field.new.reader (digest_at message) bytes
    c.in_ok-read_field.ensures.whole
    (λ rest. digest_at-other message bytes rest (search rules) apart)
