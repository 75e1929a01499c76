use Rattle.std.proofs.Common.{◌≡◌, false, length, rules, sym, ◌∙◌, subst, arith}
use Rattle.std.proofs.KnownBytes.{Consumes-trans}
use Rattle.std.specs.Io.KnownBytes.{Consumes}
use Rattle.iiif_peer_wire.specs.Code.{Unread}
use Rattle.iiif_peer_wire.specs.Messages.{field}
use Rattle.iiif_peer_wire.specs.Reading.{bytes_at, key_at, length_at}
use Rattle.iiif_peer_wire.proofs.Taken.{exit_fault, unread_behind, unread_first, unread_key}
use Rattle.iiif_peer_wire.proofs.fields.read_key.Goals as goal
use Rattle.std.specs.Int.{w32, to_be_bytes}
use Rattle.std.specs.Str.{bytes_eq}
use Rattle.std.proofs.lemmas.Bool.{not-true}
use Rattle.iiif_peer_wire.proofs.Parts.{key_at-no_size, key_at-no_key, key_at-other}

pub returns-in_err-size-clause-unread : goal.returns-in_err-size-clause-unread
returns-in_err-size-clause-unread g c = let fault = c.in_err-size.field-0.0 in let asked = c.args.asked.now in
    exit_fault c.from_residual.result (Unread g.I.Read.remaining g.I.Inlet.fails c.args.reader.now c.read_length.new.reader (key_at asked))
    fault c.from_residual.ensures.1
    (unread_first g.I.Read.remaining g.I.Inlet.fails c.args.reader.now c.read_length.new.reader (key_at asked) (length_at 4096) fault
    (λ rest e. key_at-no_size asked rest fault e) c.in_err-size.ensures.unread)

pub returns-in_err-read_field-clause-unread : goal.returns-in_err-read_field-clause-unread
returns-in_err-read_field-clause-unread g c = let fault = c.in_err-read_field.field-0.0 in let asked = c.args.asked.now in let size =
    c.in_ok-size.size in
    exit_fault c.from_residual-in_err-read_field.result
    (Unread g.I.Read.remaining g.I.Inlet.fails c.args.reader.now c.read_field.new.reader (key_at asked)) fault
    c.from_residual-in_err-read_field.ensures.1
    (unread_behind g.I.Read.remaining g.I.Inlet.fails c.args.reader.now c.read_length.new.reader c.read_field.new.reader (key_at asked)
    (bytes_at size) (to_be_bytes w32 size) fault c.in_ok-size.ensures.whole
    (λ rest e. key_at-no_key asked size rest fault c.in_ok-size.ensures.within e) (c.in_err-read_field.ensures.unread size (search rules)))

pub returns-then-ne-clause-unread : goal.returns-then-ne-clause-unread
returns-then-ne-clause-unread g c =
    let asked = c.args.asked.now in
    let size = c.in_ok-size.size in
    let key = c.read_field.new.buffer in
    let is : size ≡ length key = search rules in
    let apart : bytes_eq key asked ≡ false = not-true (bytes_eq key asked) (sym c.ne.ensures ∙ c.if-ne.true) in
    let sized : Consumes (g.I.Read.remaining c.args.reader.now) (g.I.Read.remaining c.read_length.new.reader) (to_be_bytes w32 (length key))
    =
    subst (λ n. Consumes (g.I.Read.remaining c.args.reader.now) (g.I.Read.remaining c.read_length.new.reader) (to_be_bytes w32 n)) is
    c.in_ok-size.ensures.whole in
    let took : Consumes (g.I.Read.remaining c.args.reader.now) (g.I.Read.remaining c.read_field.new.reader) (field key) =
    Consumes-trans _ _ _ (to_be_bytes w32 (length key)) key sized c.in_ok-read_field.ensures.whole in
    unread_key g.I.Read.remaining g.I.Inlet.fails c.args.reader.now c.read_field.new.reader (key_at asked) (field key) took
    (λ rest. key_at-other asked key rest (omega (arith, is, c.in_ok-size.ensures.within)) apart)
