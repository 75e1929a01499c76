use Rattle.std.proofs.Common.{◌∷◌, subst}
use Rattle.std.proofs.KnownBytes.{Consumes-trans}
use Rattle.std.specs.Io.KnownBytes.{Consumes}
use Rattle.iiif_peer_wire.specs.Code.{Unread}
use Rattle.iiif_peer_wire.specs.Messages.{ask_magic, field}
use Rattle.iiif_peer_wire.specs.Reading.{ask_at, ask_fields_at}
use Rattle.iiif_peer_wire.proofs.Taken.{exit_fault, unread_behind}
use Rattle.iiif_peer_wire.proofs.fields.ask_from.Goals as goal
use Rattle.iiif_peer_wire.proofs.Whole.{ask_at-no_fields, ask_text-parts}
use Rattle.iiif_peer_wire.proofs.Wanted.{WantsAsk, ask_front}
use Rattle.iiif_peer_wire.proofs.Broken.{LeavesNoAsk, fields_unfinished}

pub returns-in_err-group-clause-unread : goal.returns-in_err-group-clause-unread
returns-in_err-group-clause-unread g c = let fault = c.in_err-group.field-0.0 in let version = c.in-Some.version in
    let begun : Consumes (g.I.Read.remaining c.args.reader.now) (g.I.Read.remaining c.read_ask_magic.new.reader) (ask_magic version) =
    rw c.in-Some.is at c.in_ok-version.ensures.whole in
    exit_fault c.from_residual-in_err-group.result
    (Unread g.I.Read.remaining g.I.Inlet.fails c.args.reader.now c.read_ask_fields.new.reader ask_at) fault
    c.from_residual-in_err-group.ensures.1
    (unread_behind g.I.Read.remaining g.I.Inlet.fails c.args.reader.now c.read_ask_magic.new.reader c.read_ask_fields.new.reader ask_at
    ask_fields_at (ask_magic version) fault begun
    (λ rest e. ask_at-no_fields version rest fault e) c.in_err-group.ensures.unread)

pub returns-clause-whole : goal.returns-clause-whole
returns-clause-whole g c = let version = c.in-Some.version in let group = c.in_ok-group.group in let key = c.in_ok-group.key.items in
    let begun : Consumes (g.I.Read.remaining c.args.reader.now) (g.I.Read.remaining c.read_ask_magic.new.reader) (ask_magic version) =
    rw c.in-Some.is at c.in_ok-version.ensures.whole in
    subst (Consumes (g.I.Read.remaining c.args.reader.now) (g.I.Read.remaining c.read_ask_fields.new.reader))
    (ask_text-parts version group key)
    (Consumes-trans _ _ _ (ask_magic version) (group ∷ field key) begun c.in_ok-group.ensures.whole)

pub returns-in_err-group-clause-memory : goal.returns-in_err-group-clause-memory
returns-in_err-group-clause-memory g c = let fault = c.in_err-group.field-0.0 in let version = c.in-Some.version in
    let begun : Consumes (g.I.Read.remaining c.args.reader.now) (g.I.Read.remaining c.read_ask_magic.new.reader) (ask_magic version) =
    rw c.in-Some.is at c.in_ok-version.ensures.whole in
    let old = g.I.Read.remaining c.args.reader.now in
    let new = g.I.Read.remaining c.read_ask_fields.new.reader in
    exit_fault c.from_residual-in_err-group.result (WantsAsk old new) fault c.from_residual-in_err-group.ensures.1
    (λ wanted. ask_front version old (g.I.Read.remaining c.read_ask_magic.new.reader) new begun (c.in_err-group.ensures.memory wanted))

pub returns-in_err-group-clause-unfinished : goal.returns-in_err-group-clause-unfinished
returns-in_err-group-clause-unfinished g c =
    let old = g.I.Read.remaining c.args.reader.now in
    let mid = g.I.Read.remaining c.read_ask_magic.new.reader in
    let new = g.I.Read.remaining c.read_ask_fields.new.reader in
    let fault = c.in_err-group.field-0.0 in
    let version = c.in-Some.version in
    let begun : Consumes old mid (ask_magic version) = rw c.in-Some.is at c.in_ok-version.ensures.whole in
    exit_fault c.from_residual-in_err-group.result (LeavesNoAsk old new) fault c.from_residual-in_err-group.ensures.1
    (fields_unfinished version old mid new fault begun c.in_err-group.ensures.broken)
