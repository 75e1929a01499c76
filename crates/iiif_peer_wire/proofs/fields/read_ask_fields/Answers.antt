use Rattle.std.proofs.Common.{◌∷◌, []}
use Rattle.std.proofs.KnownBytes.{Consumes-trans}
use Rattle.iiif_peer_wire.specs.Code.{Unread}
use Rattle.iiif_peer_wire.specs.Reading.{ask_fields_at, byte_at, bytes_at, length_at}
use Rattle.iiif_peer_wire.proofs.Taken.{exit_fault, unread_behind, unread_first, unread_magic}
use Rattle.iiif_peer_wire.proofs.fields.read_ask_fields.Goals as goal
use Rattle.std.specs.Int.{w32, to_be_bytes}
use Rattle.std.proofs.lemmas.Bool.{both_ways}
use Rattle.iiif_peer_wire.proofs.Parts.{ask_fields_at-no_group, ask_fields_at-unknown, ask_fields_at-no_size, ask_fields_at-no_key}
use Rattle.iiif_peer_wire.specs.Code.{Broken}
use Rattle.iiif_peer_wire.specs.declared.fault.WireFault.TheVariants.{Short}
use Rattle.iiif_peer_wire.proofs.Broken.{broken_behind, broken_first}

pub returns-in_err-group-clause-unread : goal.returns-in_err-group-clause-unread
returns-in_err-group-clause-unread g c = let fault = c.in_err-group.field-0.0 in
    exit_fault c.from_residual.result (Unread g.I.Read.remaining g.I.Inlet.fails c.args.reader.now c.read_byte.new.reader ask_fields_at)
    fault c.from_residual.ensures.1
    (unread_first g.I.Read.remaining g.I.Inlet.fails c.args.reader.now c.read_byte.new.reader ask_fields_at byte_at fault
    (λ rest e. ask_fields_at-no_group rest fault e) c.in_err-group.ensures.unread)

pub returns-then-not-is_group-clause-unread : goal.returns-then-not-is_group-clause-unread
returns-then-not-is_group-clause-unread g c = let group = c.in_ok-group.group in
    unread_magic g.I.Read.remaining g.I.Inlet.fails c.args.reader.now c.read_byte.new.reader ask_fields_at (group ∷ [])
    c.in_ok-group.ensures.whole
    (λ rest. ask_fields_at-unknown group rest (λ is. both_ways c.is_group.result c.if-not-is_group.true (c.is_group.ensures.1 is)))

pub returns-in_err-size-clause-unread : goal.returns-in_err-size-clause-unread
returns-in_err-size-clause-unread g c = let fault = c.in_err-size.field-0.0 in let group = c.in_ok-group.group in
    exit_fault c.from_residual-in_err-size.result
    (Unread g.I.Read.remaining g.I.Inlet.fails c.args.reader.now c.read_length.new.reader ask_fields_at) fault
    c.from_residual-in_err-size.ensures.1
    (unread_behind g.I.Read.remaining g.I.Inlet.fails c.args.reader.now c.read_byte.new.reader c.read_length.new.reader ask_fields_at
    (length_at 4096) (group ∷ []) fault c.in_ok-group.ensures.whole
    (λ rest e. ask_fields_at-no_size group rest fault (c.is_group.ensures.0 c.if-not-is_group.false) e) c.in_err-size.ensures.unread)

pub returns-in_err-key-clause-unread : goal.returns-in_err-key-clause-unread
returns-in_err-key-clause-unread g c = let fault = c.in_err-key.field-0.0 in let group = c.in_ok-group.group in let size =
    c.in_ok-size.size in
    exit_fault c.from_residual-in_err-key.result
    (Unread g.I.Read.remaining g.I.Inlet.fails c.args.reader.now c.read_bytes.new.reader ask_fields_at) fault
    c.from_residual-in_err-key.ensures.1
    (unread_behind g.I.Read.remaining g.I.Inlet.fails c.args.reader.now c.read_length.new.reader c.read_bytes.new.reader ask_fields_at
    (bytes_at size) (group ∷ to_be_bytes w32 size) fault
    (Consumes-trans _ _ _ (group ∷ []) (to_be_bytes w32 size) c.in_ok-group.ensures.whole c.in_ok-size.ensures.whole)
    (λ rest e. ask_fields_at-no_key group size rest fault (c.is_group.ensures.0 c.if-not-is_group.false) c.in_ok-size.ensures.within e)
    c.in_err-key.ensures.unread)

pub returns-in_err-group-clause-broken : goal.returns-in_err-group-clause-broken
returns-in_err-group-clause-broken g c =
    let old = g.I.Read.remaining c.args.reader.now in
    let new = g.I.Read.remaining c.read_byte.new.reader in
    let fault = c.in_err-group.field-0.0 in
    exit_fault c.from_residual.result (Broken old new ask_fields_at) fault c.from_residual.ensures.1
    (broken_first old new ask_fields_at byte_at fault (λ rest e. ask_fields_at-no_group rest Short e) c.in_err-group.ensures.broken)

pub returns-in_err-size-clause-broken : goal.returns-in_err-size-clause-broken
returns-in_err-size-clause-broken g c =
    let old = g.I.Read.remaining c.args.reader.now in
    let new = g.I.Read.remaining c.read_length.new.reader in
    let fault = c.in_err-size.field-0.0 in
    let group = c.in_ok-group.group in
    exit_fault c.from_residual-in_err-size.result (Broken old new ask_fields_at) fault c.from_residual-in_err-size.ensures.1
    (broken_behind old (g.I.Read.remaining c.read_byte.new.reader) new ask_fields_at (length_at 4096) (group ∷ []) fault
    c.in_ok-group.ensures.whole
    (λ rest e. ask_fields_at-no_size group rest Short (c.is_group.ensures.0 c.if-not-is_group.false) e) c.in_err-size.ensures.broken)

pub returns-in_err-key-clause-broken : goal.returns-in_err-key-clause-broken
returns-in_err-key-clause-broken g c =
    let old = g.I.Read.remaining c.args.reader.now in
    let new = g.I.Read.remaining c.read_bytes.new.reader in
    let fault = c.in_err-key.field-0.0 in
    let group = c.in_ok-group.group in
    let size = c.in_ok-size.size in
    exit_fault c.from_residual-in_err-key.result (Broken old new ask_fields_at) fault c.from_residual-in_err-key.ensures.1
    (broken_behind old (g.I.Read.remaining c.read_length.new.reader) new ask_fields_at (bytes_at size) (group ∷ to_be_bytes w32 size) fault
    (Consumes-trans _ _ _ (group ∷ []) (to_be_bytes w32 size) c.in_ok-group.ensures.whole c.in_ok-size.ensures.whole)
    (λ rest e. ask_fields_at-no_key group size rest Short (c.is_group.ensures.0 c.if-not-is_group.false) c.in_ok-size.ensures.within e)
    c.in_err-key.ensures.broken)
