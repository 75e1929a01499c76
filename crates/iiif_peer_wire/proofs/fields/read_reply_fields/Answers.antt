use Rattle.std.proofs.Common.{◌++◌, ◌∷◌, subst}
use Rattle.std.proofs.KnownBytes.{Consumes-trans}
use Rattle.std.specs.Io.KnownBytes.{Consumes}
use Rattle.iiif_peer_wire.specs.Code.{Unread}
use Rattle.iiif_peer_wire.specs.Messages.{reply_magic, field, IsReply}
use Rattle.iiif_peer_wire.specs.Reading.{digest_at, key_at, magic_at, reply_at, value_at}
use Rattle.iiif_peer_wire.proofs.Taken.{exit_fault, unread_behind, unread_first}
use Rattle.iiif_peer_wire.proofs.fields.read_reply_fields.Goals as goal
use Rattle.sha2.specs.Sha256.{sha256}
use Rattle.iiif_peer_wire.proofs.Wanted.{WantsReply, reply_front}
use Rattle.iiif_peer_wire.proofs.Whole.{reply_at-no_magic, reply_at-no_key, reply_at-no_value, reply_at-no_digest, reply_text-parts}

pub returns-in_err-read_reply_magic-clause-unread : goal.returns-in_err-read_reply_magic-clause-unread
returns-in_err-read_reply_magic-clause-unread g c = let fault = c.in_err-read_reply_magic.field-0.0 in let version = c.args.version in
    let asked = c.args.asked.now in
    exit_fault c.from_residual.result (Unread g.I.Read.remaining g.I.Inlet.fails c.args.reader.now c.read_reply_magic.new.reader
    (reply_at version asked)) fault c.from_residual.ensures.1
    (unread_first g.I.Read.remaining g.I.Inlet.fails c.args.reader.now c.read_reply_magic.new.reader (reply_at version asked)
    (magic_at (reply_magic version)) fault (λ rest e. reply_at-no_magic version asked rest fault e)
    c.in_err-read_reply_magic.ensures.unread)

pub returns-in_err-read_key-clause-unread : goal.returns-in_err-read_key-clause-unread
returns-in_err-read_key-clause-unread g c = let fault = c.in_err-read_key.field-0.0 in let version = c.args.version in let asked =
    c.args.asked.now in
    exit_fault c.from_residual-in_err-read_key.result
    (Unread g.I.Read.remaining g.I.Inlet.fails c.args.reader.now c.read_key.new.reader (reply_at version asked)) fault
    c.from_residual-in_err-read_key.ensures.1
    (unread_behind g.I.Read.remaining g.I.Inlet.fails c.args.reader.now c.read_reply_magic.new.reader c.read_key.new.reader
    (reply_at version asked) (key_at asked) (reply_magic version) fault c.in_ok-read_reply_magic.ensures.whole
    (λ rest e. reply_at-no_key version asked rest fault e) c.in_err-read_key.ensures.unread)

pub returns-in_err-status-clause-unread : goal.returns-in_err-status-clause-unread
returns-in_err-status-clause-unread g c = let fault = c.in_err-status.field-0.0 in let version = c.args.version in let asked =
    c.args.asked.now in
    exit_fault c.from_residual-in_err-status.result
    (Unread g.I.Read.remaining g.I.Inlet.fails c.args.reader.now c.read_value.new.reader (reply_at version asked)) fault
    c.from_residual-in_err-status.ensures.1
    (unread_behind g.I.Read.remaining g.I.Inlet.fails c.args.reader.now c.read_key.new.reader c.read_value.new.reader
    (reply_at version asked) value_at ((reply_magic version) ++ field asked) fault
    (Consumes-trans _ _ _ (reply_magic version) (field asked) c.in_ok-read_reply_magic.ensures.whole c.in_ok-read_key.ensures.whole)
    (λ rest e. reply_at-no_value version asked rest fault c.in_ok-read_key.ensures.within e) c.in_err-status.ensures.unread)

pub returns-in_err-read_digest-clause-unread : goal.returns-in_err-read_digest-clause-unread
returns-in_err-read_digest-clause-unread g c =
    let fault = c.in_err-read_digest.field-0.0 in let version = c.args.version in let asked = c.args.asked.now in
    let status = c.in_ok-status.status in
    let value = c.in_ok-status.value.items in
    let is : IsReply asked status value = record {
      key_within = c.in_ok-read_key.ensures.within;
      status_known = c.in_ok-status.ensures.status;
      value_within =
          c.in_ok-status.ensures.within;
      no_value = c.in_ok-status.ensures.no_value;
    } in
    let front = Consumes-trans (g.I.Read.remaining c.args.reader.now) (g.I.Read.remaining c.read_reply_magic.new.reader)
    (g.I.Read.remaining c.read_key.new.reader) (reply_magic version) (field asked) c.in_ok-read_reply_magic.ensures.whole
    c.in_ok-read_key.ensures.whole in
    let unread : Unread g.I.Read.remaining g.I.Inlet.fails c.read_value.new.reader c.read_digest.new.reader (digest_at (asked ++ value))
    fault =
    subst (λ v. Unread g.I.Read.remaining g.I.Inlet.fails c.read_value.new.reader c.read_digest.new.reader (digest_at (asked ++ v)) fault)
    c.as_slice.ensures.value c.in_err-read_digest.ensures.unread in
    exit_fault c.from_residual-in_err-read_digest.result
    (Unread g.I.Read.remaining g.I.Inlet.fails c.args.reader.now c.read_digest.new.reader (reply_at version asked)) fault
    c.from_residual-in_err-read_digest.ensures.1
    (unread_behind g.I.Read.remaining g.I.Inlet.fails c.args.reader.now c.read_value.new.reader c.read_digest.new.reader
    (reply_at version asked) (digest_at (asked ++ value)) (((reply_magic version) ++ field asked) ++ (status ∷ field value)) fault
    (Consumes-trans _ _ _ ((reply_magic version) ++ field asked) (status ∷ field value) front c.in_ok-status.ensures.whole)
    (λ rest e. reply_at-no_digest version asked status value rest fault is e) unread)

pub returns-clause-whole : goal.returns-clause-whole
returns-clause-whole g c =
    let version = c.args.version in let asked = c.args.asked.now in
    let status = c.in_ok-status.status in
    let value = c.in_ok-status.value.items in
    let front = Consumes-trans (g.I.Read.remaining c.args.reader.now) (g.I.Read.remaining c.read_reply_magic.new.reader)
    (g.I.Read.remaining c.read_key.new.reader) (reply_magic version) (field asked) c.in_ok-read_reply_magic.ensures.whole
    c.in_ok-read_key.ensures.whole in
    let most = Consumes-trans (g.I.Read.remaining c.args.reader.now) (g.I.Read.remaining c.read_key.new.reader)
    (g.I.Read.remaining c.read_value.new.reader) ((reply_magic version) ++ field asked) (status ∷ field value) front
    c.in_ok-status.ensures.whole in
    let last : Consumes (g.I.Read.remaining c.read_value.new.reader) (g.I.Read.remaining c.read_digest.new.reader) (sha256 (asked ++ value))
    =
    subst (λ v. Consumes (g.I.Read.remaining c.read_value.new.reader) (g.I.Read.remaining c.read_digest.new.reader) (sha256 (asked ++ v)))
    c.as_slice.ensures.value c.in_ok-read_digest.ensures.whole in
    subst (Consumes (g.I.Read.remaining c.args.reader.now) (g.I.Read.remaining c.read_digest.new.reader))
    (reply_text-parts version asked status value)
    (Consumes-trans _ _ _ (((reply_magic version) ++ field asked) ++ (status ∷ field value)) (sha256 (asked ++ value)) most last)

pub returns-in_err-status-clause-memory : goal.returns-in_err-status-clause-memory
returns-in_err-status-clause-memory g c = let fault = c.in_err-status.field-0.0 in let version = c.args.version in let asked =
    c.args.asked.now in
    let old = g.I.Read.remaining c.args.reader.now in
    let new = g.I.Read.remaining c.read_value.new.reader in
    exit_fault c.from_residual-in_err-status.result (WantsReply version asked old new) fault c.from_residual-in_err-status.ensures.1
    (λ wanted. reply_front version old (g.I.Read.remaining c.read_reply_magic.new.reader) (g.I.Read.remaining c.read_key.new.reader) new
    asked
    c.in_ok-read_key.ensures.within c.in_ok-read_reply_magic.ensures.whole c.in_ok-read_key.ensures.whole
    (c.in_err-status.ensures.memory wanted))
