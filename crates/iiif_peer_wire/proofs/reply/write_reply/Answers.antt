use Rattle.std.proofs.Common.{ℕ, List, ◌++◌, ◌∷◌, subst}
use Rattle.std.specs.Io.KnownBytes.{Appends}
use Rattle.std.proofs.KnownBytes.{Appends-trans}
use Rattle.sha2.specs.Sha256.{sha256}
use Rattle.iiif_peer_wire.specs.Faults.{IsCut}
use Rattle.iiif_peer_wire.specs.Messages.{reply_magic, reply_text, field}
use Rattle.iiif_peer_wire.proofs.Cut.{cut_first, cut_second}
use Rattle.iiif_peer_wire.proofs.Taken.{exit_fault, if_err_weaker}
use Rattle.iiif_peer_wire.proofs.Whole.{reply_text-parts}
use Rattle.std.proofs.lemmas.Result.{on_ok_weaker}
use Rattle.iiif_peer_wire.proofs.reply.write_reply.Goals as goal

pub returns-in_err-write_key-clause-cut : goal.returns-in_err-write_key-clause-cut
returns-in_err-write_key-clause-cut g c =
    let version = c.args.version in let key = c.args.key.now in let status = c.args.status in let value = c.args.value.now in let fault =
    c.in_err-write_key.field-0.0 in
    let cut = cut_first g.W.Write.contents g.W.Outlet.fails c.args.writer.now c.write_key.new.writer (reply_magic version ++ field key)
    (status ∷ field value) fault c.in_err-write_key.ensures.cut in
    exit_fault c.from_residual.result (IsCut g.W.Write.contents g.W.Outlet.fails c.args.writer.now c.write_key.new.writer
    (reply_text version key status value)) fault c.from_residual.ensures.1
    (subst (λ (text : List ℕ). IsCut g.W.Write.contents g.W.Outlet.fails c.args.writer.now c.write_key.new.writer text fault)
    (reply_text-parts version key status value)
    (cut_first g.W.Write.contents g.W.Outlet.fails c.args.writer.now c.write_key.new.writer
    ((reply_magic version ++ field key) ++ (status ∷ field value)) (sha256 (key ++ value)) fault cut))

pub returns-in_err-write_value-clause-cut : goal.returns-in_err-write_value-clause-cut
returns-in_err-write_value-clause-cut g c =
    let version = c.args.version in let key = c.args.key.now in let status = c.args.status in let value = c.args.value.now in let fault =
    c.in_err-write_value.field-0.0 in
    let cut = cut_second g.W.Write.contents g.W.Outlet.fails c.args.writer.now c.write_key.new.writer c.write_value.new.writer
    (reply_magic version ++ field key) (status ∷ field value) fault c.in_ok-write_key.ensures.whole c.in_err-write_value.ensures.cut in
    exit_fault c.from_residual-in_err-write_value.result
    (IsCut g.W.Write.contents g.W.Outlet.fails c.args.writer.now c.write_value.new.writer (reply_text version key status value)) fault
    c.from_residual-in_err-write_value.ensures.1
    (subst (λ (text : List ℕ). IsCut g.W.Write.contents g.W.Outlet.fails c.args.writer.now c.write_value.new.writer text fault)
    (reply_text-parts version key status value)
    (cut_first g.W.Write.contents g.W.Outlet.fails c.args.writer.now c.write_value.new.writer
    ((reply_magic version ++ field key) ++ (status ∷ field value)) (sha256 (key ++ value)) fault cut))

pub returns-clause-whole : goal.returns-clause-whole
returns-clause-whole g c =
    let version = c.args.version in let key = c.args.key.now in let status = c.args.status in let value = c.args.value.now in
    let most = Appends-trans (g.W.Write.contents c.args.writer.now) (g.W.Write.contents c.write_key.new.writer)
    (g.W.Write.contents c.write_value.new.writer) (reply_magic version ++ field key) (status ∷ field value)
    c.in_ok-write_key.ensures.whole c.in_ok-write_value.ensures.whole in
    on_ok_weaker c.write_digest.result (λ last.
    subst (Appends (g.W.Write.contents c.args.writer.now) (g.W.Write.contents c.write_digest.new.writer))
    (reply_text-parts version key status value)
    (Appends-trans _ _ _ ((reply_magic version ++ field key) ++ (status ∷ field value)) (sha256 (key ++ value)) most last))
    c.write_digest.ensures.whole

pub returns-clause-cut : goal.returns-clause-cut
returns-clause-cut g c =
    let version = c.args.version in let key = c.args.key.now in let status = c.args.status in let value = c.args.value.now in
    let most = Appends-trans (g.W.Write.contents c.args.writer.now) (g.W.Write.contents c.write_key.new.writer)
    (g.W.Write.contents c.write_value.new.writer) (reply_magic version ++ field key) (status ∷ field value)
    c.in_ok-write_key.ensures.whole c.in_ok-write_value.ensures.whole in
    if_err_weaker c.write_digest.result (λ fault cut.
    subst (λ (text : List ℕ). IsCut g.W.Write.contents g.W.Outlet.fails c.args.writer.now c.write_digest.new.writer text fault)
    (reply_text-parts version key status value)
    (cut_second g.W.Write.contents g.W.Outlet.fails c.args.writer.now c.write_value.new.writer c.write_digest.new.writer
    ((reply_magic version ++ field key) ++ (status ∷ field value)) (sha256 (key ++ value)) fault most cut)) c.write_digest.ensures.cut
