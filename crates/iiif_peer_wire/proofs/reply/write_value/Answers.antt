use Rattle.std.proofs.Common.{ℕ, List, OnOk, IfErr, subst}
use Rattle.std.specs.Io.KnownBytes.{Appends}
use Rattle.iiif_peer_wire.specs.Faults.{IsCut}
use Rattle.iiif_peer_wire.proofs.Cut.{value_head}
use Rattle.iiif_peer_wire.proofs.reply.write_value.Goals as goal

pub returns-clause-whole : goal.returns-clause-whole
returns-clause-whole g c = subst (λ (text : List ℕ).
    OnOk c.send_part.result (Appends (g.W.Write.contents c.args.writer.now) (g.W.Write.contents c.send_part.new.writer) text))
    (value_head c.to_be_bytes-size.result c.args.value.now c.args.status c.to_be_bytes-size.ensures) c.send_part.ensures.whole

pub returns-clause-cut : goal.returns-clause-cut
returns-clause-cut g c = subst (λ (text : List ℕ).
    IfErr c.send_part.result (IsCut g.W.Write.contents g.W.Outlet.fails c.args.writer.now c.send_part.new.writer text))
    (value_head c.to_be_bytes-size.result c.args.value.now c.args.status c.to_be_bytes-size.ensures) c.send_part.ensures.cut
