use Rattle.std.proofs.Common.{Err, ap, refl}
use Rattle.iiif_peer_wire.specs.Messages.{ask_text}
use Rattle.iiif_peer_link.specs.Asking.{terms, WasSent}
use Rattle.iiif_peer_link.proofs.Asked.{wire_failed}
use Rattle.iiif_peer_link.proofs.ask.ask_over.Goals as goal

pub returns-clause-fault : goal.returns-clause-fault
returns-clause-fault g c =
    let said = c.in-Err-read_reply.ensures in
    let first = c.turn-reader.result in
    let last = c.read_reply.new.reader in
    let sent : WasSent g.W.Write.contents g.W.Exchange.turned c.args.out (ask_text c.args.version c.args.group c.args.key.now) first =
    record { written = c.write_ask.new.writer; sent = c.in-Ok.ensures.whole; turned_into = c.turn-reader.ensures } in
    wire_failed (terms g.W.Write.contents g.W.Outlet.fails g.W.Exchange.turned g.I.Read.remaining g.I.Inlet.fails c.args.out c.args.version
    c.args.group c.args.key.now) (g.I.Read.remaining first) (g.I.Read.remaining last) (first, last, sent, refl, refl)
    c.in-Err-read_reply.fault said.refused (λ is. (first, last, sent, said.io (ap (λ fault. Err fault) is)))
    (λ is. said.memory (ap (λ fault. Err fault) is))
