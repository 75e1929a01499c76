use Rattle.iiif_peer_wire.specs.Reading.{ask_at}
use Rattle.iiif_peer_wire.proofs.Only.{ask_only, ask_none, refusals, io_failed}
use Rattle.iiif_peer_wire.proofs.ask.read_ask.Goals as goal

pub returns-clause-only : goal.returns-clause-only
returns-clause-only g c = ask_only g.I.Read.remaining g.I.Inlet.fails c.args.reader.now c.ask_from.new.reader (λ ask. ask.version)
    (λ ask. ask.group) (λ ask. ask.key.items) c.ask_from.result
    c.ask_from.ensures.none c.ask_from.ensures.known c.ask_from.ensures.whole c.ask_from.ensures.unread

pub returns-clause-only_end : goal.returns-clause-only_end
returns-clause-only_end g c = ask_none g.I.Read.remaining g.I.Inlet.fails c.args.reader.now c.ask_from.new.reader (λ ask. ask.version)
    (λ ask. ask.group) (λ ask. ask.key.items) c.ask_from.result
    c.ask_from.ensures.known c.ask_from.ensures.whole c.ask_from.ensures.unread

pub returns-clause-refused : goal.returns-clause-refused
returns-clause-refused g c = refusals g.I.Read.remaining g.I.Inlet.fails c.args.reader.now c.ask_from.new.reader c.ask_from.result ask_at
    c.ask_from.ensures.unread

pub returns-clause-io : goal.returns-clause-io
returns-clause-io g c = io_failed g.I.Read.remaining g.I.Inlet.fails c.args.reader.now c.ask_from.new.reader c.ask_from.result ask_at
    c.ask_from.ensures.unread
