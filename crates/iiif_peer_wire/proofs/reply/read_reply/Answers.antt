use Rattle.iiif_peer_wire.specs.Reading.{reply_at}
use Rattle.iiif_peer_wire.proofs.Only.{reply_only, refusals, io_failed}
use Rattle.iiif_peer_wire.proofs.reply.read_reply.Goals as goal

pub returns-clause-only : goal.returns-clause-only
returns-clause-only g c = reply_only g.I.Read.remaining g.I.Inlet.fails c.args.reader.now c.read_reply_fields.new.reader
    (λ answer. answer.0)
    (λ answer. answer.1.items) c.args.version c.args.asked_key.now c.read_reply_fields.result
    c.read_reply_fields.ensures.known c.read_reply_fields.ensures.whole c.read_reply_fields.ensures.unread

pub returns-clause-refused : goal.returns-clause-refused
returns-clause-refused g c = refusals g.I.Read.remaining g.I.Inlet.fails c.args.reader.now c.read_reply_fields.new.reader
    c.read_reply_fields.result
    (reply_at c.args.version c.args.asked_key.now) c.read_reply_fields.ensures.unread

pub returns-clause-io : goal.returns-clause-io
returns-clause-io g c = io_failed g.I.Read.remaining g.I.Inlet.fails c.args.reader.now c.read_reply_fields.new.reader
    c.read_reply_fields.result
    (reply_at c.args.version c.args.asked_key.now) c.read_reply_fields.ensures.unread
