use Rattle.std.specs.Prelude.{◌≡◌}
use Rattle.std.proofs.Common.{ap, Err, Ok, None, rules, nat_lt, arith}
use Rattle.iiif_peer_wire.specs.declared.fault.WireFault.{WireFault}
use Rattle.std.proofs.lemmas.Bool.{ltb-true, ltb-false}
use Rattle.iiif_peer_wire.specs.Faults.{LeftAt}
use Rattle.iiif_peer_wire.proofs.ExchangeLemmas.{none_left, ends_at_fault, sent_whole, sent_partly}
use Rattle.iiif_peer_wire.proofs.serve.serve_next.Goals as goal

pub returns-in-Ok-None-clause-served : goal.returns-in-Ok-None-clause-served
returns-in-Ok-None-clause-served g c =
    let is : c.read_ask.result ≡ Ok None = search rules in
    let end = rw is at c.read_ask.ensures.end in
    none_left (g.A.Answers.answers c.args.peers.now.service.now) (LeftAt g.I.Inlet.fails c.read_ask.new.reader)
    (LeftAt g.W.Outlet.fails c.args.out.now) c.args.n
    (g.I.Read.remaining c.args.reader.now) (g.I.Read.remaining c.read_ask.new.reader) (g.W.Write.contents c.args.out.now) end.0 end.1

pub returns-in-Ok-None-2-clause-served : goal.returns-in-Ok-None-2-clause-served
returns-in-Ok-None-2-clause-served g c =
    let told : (f : WireFault) × (c.read_ask.result ≡ Err f) = search rules in
    ends_at_fault (g.A.Answers.answers c.args.peers.now.service.now) (LeftAt g.I.Inlet.fails c.read_ask.new.reader)
    (LeftAt g.W.Outlet.fails c.args.out.now) c.args.n
    (g.I.Read.remaining c.args.reader.now) (g.I.Read.remaining c.read_ask.new.reader) (g.W.Write.contents c.args.out.now) told.0
    (rw told.1 at c.read_ask.ensures.refused)
    (λ io. (rw told.1 at c.read_ask.ensures.io) (ap Err io)) (λ io. (rw told.1 at c.read_ask.ensures.unfinished) (ap Err io))
    (λ memory. (rw told.1 at c.read_ask.ensures.memory) (ap Err memory))

pub returns-in-Ok-clause-served : goal.returns-in-Ok-clause-served
returns-in-Ok-clause-served g c =
    let known = rw c.in-Ok-Some.field-0-is at c.in-Ok-Some.ensures.known in
    let text = rw c.in-Ok-Some.field-0-is at c.in-Ok-Some.ensures.text in
    sent_whole (g.A.Answers.answers c.args.peers.now.service.now) (LeftAt g.I.Inlet.fails c.read_ask.new.reader)
    (LeftAt g.W.Outlet.fails c.write_reply.new.writer)
    c.in-Ok-Some.ask.version c.args.n c.in-Ok-Some.ask.group c.answer-status.result.0 c.in-Ok-Some.ask.key.items
    c.answer-status.result.1.items
    (g.I.Read.remaining c.args.reader.now) (g.I.Read.remaining c.read_ask.new.reader) (g.W.Write.contents c.args.out.now)
    (g.W.Write.contents c.write_reply.new.writer) (nat_lt c.args.n 1000) known
    (record { spelled = c.answer-status.ensures.spelled; allowed = c.answer-status.ensures.allowed })
    text (rw c.deref-2.ensures.value at (rw c.deref.ensures.value at c.in-Ok.ensures.whole)) (λ is. ltb-true c.args.n 1000 is)
    (λ is. omega (arith, ltb-false c.args.n 1000 is, c.requires.few))

pub returns-clause-served : goal.returns-clause-served
returns-clause-served g c =
    let known = rw c.in-Ok-Some.field-0-is at c.in-Ok-Some.ensures.known in
    let text = rw c.in-Ok-Some.field-0-is at c.in-Ok-Some.ensures.text in
    sent_partly (g.A.Answers.answers c.args.peers.now.service.now) (LeftAt g.I.Inlet.fails c.read_ask.new.reader)
    c.in-Ok-Some.ask.version c.args.n c.in-Ok-Some.ask.group c.answer-status.result.0 c.in-Ok-Some.ask.key.items
    c.answer-status.result.1.items
    (g.I.Read.remaining c.args.reader.now) (g.I.Read.remaining c.read_ask.new.reader) g.W.Write.contents g.W.Outlet.fails
    c.args.out.now c.write_reply.new.writer c.in-Err.field-0 known
    (record { spelled = c.answer-status.ensures.spelled; allowed = c.answer-status.ensures.allowed })
    text (rw c.deref-2.ensures.value at (rw c.deref.ensures.value at c.in-Err.ensures.cut))
