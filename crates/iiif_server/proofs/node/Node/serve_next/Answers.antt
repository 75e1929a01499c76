use Rattle.std.proofs.Common.{◌≡◌, ◌⊎◌, ◌++◌, Err, Some, ap, inl, rules, ⊎_elim}
use Rattle.iiif_http_front.specs.Reading.{input_of}
use Rattle.iiif_http_front.specs.declared.head_fault.HeadFault.TheVariants as HeadFault
use Rattle.iiif_answers.specs.Streams.{terms}
use Rattle.iiif_server.proofs.StreamLemmas.{next_call, next_none, next_cut, next_failed, next_failed_here, next_bad, next_too_long}
use Rattle.iiif_server.proofs.StreamLemmas.{next_no_memory, lacks_for_a_call}
use Rattle.iiif_server.proofs.node.Node.serve_next.Goals as goal

pub returns-in-Ok-None-clause-next : goal.returns-in-Ok-None-clause-next
returns-in-Ok-None-clause-next g c = record {
  serves =
      next_none (terms g.S.Source.bytes g.S.Source.keeps g.J.System.honest g.S.Source.gave c.args.self.now.settings c.args.self.now.items
      ((a b : g.row.I.Denot) × g.I.Inlet.fails a b) ((b : g.row.W.Denot) × g.W.Outlet.fails b c.args.out.now))
      c.args.n (input_of g.I.Read.remaining c.args.heads.now) (input_of g.I.Read.remaining c.read_head.new.self)
      (g.W.Write.contents c.args.out.now)
      (rw c.in-Ok-None.field-0-is at c.in-Ok-None.ensures.answers c.requires.no_fault);
  came =
      let came = (rw c.in-Ok-None.field-0-is at c.in-Ok-None.ensures.came c.requires.no_fault) in
      let sent = next_none (terms g.S.Source.bytes g.S.Source.keeps g.J.System.honest g.S.Source.gave c.args.self.now.settings
      c.args.self.now.items ((a b : g.row.I.Denot) × g.I.Inlet.fails a b) ((b : g.row.W.Denot) × g.W.Outlet.fails b c.args.out.now))
      c.args.n (Some (c.args.heads.now.unread ++ came.0)) (Some c.read_head.new.self.unread) (g.W.Write.contents c.args.out.now)
      came.1 in
      (came.0, sent.0, sent.1, sent.2);
}

pub returns-in-Err-Bad-clause-next : goal.returns-in-Err-Bad-clause-next
returns-in-Err-Bad-clause-next g c = record {
  serves =
      let kind : (c.in-Err-Bad.field-0 ≡ HeadFault.Bad) ⊎ (c.in-Err-Bad.field-0 ≡ HeadFault.TooLong) = search rules in
      ⊎_elim
      (λ it.
      next_bad (terms g.S.Source.bytes g.S.Source.keeps g.J.System.honest g.S.Source.gave c.args.self.now.settings c.args.self.now.items
      ((a b : g.row.I.Denot) × g.I.Inlet.fails a b) ((b : g.row.W.Denot) × g.W.Outlet.fails b c.close_for_head-outcome.new.out))
      c.args.n (input_of g.I.Read.remaining c.args.heads.now) (input_of g.I.Read.remaining c.read_head.new.self)
      (g.W.Write.contents c.args.out.now)
      (g.W.Write.contents c.close_for_head-outcome.new.out) (rw it at c.in-Err-Bad.ensures.answers c.requires.no_fault)
      c.close_for_head-outcome.ensures)
      (λ it.
      next_too_long (terms g.S.Source.bytes g.S.Source.keeps g.J.System.honest g.S.Source.gave c.args.self.now.settings
      c.args.self.now.items ((a b : g.row.I.Denot) × g.I.Inlet.fails a b)
      ((b : g.row.W.Denot) × g.W.Outlet.fails b c.close_for_head-outcome.new.out))
      c.args.n (input_of g.I.Read.remaining c.args.heads.now) (input_of g.I.Read.remaining c.read_head.new.self)
      (g.W.Write.contents c.args.out.now)
      (g.W.Write.contents c.close_for_head-outcome.new.out) (rw it at c.in-Err-Bad.ensures.answers c.requires.no_fault)
      c.close_for_head-outcome.ensures)
      kind;
  came =
      let kind : (c.in-Err-Bad.field-0 ≡ HeadFault.Bad) ⊎ (c.in-Err-Bad.field-0 ≡ HeadFault.TooLong) = search rules in
      ⊎_elim
      (λ it.
      let came = (rw it at c.in-Err-Bad.ensures.came c.requires.no_fault) in
      let sent = next_bad (terms g.S.Source.bytes g.S.Source.keeps g.J.System.honest g.S.Source.gave c.args.self.now.settings
      c.args.self.now.items ((a b : g.row.I.Denot) × g.I.Inlet.fails a b)
      ((b : g.row.W.Denot) × g.W.Outlet.fails b c.close_for_head-outcome.new.out))
      c.args.n (Some (c.args.heads.now.unread ++ came.0)) (Some c.read_head.new.self.unread) (g.W.Write.contents c.args.out.now)
      (g.W.Write.contents c.close_for_head-outcome.new.out) came.1 c.close_for_head-outcome.ensures in
      (came.0, sent.0, sent.1, sent.2))
      (λ it.
      let came = (rw it at c.in-Err-Bad.ensures.came c.requires.no_fault) in
      let sent = next_too_long (terms g.S.Source.bytes g.S.Source.keeps g.J.System.honest g.S.Source.gave c.args.self.now.settings
      c.args.self.now.items ((a b : g.row.I.Denot) × g.I.Inlet.fails a b)
      ((b : g.row.W.Denot) × g.W.Outlet.fails b c.close_for_head-outcome.new.out))
      c.args.n (Some (c.args.heads.now.unread ++ came.0)) (Some c.read_head.new.self.unread) (g.W.Write.contents c.args.out.now)
      (g.W.Write.contents c.close_for_head-outcome.new.out) came.1
      c.close_for_head-outcome.ensures in
      (came.0, sent.0, sent.1, sent.2))
      kind;
}

pub returns-in-Err-NoMemory-clause-next : goal.returns-in-Err-NoMemory-clause-next
returns-in-Err-NoMemory-clause-next g c = record {
  serves =
      next_no_memory (terms g.S.Source.bytes g.S.Source.keeps g.J.System.honest g.S.Source.gave c.args.self.now.settings
      c.args.self.now.items ((a b : g.row.I.Denot) × g.I.Inlet.fails a b)
      ((b : g.row.W.Denot) × g.W.Outlet.fails b c.close_for_memory-outcome.new.out))
      c.args.n (input_of g.I.Read.remaining c.args.heads.now) (g.W.Write.contents c.args.out.now)
      (g.W.Write.contents c.close_for_memory-outcome.new.out)
      (lacks_for_a_call (input_of g.I.Read.remaining c.args.heads.now) (input_of g.I.Read.remaining c.read_head.new.self)
      (rw c.in-Err-NoMemory.field-0-is at c.in-Err-NoMemory.ensures.answers c.requires.no_fault)) c.close_for_memory-outcome.ensures;
  came =
      let came = (rw c.in-Err-NoMemory.field-0-is at c.in-Err-NoMemory.ensures.came c.requires.no_fault) in
      let sent = next_no_memory (terms g.S.Source.bytes g.S.Source.keeps g.J.System.honest g.S.Source.gave c.args.self.now.settings
      c.args.self.now.items ((a b : g.row.I.Denot) × g.I.Inlet.fails a b)
      ((b : g.row.W.Denot) × g.W.Outlet.fails b c.close_for_memory-outcome.new.out))
      c.args.n (Some (c.args.heads.now.unread ++ came.0)) (g.W.Write.contents c.args.out.now)
      (g.W.Write.contents c.close_for_memory-outcome.new.out) (inl came.1.0) c.close_for_memory-outcome.ensures in
      (came.0, sent.0, sent.1, sent.2);
}

pub returns-in-Err-Cut-clause-next : goal.returns-in-Err-Cut-clause-next
returns-in-Err-Cut-clause-next g c = record {
  serves =
      let kind : (c.in-Err-Cut.field-0 ≡ HeadFault.Cut) ⊎ (c.in-Err-Cut.field-0 ≡ HeadFault.Io) = search rules in
      ⊎_elim
      (λ it.
      next_cut (terms g.S.Source.bytes g.S.Source.keeps g.J.System.honest g.S.Source.gave c.args.self.now.settings c.args.self.now.items
      ((a b : g.row.I.Denot) × g.I.Inlet.fails a b) ((b : g.row.W.Denot) × g.W.Outlet.fails b c.args.out.now))
      c.args.n (input_of g.I.Read.remaining c.args.heads.now) (input_of g.I.Read.remaining c.read_head.new.self)
      (g.W.Write.contents c.args.out.now)
      (rw it at c.in-Err-Cut.ensures.answers c.requires.no_fault))
      (λ it.
      let failed = c.in-Err-Cut.ensures.io c.requires.no_fault (ap Err it) in
      let none = c.in-Err-Cut.ensures.held c.requires.no_fault (ap Err it) in
      next_failed (terms g.S.Source.bytes g.S.Source.keeps g.J.System.honest g.S.Source.gave c.args.self.now.settings
      c.args.self.now.items ((a b : g.row.I.Denot) × g.I.Inlet.fails a b) ((b : g.row.W.Denot) × g.W.Outlet.fails b c.args.out.now))
      c.args.n (input_of g.I.Read.remaining c.args.heads.now) c.read_head.new.self.unread
      (g.I.Read.remaining c.read_head.new.self.reader) (g.W.Write.contents c.args.out.now)
      (failed.0, _, failed.1) none (rw it at c.in-Err-Cut.ensures.answers c.requires.no_fault))
      kind;
  came =
      let kind : (c.in-Err-Cut.field-0 ≡ HeadFault.Cut) ⊎ (c.in-Err-Cut.field-0 ≡ HeadFault.Io) = search rules in
      ⊎_elim
      (λ it.
      let came = (rw it at c.in-Err-Cut.ensures.came c.requires.no_fault) in
      let sent = next_cut (terms g.S.Source.bytes g.S.Source.keeps g.J.System.honest g.S.Source.gave c.args.self.now.settings
      c.args.self.now.items ((a b : g.row.I.Denot) × g.I.Inlet.fails a b) ((b : g.row.W.Denot) × g.W.Outlet.fails b c.args.out.now))
      c.args.n (Some (c.args.heads.now.unread ++ came.0)) (Some c.read_head.new.self.unread) (g.W.Write.contents c.args.out.now)
      came.1 in
      (came.0, sent.0, sent.1, sent.2))
      (λ it.
      let failed = c.in-Err-Cut.ensures.io c.requires.no_fault (ap Err it) in
      let none = c.in-Err-Cut.ensures.held c.requires.no_fault (ap Err it) in
      let came = (rw it at c.in-Err-Cut.ensures.came c.requires.no_fault) in
      let sent = next_failed_here (terms g.S.Source.bytes g.S.Source.keeps g.J.System.honest g.S.Source.gave c.args.self.now.settings
      c.args.self.now.items ((a b : g.row.I.Denot) × g.I.Inlet.fails a b) ((b : g.row.W.Denot) × g.W.Outlet.fails b c.args.out.now))
      c.args.n (c.args.heads.now.unread ++ came.0) c.read_head.new.self.unread (g.W.Write.contents c.args.out.now)
      (failed.0, _, failed.1) none came.1 in
      (came.0, sent.0, sent.1, sent.2))
      kind;
}

pub returns-clause-next : goal.returns-clause-next
returns-clause-next g c = record {
  serves =
      next_call g.S.Source.bytes g.S.Source.keeps g.J.System.honest g.S.Source.gave c.args.self.now.settings c.args.self.now.items
      ((a b : g.row.I.Denot) × g.I.Inlet.fails a b) ((b : g.row.W.Denot) × g.W.Outlet.fails b c.serve_call.new.out)
      c.args.n (input_of g.I.Read.remaining c.args.heads.now) (input_of g.I.Read.remaining c.read_head.new.self) c.in-Ok-Some.call
      c.closing_call-call.result c.serve_call.result
      (g.W.Write.contents c.args.out.now) (g.W.Write.contents c.serve_call.new.out)
      (rw c.in-Ok-Some.field-0-is at c.in-Ok-Some.ensures.answers c.requires.no_fault)
      c.closing_call-call.ensures.method c.closing_call-call.ensures.target c.closing_call-call.ensures.close c.serve_call.ensures;
  came =
      let came = (rw c.in-Ok-Some.field-0-is at c.in-Ok-Some.ensures.came c.requires.no_fault) in
      let sent = next_call g.S.Source.bytes g.S.Source.keeps g.J.System.honest g.S.Source.gave c.args.self.now.settings
      c.args.self.now.items ((a b : g.row.I.Denot) × g.I.Inlet.fails a b)
      ((b : g.row.W.Denot) × g.W.Outlet.fails b c.serve_call.new.out)
      c.args.n (Some (c.args.heads.now.unread ++ came.0)) (Some c.read_head.new.self.unread) c.in-Ok-Some.call
      c.closing_call-call.result c.serve_call.result
      (g.W.Write.contents c.args.out.now) (g.W.Write.contents c.serve_call.new.out) came.1
      c.closing_call-call.ensures.method c.closing_call-call.ensures.target c.closing_call-call.ensures.close c.serve_call.ensures in
      (came.0, sent.0, sent.1, sent.2);
}
