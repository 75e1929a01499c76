use Rattle.std.proofs.Common.{Some, ap, arith, ◌<◌}
use Rattle.iiif_http_front.specs.Reading.{Reading, input_of}
use Rattle.iiif_answers.specs.Streams.{terms}
use Rattle.iiif_server.proofs.StreamLemmas.{begins_so, goes_further, ends_so, at_start, came_at_end, came_further, nothing_came}
use Rattle.iiif_server.proofs.StreamLemmas.{none_at_start, none_at_start_here}
use Rattle.iiif_server.proofs.node.Node.serve_stream.Goals as goal

pub returns-in_default : goal.returns-in_default
returns-in_default g c = record {
  serves = none_at_start (terms g.S.Source.bytes g.S.Source.keeps g.J.System.honest g.S.Source.gave c.args.self.now.settings
      c.args.self.now.items ((a b : g.row.I.Denot) × g.I.Inlet.fails a b)
      ((b : g.row.W.Denot) × g.W.Outlet.fails b c.close_for_memory-outcome.new.out)) (g.I.Read.remaining c.args.reader)
      (g.W.Write.contents c.args.out.now) (g.W.Write.contents c.close_for_memory-outcome.new.out) c.close_for_memory-outcome.ensures;
  came = none_at_start_here (terms g.S.Source.bytes g.S.Source.keeps g.J.System.honest g.S.Source.gave c.args.self.now.settings
      c.args.self.now.items ((a b : g.row.I.Denot) × g.I.Inlet.fails a b)
      ((b : g.row.W.Denot) × g.W.Outlet.fails b c.close_for_memory-outcome.new.out)) (g.W.Write.contents c.args.out.now)
      (g.W.Write.contents c.close_for_memory-outcome.new.out) c.close_for_memory-outcome.ensures;
}

pub calls-init : goal.calls-init
calls-init g c = record {
  no_fault = ap (λ (r : Reading g.row.I.Denot). r.fault) c.in-Ok.ensures;
  few = omega arith;
  goes_on = begins_so (λ after. terms g.S.Source.bytes g.S.Source.keeps g.J.System.honest g.S.Source.gave c.args.self.now.settings
      c.args.self.now.items ((a b : g.row.I.Denot) × g.I.Inlet.fails a b) ((b : g.row.W.Denot) × g.W.Outlet.fails b after))
      (g.I.Read.remaining c.args.reader) (input_of g.I.Read.remaining c.in-Ok.heads) (g.W.Write.contents c.args.out.now)
      (at_start g.I.Read.remaining c.in-Ok.heads c.args.reader c.in-Ok.ensures);
  came = nothing_came (λ after. terms g.S.Source.bytes g.S.Source.keeps g.J.System.honest g.S.Source.gave c.args.self.now.settings
      c.args.self.now.items ((a b : g.row.I.Denot) × g.I.Inlet.fails a b) ((b : g.row.W.Denot) × g.W.Outlet.fails b after))
      (g.W.Write.contents c.args.out.now);
}

pub calls-preserved : goal.calls-preserved
calls-preserved g c =
    let more : c.calls.n < 1000 = c.serve_next.ensures.few c.calls-test.true in
    record {
      no_fault = c.serve_next.ensures.goes_on c.calls-test.true;
      few = omega (arith, more);
      goes_on = goes_further (λ after. terms g.S.Source.bytes g.S.Source.keeps g.J.System.honest g.S.Source.gave c.args.self.now.settings
          c.args.self.now.items ((a b : g.row.I.Denot) × g.I.Inlet.fails a b) ((b : g.row.W.Denot) × g.W.Outlet.fails b after))
          c.calls.n (g.I.Read.remaining c.args.reader) (input_of g.I.Read.remaining c.calls.heads)
          (input_of g.I.Read.remaining c.serve_next.new.heads) (g.W.Write.contents c.args.out.now) (g.W.Write.contents c.calls.out)
          (g.W.Write.contents c.serve_next.new.out)
          c.serve_next.new.out c.serve_next.result (λ a b h close text whole. whole) c.calls-test.true c.calls.invariant.goes_on
          c.serve_next.ensures.next.serves;
      came = came_further (λ after. terms g.S.Source.bytes g.S.Source.keeps g.J.System.honest g.S.Source.gave c.args.self.now.settings
          c.args.self.now.items ((a b : g.row.I.Denot) × g.I.Inlet.fails a b) ((b : g.row.W.Denot) × g.W.Outlet.fails b after))
          c.calls.n c.calls.heads.unread (Some c.serve_next.new.heads.unread) (g.W.Write.contents c.args.out.now)
          (g.W.Write.contents c.calls.out) (g.W.Write.contents c.serve_next.new.out) c.serve_next.new.out c.serve_next.result
          (λ a b h close text whole. whole)
          c.calls-test.true c.calls.invariant.came c.serve_next.ensures.next.came;
    }

pub returns : goal.returns
returns g c = record {
  serves = ends_so (λ after. terms g.S.Source.bytes g.S.Source.keeps g.J.System.honest g.S.Source.gave c.args.self.now.settings
      c.args.self.now.items ((a b : g.row.I.Denot) × g.I.Inlet.fails a b) ((b : g.row.W.Denot) × g.W.Outlet.fails b after)) c.calls.n
      (g.I.Read.remaining c.args.reader) (input_of g.I.Read.remaining c.calls.heads)
      (input_of g.I.Read.remaining c.serve_next.new.heads) (g.W.Write.contents c.args.out.now) (g.W.Write.contents c.calls.out)
      (g.W.Write.contents c.serve_next.new.out)
      c.serve_next.new.out c.serve_next.result c.calls-test.false c.calls.invariant.goes_on c.serve_next.ensures.next.serves;
  came = came_at_end (λ after. terms g.S.Source.bytes g.S.Source.keeps g.J.System.honest g.S.Source.gave c.args.self.now.settings
      c.args.self.now.items ((a b : g.row.I.Denot) × g.I.Inlet.fails a b) ((b : g.row.W.Denot) × g.W.Outlet.fails b after)) c.calls.n
      c.calls.heads.unread (Some c.serve_next.new.heads.unread) (g.W.Write.contents c.args.out.now)
      (g.W.Write.contents c.calls.out) (g.W.Write.contents c.serve_next.new.out) c.serve_next.new.out c.serve_next.result
      c.calls-test.false
      c.calls.invariant.came c.serve_next.ensures.next.came;
}
