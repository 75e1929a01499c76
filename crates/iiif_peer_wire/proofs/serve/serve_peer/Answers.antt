use Rattle.std.proofs.Common.{arith}
use Rattle.iiif_peer_wire.specs.Faults.{LeftAt}
use Rattle.iiif_peer_wire.proofs.ExchangeLemmas.{begins_so, goes_further, ends_so}
use Rattle.iiif_peer_wire.proofs.serve.serve_peer.Goals as goal

pub loop-peers-init : goal.loop-peers-init
loop-peers-init g c = record {
  few = omega arith;
  came = begins_so (g.A.Answers.answers c.args.service.now) (LeftAt g.I.Inlet.fails) (LeftAt g.W.Outlet.fails) g.I.Read.remaining
      (g.I.Read.remaining c.args.reader.now) (g.W.Write.contents c.args.out.now);
}

pub loop-peers-preserved : goal.loop-peers-preserved
loop-peers-preserved g c =
    let more = c.serve_next.ensures.few c.loop-peers-test.true in
    record {
      few = omega (arith, more);
      came = goes_further (g.A.Answers.answers c.args.service.now) (LeftAt g.I.Inlet.fails) (LeftAt g.W.Outlet.fails) g.I.Read.remaining
          c.serve_next.new.reader c.serve_next.new.out
          c.loop-peers.n (g.I.Read.remaining c.args.reader.now) (g.I.Read.remaining c.loop-peers.reader)
          (g.I.Read.remaining c.serve_next.new.reader)
          (g.W.Write.contents c.args.out.now) (g.W.Write.contents c.loop-peers.out) (g.W.Write.contents c.serve_next.new.out)
          c.serve_next.result c.loop-peers-test.true c.loop-peers.invariant.came c.serve_next.ensures.served;
    }

pub returns : goal.returns
returns g c =
    ends_so (g.A.Answers.answers c.args.service.now) (LeftAt g.I.Inlet.fails) (LeftAt g.W.Outlet.fails) g.I.Read.remaining
    c.serve_next.new.reader c.serve_next.new.out
    c.loop-peers.n (g.I.Read.remaining c.args.reader.now) (g.I.Read.remaining c.loop-peers.reader)
    (g.W.Write.contents c.args.out.now) (g.W.Write.contents c.loop-peers.out) (g.W.Write.contents c.serve_next.new.out)
    c.serve_next.result c.loop-peers-test.false c.loop-peers.invariant.came c.serve_next.ensures.served
