use Rattle.std.proofs.Common.{◌≤◌, ◌-◌}
use Rattle.iiif_peer_wire.specs.Faults.{LeftAt}
use Rattle.iiif_peer_wire.proofs.ExchangeLemmas.{CameSo}
use Rattle.iiif_peer_wire.proofs.serve.serve_peer.Given as goal

abbrev pub invariant-loop-peers : goal.invariant-loop-peers
invariant-loop-peers g l =
    record {
      few : l.n ≤ 1000;
      came : CameSo (g.A.Answers.answers l.fn.service) (LeftAt g.I.Inlet.fails) (LeftAt g.W.Outlet.fails) g.I.Read.remaining l.n
          (g.I.Read.remaining l.fn.reader)
          (g.I.Read.remaining l.reader) (g.W.Write.contents l.fn.out) (g.W.Write.contents l.out);
    }

abbrev pub decreases-loop-peers : goal.decreases-loop-peers
decreases-loop-peers g l = 1000 - l.n
