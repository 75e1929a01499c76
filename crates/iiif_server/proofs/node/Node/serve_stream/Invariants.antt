use Rattle.std.proofs.Common.{◌≡◌, ◌≤◌, ◌-◌, None}
use Rattle.iiif_http_front.specs.Reading.{input_of}
use Rattle.iiif_answers.specs.Streams.{terms}
use Rattle.iiif_server.proofs.StreamLemmas.{CameSo, GoesOnSo}
use Rattle.iiif_server.proofs.node.Node.serve_stream.Given as goal

abbrev pub invariant-calls : goal.invariant-calls
invariant-calls g l =
    record {
      no_fault : l.heads.fault ≡ None;
      few : l.n ≤ 1000;
      goes_on : GoesOnSo (λ after. terms g.S.Source.bytes g.S.Source.keeps g.J.System.honest g.S.Source.gave l.self.settings l.self.items
          ((a b : g.row.I.Denot) × g.I.Inlet.fails a b) ((b : g.row.W.Denot) × g.W.Outlet.fails b after)) l.n
          (g.I.Read.remaining l.fn.reader) (input_of g.I.Read.remaining l.heads) (g.W.Write.contents l.fn.out) (g.W.Write.contents l.out);
      came : CameSo (λ after. terms g.S.Source.bytes g.S.Source.keeps g.J.System.honest g.S.Source.gave l.self.settings l.self.items
          ((a b : g.row.I.Denot) × g.I.Inlet.fails a b) ((b : g.row.W.Denot) × g.W.Outlet.fails b after)) l.n (g.W.Write.contents l.fn.out)
          (g.W.Write.contents l.out);
    }

abbrev pub decreases-calls : goal.decreases-calls
decreases-calls g l = 1000 - l.n
