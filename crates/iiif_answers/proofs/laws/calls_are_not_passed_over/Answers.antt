use Rattle.iiif_answers.proofs.SilenceLemmas.{silent}
use Rattle.iiif_answers.proofs.laws.calls_are_not_passed_over.Goals as goal

pub returns : goal.returns
returns g c last =
    silent g.S.Source.bytes g.S.Source.keeps g.J.System.honest g.S.Source.gave ((a b : g.row.I.Denot) × g.I.Inlet.fails a b)
    ((before : g.row.W.Denot) × g.W.Outlet.fails before last)
