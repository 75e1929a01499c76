use Rattle.iiif_answers.proofs.AllowedLemmas.{call_text_framed}
use Rattle.iiif_answers.proofs.laws.allowed_is_framed.Goals as goal

pub returns : goal.returns
returns g c last =
    call_text_framed g.S.Source.bytes g.S.Source.keeps g.J.System.honest g.S.Source.gave
    ((before : g.row.W.Denot) × g.W.Outlet.fails before last)
