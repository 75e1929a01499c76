use Rattle.iiif_answers.proofs.DeviceLemmas.{whole_over}
use Rattle.iiif_answers.proofs.laws.whole_over_honest_devices.Goals as goal

pub returns : goal.returns
returns g c last =
    whole_over g.S.Source.bytes g.S.Source.keeps g.J.System.honest g.S.Source.gave ((before : g.row.W.Denot) × g.W.Outlet.fails before last)
    c.asked_once.ensures c.says_once.ensures
