use Rattle.iiif_listener.proofs.Flows.{always_cut}
use Rattle.iiif_listener.proofs.laws.is_always_cut_below.Goals as goal

pub returns : goal.returns
returns c = always_cut
