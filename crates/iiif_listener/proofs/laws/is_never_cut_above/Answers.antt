use Rattle.iiif_listener.proofs.Flows.{never_cut}
use Rattle.iiif_listener.proofs.laws.is_never_cut_above.Goals as goal

pub returns : goal.returns
returns c = never_cut
