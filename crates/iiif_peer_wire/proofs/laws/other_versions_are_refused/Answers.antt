use Rattle.iiif_peer_wire.proofs.Whole.{other_refused}
use Rattle.iiif_peer_wire.proofs.laws.other_versions_are_refused.Goals as goal

pub returns : goal.returns
returns c = other_refused
