use Rattle.iiif_peer_versions.proofs.DigitLemmas.{same_version}
use Rattle.iiif_peer_versions.proofs.laws.versions_stay_apart.Goals as goal

pub returns : goal.returns
returns c = same_version
