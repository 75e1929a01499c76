use Rattle.iiif_peer_versions.proofs.KeyLemmas.{same_key}
use Rattle.iiif_peer_versions.proofs.laws.keys_stay_apart.Goals as goal

pub returns : goal.returns
returns c = same_key
