use Rattle.iiif_info.proofs.LevelLemmas.{last_level_least}
use Rattle.iiif_info.proofs.laws.last_level_is_least.Goals as goal

pub returns : goal.returns
returns c = last_level_least
