use Rattle.iiif_planner.proofs.Greatest.{level_greatest}
use Rattle.iiif_planner.proofs.laws.level_is_greatest.Goals as goal

pub returns : goal.returns
returns c = level_greatest
