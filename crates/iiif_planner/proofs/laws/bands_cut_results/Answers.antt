use Rattle.iiif_planner.proofs.CutLaws.{bands_cut, bands_are_low}
use Rattle.iiif_planner.proofs.laws.bands_cut_results.Goals as goal

pub returns-clause-cut : goal.returns-clause-cut
returns-clause-cut c = bands_cut c.bands_follow.ensures.bands c.bands_follow.ensures.all

pub returns-clause-low : goal.returns-clause-low
returns-clause-low c = bands_are_low
