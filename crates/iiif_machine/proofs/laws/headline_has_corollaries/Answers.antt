use Rattle.iiif_machine.proofs.Corollaries.{headline_implies}
use Rattle.iiif_machine.proofs.laws.headline_has_corollaries.Goals as goal

pub returns : goal.returns
returns c = headline_implies
