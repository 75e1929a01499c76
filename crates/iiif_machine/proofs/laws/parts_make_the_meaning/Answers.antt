use Rattle.iiif_machine.proofs.KeyParts.{parts_fit_too, parts_below, parts_make_meaning}
use Rattle.iiif_machine.proofs.laws.parts_make_the_meaning.Goals as goal

pub returns-clause-fit : goal.returns-clause-fit
returns-clause-fit c = parts_fit_too

pub returns-clause-below : goal.returns-clause-below
returns-clause-below c = parts_below

pub returns-clause-meaning : goal.returns-clause-meaning
returns-clause-meaning c = parts_make_meaning
