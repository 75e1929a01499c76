use Rattle.iiif_machine.proofs.Assembling.{plans_have_items, no_plan_is_empty, items_fit, items_make_image, refused_has_no_image}
use Rattle.iiif_machine.proofs.laws.items_make_the_image.Goals as goal

pub returns-clause-some : goal.returns-clause-some
returns-clause-some c = no_plan_is_empty

pub returns-clause-fit : goal.returns-clause-fit
returns-clause-fit c = items_fit

pub returns-clause-image : goal.returns-clause-image
returns-clause-image c = items_make_image

pub returns-clause-refused : goal.returns-clause-refused
returns-clause-refused c = refused_has_no_image

pub returns-clause-plan : goal.returns-clause-plan
returns-clause-plan c = plans_have_items
