use Rattle.iiif_fixity.proofs.Lawful.{same_list_or_collide}
use Rattle.iiif_fixity.proofs.laws.same_list_or_collide.Goals as goal

pub returns : goal.returns
returns c = same_list_or_collide
