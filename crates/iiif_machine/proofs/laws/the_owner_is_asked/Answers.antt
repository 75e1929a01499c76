use Rattle.iiif_machine.proofs.RingOwners.{owner_is_the_rings}
use Rattle.iiif_machine.proofs.laws.the_owner_is_asked.Goals as goal

pub returns : goal.returns
returns c = owner_is_the_rings
