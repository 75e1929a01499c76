use Rattle.iiif_machine.proofs.Allowed.{allowed_exactly}
use Rattle.iiif_machine.proofs.laws.events_are_allowed_exactly.Goals as goal

pub returns : goal.returns
returns c = allowed_exactly
