use Rattle.iiif_machine.proofs.KeyParts.{keys_are_told}
use Rattle.iiif_machine.proofs.laws.keys_are_told_apart.Goals as goal

pub returns : goal.returns
returns c = keys_are_told
