use Rattle.iiif_tiff.proofs.Passing.{readable}
use Rattle.iiif_tiff.proofs.accepted_is_readable.Goals as goal

pub returns : goal.returns
returns c = readable
