use Rattle.iiif_tiff.proofs.Samples.{read_by_hand}
use Rattle.iiif_tiff.proofs.samples_are_shown.Goals as goal

pub returns : goal.returns
returns c = read_by_hand
