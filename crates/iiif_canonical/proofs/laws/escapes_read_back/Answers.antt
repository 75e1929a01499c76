use Rattle.iiif_canonical.proofs.EscapeLemmas.{escaped_reads_back}
use Rattle.iiif_canonical.proofs.laws.escapes_read_back.Goals as goal

pub returns : goal.returns
returns c = escaped_reads_back
