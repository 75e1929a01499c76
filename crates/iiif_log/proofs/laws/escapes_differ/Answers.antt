use Rattle.iiif_log.proofs.EscapeLemmas.{escapes_differ}
use Rattle.iiif_log.proofs.laws.escapes_differ.Goals as goal

pub returns : goal.returns
returns c = escapes_differ
