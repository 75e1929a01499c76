use Rattle.iiif_tiff_write.proofs.KindLemmas.{Holds_quality}
use Rattle.iiif_tiff_write.proofs.kind.OutKind.for_quality.Goals as goal

pub returns-clause-holds : goal.returns-clause-holds
returns-clause-holds c = λ p is. rw c.in_quality.ensures (Holds_quality c.args.source c.args.depth c.args.to p is)
