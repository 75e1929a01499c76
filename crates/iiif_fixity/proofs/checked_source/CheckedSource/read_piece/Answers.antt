use Rattle.std.proofs.Common.{length}
use Rattle.iiif_fixity.proofs.Checking.{gave_piece}
use Rattle.iiif_fixity.proofs.checked_source.CheckedSource.read_piece.Goals as goal

pub returns-in-Err-clause-fault : goal.returns-in-Err-clause-fault
returns-in-Err-clause-fault g c =
    gave_piece (g.S.Source.gave c.args.self.now.inner) c.args.self.now.pieces.size (length (g.S.Source.bytes c.args.self.now.inner))
    c.args.number _ _
    c.args.self.now.pieces.sized.0 c.requires.some c.requires.there c.in-Err.ensures.place c.in-Err.ensures.fault
