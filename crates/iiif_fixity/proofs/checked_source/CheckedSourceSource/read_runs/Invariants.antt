use Rattle.iiif_source.specs.Runs.{HoldsRuns}
use Rattle.iiif_fixity.specs.Pieces.{IsPieceOf, IsTold}
use Rattle.iiif_fixity.proofs.checked_source.CheckedSourceSource.read_runs.Given as goal

abbrev pub invariant-loop-j : goal.invariant-loop-j
invariant-loop-j g l = record {
  kept : IsTold (g.S.Source.reads l.self.inner) l.self.pieces.size l.self.pieces.digests.items (g.S.Source.bytes l.self.inner) →
      IsPieceOf l.self.pieces.size (g.S.Source.bytes l.self.inner) l.kept.number l.kept.piece.items;
  there : IsTold (g.S.Source.reads l.self.inner) l.self.pieces.size l.self.pieces.digests.items (g.S.Source.bytes l.self.inner) →
      HoldsRuns (g.S.Source.bytes l.self.inner) l.runs l.j l.buffer;
}
