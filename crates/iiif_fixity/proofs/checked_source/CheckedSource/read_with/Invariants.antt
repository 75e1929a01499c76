use Rattle.std.proofs.Common.{length, ◌-◌, ◌≡◌, ◌≤◌, take, drop}
use Rattle.iiif_fixity.specs.Pieces.{IsPieceOf, IsTold}
use Rattle.iiif_fixity.proofs.checked_source.CheckedSource.read_with.Given as goal

abbrev pub invariant-loop-done : goal.invariant-loop-done
invariant-loop-done g l = record {
  within : l.done ≤ length l.buffer;
  kept : IsTold (g.S.Source.reads l.self.inner) l.self.pieces.size l.self.pieces.digests.items (g.S.Source.bytes l.self.inner) →
      IsPieceOf l.self.pieces.size (g.S.Source.bytes l.self.inner) l.kept.number l.kept.piece.items;
  there : IsTold (g.S.Source.reads l.self.inner) l.self.pieces.size l.self.pieces.digests.items (g.S.Source.bytes l.self.inner) →
      take l.done l.buffer ≡ take l.done (drop l.at (g.S.Source.bytes l.self.inner));
}

abbrev pub decreases-loop-done : goal.decreases-loop-done
decreases-loop-done g l = length l.initial.buffer - l.done
