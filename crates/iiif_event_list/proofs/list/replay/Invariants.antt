use Rattle.std.specs.Io.Iter.{lines_known_bytes}
use Rattle.iiif_event_list.proofs.SoFar.{WrittenSoFar}
use Rattle.iiif_event_list.proofs.list.replay.Given as goal

abbrev pub invariant-loop-line : goal.invariant-loop-line
invariant-loop-line g l =
    WrittenSoFar l.fn.mode (g.R.Read.remaining l.fn.reader) (lines_known_bytes g.R.Read.remaining l.line-iterator) l.number l.replay.state
    (g.W.Write.contents l.fn.out) (g.W.Write.contents l.out)
