use Rattle.iiif_area.proofs.AddingLaws.{RowsTaken}
use Rattle.iiif_area.proofs.adding.add_rows.Given as goal

-- what the result row has taken of the rows so far
abbrev pub invariant-loop-s : goal.invariant-loop-s
invariant-loop-s l = RowsTaken l.tile l.fn.share.corner l.fn.share.part l.row l.fn.share.region l.fn.share.size l.channels l.initial.sums
    l.sums l.start l.s
