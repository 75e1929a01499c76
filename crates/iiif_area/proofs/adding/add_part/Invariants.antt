use Rattle.iiif_area.proofs.AddingLaws.{part_sums}
use Rattle.iiif_area.proofs.MergeLaws.{AddedTo}
use Rattle.iiif_area.proofs.adding.add_part.Given as goal

-- the rows so far have theirs added
abbrev pub invariant-loop-j : goal.invariant-loop-j
invariant-loop-j l =
    AddedTo l.channels l.mine l.places l.common l.left l.top l.initial.sums
    (part_sums l.share.region l.share.size l.share.part l.tile l.share.corner l.channels l.places) l.sums l.j
