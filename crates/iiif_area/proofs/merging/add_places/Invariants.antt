use Rattle.iiif_area.proofs.MergeLaws.{AddedTo}
use Rattle.iiif_area.proofs.merging.add_places.Given as goal

abbrev pub invariant-loop-j : goal.invariant-loop-j
invariant-loop-j l = AddedTo l.channels l.mine l.theirs l.common l.left l.top l.initial.sums l.others l.sums l.j
