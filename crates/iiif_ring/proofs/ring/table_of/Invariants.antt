use Rattle.iiif_ring.specs.Names.{names_of}
use Rattle.iiif_ring.proofs.Table.{HoldsUpTo}
use Rattle.iiif_ring.proofs.ring.table_of.Given as goal

abbrev pub invariant-loop-place : goal.invariant-loop-place
invariant-loop-place l = HoldsUpTo (names_of l.names) l.points l.place 0

abbrev pub invariant-loop-replica : goal.invariant-loop-replica
invariant-loop-replica l = HoldsUpTo (names_of l.names) l.points l.place l.replica
