use Rattle.std.proofs.Common.{◌≢◌, ℕ, ◌<◌}
use Rattle.iiif_ring.specs.Code.{name_at}
use Rattle.iiif_ring.specs.Names.{names_of}
use Rattle.iiif_ring.proofs.ring.has_twice.Given as goal

abbrev pub invariant-loop-early : goal.invariant-loop-early
invariant-loop-early l = (i : ℕ) → i < l.early → name_at (names_of l.names) i ≢ name_at (names_of l.names) l.late

abbrev pub invariant-loop-late : goal.invariant-loop-late
invariant-loop-late l = (i j : ℕ) → i < j → j < l.late → name_at (names_of l.names) i ≢ name_at (names_of l.names) j
