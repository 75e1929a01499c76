use Rattle.iiif_source.specs.Runs.{HoldsRuns}
use Rattle.iiif_source.proofs.Source.read_runs.Given as goal

abbrev pub invariant-loop-j : goal.invariant-loop-j
invariant-loop-j g l = g.Self.Source.keeps l.self → HoldsRuns (g.Self.Source.bytes l.self) l.runs l.j l.buffer
