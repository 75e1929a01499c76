use Rattle.std.proofs.Common.{◌≡◌, ◌++◌, ◌||◌, drop}
use Rattle.iiif_records.specs.Records.{node_steps, one_lacks_steps}
use Rattle.iiif_records.proofs.steps.push_runs.Given as goal

abbrev pub invariant-loop-run : goal.invariant-loop-run
invariant-loop-run l = record {
  steps : l.initial.out.items ++ node_steps l.runs ≡ l.out.items ++ node_steps (drop l.run-index l.runs);
  lacks : one_lacks_steps l.runs ≡ (l.lacks || one_lacks_steps (drop l.run-index l.runs));
}
