use Rattle.std.proofs.Common.{◌≡◌, ◌++◌, drop}
use Rattle.std.specs.List.{flat_map}
use Rattle.iiif_records.specs.Records.{lines_behind, step_of, steps}
use Rattle.iiif_records.proofs.steps.push_steps.Given as goal

abbrev pub invariant-loop-byte : goal.invariant-loop-byte
invariant-loop-byte l = l.initial.out.items ++ steps l.text
    ≡ l.out.items ++ flat_map step_of (lines_behind l.line.items (drop l.byte-index l.text))
