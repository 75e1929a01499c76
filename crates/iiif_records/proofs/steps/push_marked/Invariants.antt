use Rattle.std.proofs.Common.{◌≡◌, ◌++◌, drop}
use Rattle.std.specs.List.{flat_map}
use Rattle.iiif_records.specs.Records.{lines_behind, marked, unmarked}
use Rattle.iiif_records.proofs.steps.push_marked.Given as goal

abbrev pub invariant-loop-byte : goal.invariant-loop-byte
invariant-loop-byte l = l.initial.out.items ++ marked l.mark l.text
    ≡ l.out.items ++ flat_map (unmarked l.mark) (lines_behind l.line.items (drop l.byte-index l.text))
