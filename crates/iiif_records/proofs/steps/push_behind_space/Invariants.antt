use Rattle.std.proofs.Common.{◌≡◌, ◌++◌, drop, if◌then◌else◌}
use Rattle.iiif_records.specs.Records.{behind_space}
use Rattle.iiif_records.proofs.steps.push_behind_space.Given as goal

abbrev pub invariant-loop-byte : goal.invariant-loop-byte
invariant-loop-byte l = l.initial.out.items ++ behind_space l.line
    ≡ l.out.items ++ (if l.is_behind then drop l.byte-index l.line else behind_space (drop l.byte-index l.line))
