use Rattle.std.proofs.Common.{◌≡◌, ◌-◌}
use Rattle.iiif_machine.proofs.Numbered.{numbered}
use Rattle.iiif_machine.proofs.calling.numbers_of.Given as goal

-- the numbers so far
abbrev pub invariant-loop-number : goal.invariant-loop-number
invariant-loop-number l = l.numbers.items ≡ numbered l.first (l.number - l.first)
