use Rattle.std.proofs.Common.{◌≡◌, map}
use Rattle.iiif_machine.specs.declared.keys.Key.TheVariants.{Sum}
use Rattle.iiif_machine.proofs.calling.sum_keys.Given as goal

-- the keys so far
abbrev pub invariant-loop-sum : goal.invariant-loop-sum
invariant-loop-sum l = l.keys.items ≡ map (λ k. Sum k) l.yielded
