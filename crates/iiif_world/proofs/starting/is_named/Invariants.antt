use Rattle.std.proofs.Common.{◌≡◌, take}
use Rattle.iiif_machine.specs.Sound.{Each}
use Rattle.iiif_world.proofs.starting.is_named.Given as goal

-- those so far have other names
abbrev pub invariant-loop-setup : goal.invariant-loop-setup
invariant-loop-setup l = Each (λ s. ¬ (s.name ≡ l.name)) (take l.setup-index l.setups)
