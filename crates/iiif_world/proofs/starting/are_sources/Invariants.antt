use Rattle.std.proofs.Common.{take}
use Rattle.iiif_keys.specs.Names.{IsSource}
use Rattle.iiif_machine.specs.Sound.{Each}
use Rattle.iiif_world.proofs.starting.are_sources.Given as goal

-- those so far are
abbrev pub invariant-loop-item : goal.invariant-loop-item
invariant-loop-item l = Each (λ i. IsSource i.picture) (take l.item-index l.items)
