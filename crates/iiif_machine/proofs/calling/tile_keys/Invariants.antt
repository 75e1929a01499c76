use Rattle.std.proofs.Common.{◌≡◌, map}
use Rattle.iiif_machine.specs.declared.keys.Key.TheVariants.{Tile}
use Rattle.iiif_machine.proofs.calling.tile_keys.Given as goal

-- the keys so far
abbrev pub invariant-loop-tile : goal.invariant-loop-tile
invariant-loop-tile l = l.keys.items ≡ map (λ k. Tile k) l.yielded
