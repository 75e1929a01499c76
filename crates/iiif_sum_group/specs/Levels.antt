-- Levels of the blocks that a load may ask for.
use Rattle.std.specs.Prelude.{ℕ}
use Rattle.iiif_sum_group.specs.declared.below.Below.{Below}

module _ {R S J N T : Type 0} {d e f g : _} where
  -- the level of the block; all that may be asked for is of a lower one
  abbrev pub level_above : Below R S J N T d e f g → ℕ
  level_above b = b.level
