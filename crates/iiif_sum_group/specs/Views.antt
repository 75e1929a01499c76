-- Images of the groups of a node.
use Rattle.std.specs.Prelude.{List}
use Rattle.iiif_tile_group.specs.Collection.{Item}
use Rattle.iiif_tile_group.specs.Views.{items_tiled}
use Rattle.iiif_sum_group.specs.declared.groups.Groups.{Groups}

module _ {R S J N T : Type 0} {d e f g : _} where
  -- the images whose tiles and sums they have
  abbrev pub items_served : Groups R S J N T d e f g → List (Item S)
  items_served s = items_tiled s.tiles
