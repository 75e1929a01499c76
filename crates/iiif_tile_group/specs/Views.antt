-- Images that tiles are of.
use Rattle.std.specs.Prelude.{List}
use Rattle.iiif_tile_group.specs.Collection.{Item}
use Rattle.iiif_tile_group.specs.declared.images.Images.{Images}
use Rattle.iiif_tile_group.specs.declared.tiles.Tiles.{Tiles}

module _ {R S J : Type 0} {d e : _} where
  -- the images, in the order in which they were taken in
  abbrev pub items_in : Images R S J d e → List (Item S)
  items_in i = i.catalogue

module _ {R S J N T : Type 0} {d e f : _} where
  -- the images whose tiles they are
  abbrev pub items_tiled : Tiles R S J N T d e f → List (Item S)
  items_tiled t = items_in t.images
