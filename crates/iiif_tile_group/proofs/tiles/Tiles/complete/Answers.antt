use Rattle.iiif_tile_group.proofs.tiles.Tiles.complete.Goals as goal

pub returns : goal.returns
returns g c = rw c.requires.key at c.complete.ensures.known
