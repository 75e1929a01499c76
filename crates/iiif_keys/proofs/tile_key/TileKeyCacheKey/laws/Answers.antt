use Rattle.iiif_keys.proofs.Meant.{tile_meant, fitting_tile_key, tile_key_small, tile_val_small}
use Rattle.iiif_keys.proofs.Shaped.{tile_shaped}
use Rattle.iiif_keys.proofs.tile_key.TileKeyCacheKey.laws.Goals as goal

pub returns-clause-meant : goal.returns-clause-meant
returns-clause-meant c = tile_meant

pub returns-clause-keys : goal.returns-clause-keys
returns-clause-keys c = fitting_tile_key

pub returns-clause-key_len : goal.returns-clause-key_len
returns-clause-key_len c = tile_key_small

pub returns-clause-val_len : goal.returns-clause-val_len
returns-clause-val_len c = tile_val_small

pub returns-clause-shapes : goal.returns-clause-shapes
returns-clause-shapes c = tile_shaped
