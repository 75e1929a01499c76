use Rattle.iiif_keys.proofs.Read.{tile_val_only_read}
use Rattle.iiif_keys.proofs.tile_key.TileKeyCacheKey.value_from.Goals as goal

pub returns-clause-only : goal.returns-clause-only
returns-clause-only c v is spelled = tile_val_only_read c.decode.result c.args.bytes.now v is spelled c.decode.ensures.value
    c.decode.ensures.refused
