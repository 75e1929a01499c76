use Rattle.iiif_keys.specs.Bytes.{tile_key_bytes}
use Rattle.iiif_keys.proofs.Written.{four_written}
use Rattle.iiif_keys.proofs.tile_key.TileKeyCacheKey.bytes.Goals as goal

pub returns : goal.returns
unfolding tile_key_bytes
returns c =
    four_written _ _ _ _ _ _ _ _ _ c.in_ok-out.ensures.items c.in_ok-put_name.ensures c.in_ok-put_long.ensures c.in_ok-put_long-2.ensures
    c.in_ok-put_long-3.ensures
