use Rattle.std.proofs.Common.{arith, rules}
use Rattle.iiif_keys.specs.Bytes.{tile_val_bytes}
use Rattle.iiif_peer_link.proofs.Long.{room_for, tile_len}
use Rattle.iiif_peer_link.proofs.lengths.tile_reply_len.Goals as goal

pub returns-clause-value : goal.returns-clause-value
returns-clause-value c = search rules

pub returns-clause-room : goal.returns-clause-room
returns-clause-room c =
    λ v shape is. room_for (tile_val_bytes v) _ (omega (arith, tile_len c.args.shape.now c.args.key.now v shape is, returns-clause-value c))
