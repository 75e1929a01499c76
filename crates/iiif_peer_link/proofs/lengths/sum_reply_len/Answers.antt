use Rattle.std.proofs.Common.{arith, rules}
use Rattle.iiif_keys.specs.Bytes.{sum_val_bytes}
use Rattle.iiif_peer_link.proofs.Long.{room_for, sum_len}
use Rattle.iiif_peer_link.proofs.lengths.sum_reply_len.Goals as goal

pub returns-clause-value : goal.returns-clause-value
returns-clause-value c = search rules

pub returns-clause-room : goal.returns-clause-room
returns-clause-room c =
    λ v shape is. room_for (sum_val_bytes v) _ (omega (arith, sum_len c.args.shape.now c.args.key.now v shape is, returns-clause-value c))
