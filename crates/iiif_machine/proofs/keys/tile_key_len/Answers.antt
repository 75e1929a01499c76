use Rattle.std.proofs.Common.{ℕ, length, ap, arith}
use Rattle.iiif_keys.proofs.KeyBytes.{length-tile_key}
use Rattle.iiif_machine.proofs.keys.tile_key_len.Goals as goal

pub returns-clause-len : goal.returns-clause-len
returns-clause-len c = omega (arith, length-tile_key c.args.key.now, ap (length {A = ℕ}) c.as_str.ensures.text)
