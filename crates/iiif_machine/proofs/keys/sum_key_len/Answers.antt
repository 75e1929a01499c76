use Rattle.std.proofs.Common.{ℕ, length, ap, arith}
use Rattle.iiif_keys.proofs.KeyBytes.{length-sum_key}
use Rattle.iiif_machine.proofs.keys.sum_key_len.Goals as goal

pub returns-clause-len : goal.returns-clause-len
returns-clause-len c = omega (arith, length-sum_key c.args.key.now, ap (length {A = ℕ}) c.as_str.ensures.text)
