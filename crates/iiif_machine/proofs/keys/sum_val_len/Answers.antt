use Rattle.std.proofs.Common.{ℕ, length, ap, arith}
use Rattle.iiif_keys.proofs.ValueBytes.{length-sum_val}
use Rattle.iiif_machine.proofs.keys.sum_val_len.Goals as goal

pub returns-clause-len : goal.returns-clause-len
returns-clause-len c = omega (arith, length-sum_val c.args.value.now, ap (length {A = ℕ}) c.sums.ensures.all)
