use Rattle.std.proofs.Common.{arith}
use Rattle.iiif_keys.proofs.ValueBytes.{length-tile_bytes, same_samples}
use Rattle.iiif_machine.proofs.keys.tile_val_len.Goals as goal

pub returns-clause-len : goal.returns-clause-len
returns-clause-len c =
    omega (
      arith,
      length-tile_bytes c.args.value.now,
      same_samples _ _ _ _ c.samples.ensures.depth c.samples.ensures.all,
      c.samples_len.ensures.len,
    )
