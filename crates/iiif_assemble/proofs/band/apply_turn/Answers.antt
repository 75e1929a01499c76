use Rattle.std.proofs.Common.{arith}
use Rattle.iiif_assemble.proofs.HeldLemmas.{held_turned}
use Rattle.iiif_assemble.proofs.band.apply_turn.Goals as goal

pub returns-in-Ok-clause-held : goal.returns-in-Ok-clause-held
returns-in-Ok-clause-held c within =
    held_turned c.args.by c.args.made.raster c.in-Ok.raster c.args.made.held c.count_of.result c.count_of-in-Ok.result c.max-held.result
    c.requires c.in-Ok.ensures c.count_of.ensures.count
    c.count_of-in-Ok.ensures.count (omega (arith, c.max-held.ensures)) within
