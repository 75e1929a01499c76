use Rattle.std.proofs.Common.{arith}
use Rattle.std.proofs.lemmas.Nat.{trailing_le}
use Rattle.iiif_area.proofs.AverageLaws.{doubled_shift}
use Rattle.iiif_area.proofs.averages.half_power.Goals as goal

pub returns-then-area-bits-clause-half : goal.returns-then-area-bits-clause-half
returns-then-area-bits-clause-half c =
    let whole = doubled_shift c.args.area c.saturating_sub-bits.result (omega (arith, trailing_le 64 c.args.area)) c.requires
    c.if-area-bits.true in
    omega arith
