use Rattle.std.proofs.Common.{◌^◌, arith}
use Rattle.std.proofs.lemmas.Nat.{pow_pos}
use Rattle.iiif_area.proofs.AverageLaws.{average_by_halves}
use Rattle.iiif_area.proofs.averages.average_of_halves.Goals as goal

pub returns : goal.returns
returns c = omega (arith, average_by_halves c.args.sum (2 ^ c.args.bits) c.args.top (pow_pos c.args.bits))
