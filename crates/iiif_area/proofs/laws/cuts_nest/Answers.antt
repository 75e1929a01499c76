use Rattle.iiif_area.proofs.NestLaws.{cuts_nest}
use Rattle.iiif_area.proofs.laws.cuts_nest.Goals as goal

pub returns : goal.returns
returns c = cuts_nest
