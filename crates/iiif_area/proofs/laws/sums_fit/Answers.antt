use Rattle.iiif_area.proofs.AreaLaws.{area-le, area-fits}
use Rattle.iiif_area.proofs.laws.sums_fit.Goals as goal

pub returns : goal.returns
returns c = record { bounded = area-le; fit = area-fits }
