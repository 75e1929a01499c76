use Rattle.iiif_area.proofs.PieceLaws.{others_add_nothing, bands_are_cut}
use Rattle.iiif_area.proofs.laws.bands_are_made_of_parts.Goals as goal

pub returns : goal.returns
returns c = record { sums = others_add_nothing; scaled = bands_are_cut }
