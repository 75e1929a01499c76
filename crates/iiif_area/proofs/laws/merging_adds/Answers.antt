use Rattle.iiif_area.proofs.MergeLaws.{merging_lem}
use Rattle.iiif_area.proofs.PieceLaws.{pieces_merge}
use Rattle.iiif_area.proofs.laws.merging_adds.Goals as goal

pub returns : goal.returns
returns c = record { one = merging_lem; all = pieces_merge }
