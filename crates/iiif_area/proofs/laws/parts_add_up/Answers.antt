use Rattle.iiif_area.proofs.AreaLaws.{area_split_columns, area_split_rows}
use Rattle.iiif_area.proofs.CutLaws.{cuts_add_up}
use Rattle.iiif_area.proofs.laws.parts_add_up.Goals as goal

pub returns : goal.returns
returns c = record { at_column = area_split_columns; at_row = area_split_rows; however_cut = cuts_add_up }
