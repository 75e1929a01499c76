use Rattle.iiif_tiff_write.proofs.BandLemmas.{strip_no_rows, strip_more_rows, strip_all_rows, strip_bands}
use Rattle.iiif_tiff_write.proofs.laws.bands_join.Goals as goal

pub returns : goal.returns
returns c = record {
  none = strip_no_rows;
  more = strip_more_rows;
  all = strip_all_rows;
  bands = strip_bands;
}
