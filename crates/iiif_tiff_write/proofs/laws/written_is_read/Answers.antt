use Rattle.iiif_tiff_write.proofs.ReadingLaw.{accepted, shows, shows_bitonal}
use Rattle.iiif_tiff_write.proofs.laws.written_is_read.Goals as goal

pub returns : goal.returns
returns c = record {
  accepted = accepted;
  shown = shows;
  bits = shows_bitonal;
}
